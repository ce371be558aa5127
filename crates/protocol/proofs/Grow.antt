-- A link opened, a packet recorded, a packet that ends, a mark written.
use Rattle.std.proofs.Common.{◌≡◌, ℕ, zero, suc, ◌+◌, ◌<◌, ◌≤◌, Bool, true, false, cond, not, ◌&&◌, eqb, List, [], ◌∷◌, ◌++◌, map, length, get_or, set, Some, None, sym, refl, ap, ◌∙◌, subst, ⊎_elim, arith}
use Rattle.std.proofs.lemmas.List.{append_assoc, get_or_append_left, length-append, length_push, get_or_push, map-set, set-get_or, get_or-map}
use Rattle.std.proofs.lemmas.Bool.{eqb-true, eq-eqb, cases_lt, ltb-false, not-true}
use Rattle.sums.specs.Sums.{count, gate}
use Rattle.register.specs.Keys.{place}
use Rattle.denom.specs.Denomination.{same_denom}
use Rattle.protocol.specs.House.{chains_most, channels_most, escrow_account}
use Rattle.protocol.specs.Ledger.{Balances}
use Rattle.protocol.specs.Book.{Book, taken}
use Rattle.protocol.specs.World.{End, Link, Packet, same_end, ends, end_at, lane_out, in_use, lowest_unused, no_end, no_denom, numbers_from}
use Rattle.protocol.specs.Calls.{no_packet, no_more_standing, same_kind}
use Rattle.protocol.proofs.Sums.{total_push}
use Rattle.protocol.proofs.Places.{place_hit, place_first, same_end_refl}
use Rattle.protocol.proofs.Homes.{Apart, ends_append, from_end_grows, lane_out_grows, leads_grows}
use Rattle.protocol.proofs.Good.{Registers, Names, Wired, Idle, Traced, Sound, Key, no_key, key, on_lane, Numbered}

-- Distinct elements

-- no element stands at two places
abbrev pub Distinct : {X : Type 0} → X → List X → Type 0
Distinct d xs = (i j : ℕ) → i < length xs → j < length xs → get_or xs i d ≡ get_or xs j d → i ≡ j

-- a new element behind distinct ones
pub distinct_push :
    {X : Type 0} (d : X) (xs : List X) (y : X) → Distinct d xs →
    ((i : ℕ) → i < length xs → get_or xs i d ≡ y → ⊥) → Distinct d (xs ++ y ∷ [])
distinct_push {X} d xs y h new i j l m e = ⊎_elim (λ a. ⊎_elim (both a) (λ b. absurd (new i a (left a ∙ e ∙ right j m b))) (cases_lt j (length xs)))
    (λ a. ⊎_elim (λ b. absurd (new j b (left_of j b ∙ sym e ∙ right i l a))) (λ b. omega (arith, length_push xs y)) (cases_lt j (length xs)))
    (cases_lt i (length xs))
  where
    left_of : (k : ℕ) → k < length xs → get_or xs k d ≡ get_or (xs ++ y ∷ []) k d
    left_of k a = sym (get_or_append_left xs (y ∷ []) d k a)

    left : i < length xs → get_or xs i d ≡ get_or (xs ++ y ∷ []) i d
    left a = left_of i a

    right : (k : ℕ) → k < length (xs ++ y ∷ []) → length xs ≤ k → get_or (xs ++ y ∷ []) k d ≡ y
    right k a b = get_or_push xs y d k (omega (arith, length_push xs y))

    both : i < length xs → j < length xs → i ≡ j
    both a b = h i j a b (left a ∙ e ∙ sym (left_of j b))

-- Links

-- no end is that of a channel not in use
pub unused_new :
    (ls : List Link) (c k : ℕ) → in_use ls c k ≡ false → (i : ℕ) → i < length (ends ls) →
    get_or (ends ls) i no_end ≡ end_at c k → ⊥
unused_new ls c k h i l e =
    let t : same_end (end_at c k) (get_or (ends ls) i no_end) ≡ true = rw e (same_end_refl (end_at c k)) in
    omega (arith, place_first (same_end (end_at c k)) (ends ls) i no_end l t, ltb-false (lane_out ls c k) (length (ends ls)) h)

-- the i-th of the numbers from k on
numbers_at : (k n i : ℕ) → i < n → get_or (numbers_from k n) i 0 ≡ k + i
numbers_at k zero i h = absurd (omega arith)
numbers_at k (suc n) zero h = omega arith
numbers_at k (suc n) (suc i) h = omega (arith, numbers_at (suc k) n i (omega arith))

-- the lowest unused channel is not in use
pub lowest_is_unused : (ls : List Link) (c : ℕ) → lowest_unused ls c < channels_most → in_use ls c (lowest_unused ls c) ≡ false
unfolding lowest_unused
lowest_is_unused ls c h =
    let t = place_hit (λ k. not (in_use ls c k)) (numbers_from 0 channels_most) 0 h in
    let e : get_or (numbers_from 0 channels_most) (lowest_unused ls c) 0 ≡ lowest_unused ls c =
    omega (arith, numbers_at 0 channels_most (lowest_unused ls c) h) in
    not-true (in_use ls c (lowest_unused ls c)) (subst (λ k. not (in_use ls c k) ≡ true) e t)

module _ (ls : List Link) (e₀ e₁ : End) (k : Bool) where
  -- the ends with a new link's two behind
  pub ends_push : ends (ls ++ record { end₀ = e₀; end₁ = e₁; kind = k } ∷ []) ≡ (ends ls ++ e₀ ∷ []) ++ e₁ ∷ []
  ends_push =
      ends_append ls (record { end₀ = e₀; end₁ = e₁; kind = k } ∷ []) ∙ sym (append_assoc (ends ls) (e₀ ∷ []) (e₁ ∷ []))

  -- a link between two chains by channels not in use
  pub wired_push :
      Wired ls → e₀.chain < chains_most → e₁.chain < chains_most → e₀.channel < channels_most → e₁.channel < channels_most → (e₀.chain ≡ e₁.chain → ⊥) →
      in_use ls e₀.chain e₀.channel ≡ false → in_use ls e₁.chain e₁.channel ≡ false →
      Wired (ls ++ record { end₀ = e₀; end₁ = e₁; kind = k } ∷ [])
  wired_push w s₀ s₁ n₀ n₁ ne u₀ u₁ = record { apart = apart'; small = λ i l. (both' i l).0; narrow = λ i l. (both' i l).1 }
    where
      d₀ : Distinct no_end (ends ls ++ e₀ ∷ [])
      d₀ = distinct_push no_end (ends ls) e₀ w.apart (unused_new ls e₀.chain e₀.channel u₀)

      new₁ : (i : ℕ) → i < length (ends ls ++ e₀ ∷ []) → get_or (ends ls ++ e₀ ∷ []) i no_end ≡ e₁ → ⊥
      new₁ i l e = ⊎_elim old new (cases_lt i (length (ends ls)))
        where
          old : i < length (ends ls) → ⊥
          old m = unused_new ls e₁.chain e₁.channel u₁ i m (sym (get_or_append_left (ends ls) (e₀ ∷ []) no_end i m) ∙ e)

          new : length (ends ls) ≤ i → ⊥
          new m =
              ne (ap (λ (x : End). x.chain) (sym (get_or_push (ends ls) e₀ no_end i (omega (arith, length_push (ends ls) e₀))) ∙ e))

      apart' : Apart (ls ++ record { end₀ = e₀; end₁ = e₁; kind = k } ∷ [])
      apart' = subst (Distinct no_end) (sym ends_push) (distinct_push no_end (ends ls ++ e₀ ∷ []) e₁ d₀ new₁)

      Small : List End → Type 0
      Small es = (i : ℕ) → i < length es → ((get_or es i no_end).chain < chains_most) × ((get_or es i no_end).channel < channels_most)

      small_push : (es : List End) (y : End) → Small es → (y.chain < chains_most) × (y.channel < channels_most) → Small (es ++ y ∷ [])
      small_push es y h b i l = ⊎_elim old new (cases_lt i (length es))
        where
          old : i < length es → ((get_or (es ++ y ∷ []) i no_end).chain < chains_most) × ((get_or (es ++ y ∷ []) i no_end).channel < channels_most)
          old m = rw (get_or_append_left es (y ∷ []) no_end i m) (h i m)

          new : length es ≤ i → ((get_or (es ++ y ∷ []) i no_end).chain < chains_most) × ((get_or (es ++ y ∷ []) i no_end).channel < channels_most)
          new m = rw (get_or_push es y no_end i (omega (arith, length_push es y))) b

      both' : Small (ends (ls ++ record { end₀ = e₀; end₁ = e₁; kind = k } ∷ []))
      both' =
          subst Small (sym ends_push)
          (small_push (ends ls ++ e₀ ∷ []) e₁ (small_push (ends ls) e₀ (λ i l. (w.small i l, w.narrow i l)) (s₀, n₀)) (s₁, n₁))

-- escrows of unused channels stay empty
pub idle_links : (ls ms : List Link) (b : Balances) → Idle ls b → Idle (ls ++ ms) b
idle_links ls ms b h c k d l = ⊎_elim used (h c k d) (cases_lt (lane_out ls c k) (length (ends ls)))
  where
    used : lane_out ls c k < length (ends ls) → b c (escrow_account k) d ≡ 0
    used m =
        let n : length (ends (ls ++ ms)) ≡ length (ends ls) + length (ends ms) =
        ap length (ends_append ls ms) ∙ length-append (ends ls) (ends ms) in
        absurd (omega (arith, lane_out_grows ls ms c k m))

-- hops lead where they led
pub traced_links : (ls ms : List Link) (reg : Registers) → Traced ls reg → Traced (ls ++ ms) reg
traced_links ls ms reg h c d l = leads_grows ls ms (get_or (reg c) d no_denom).hops c (h c d l)

-- packets stay sound
pub sound_links : (ls ms : List Link) (reg : Registers) (p : Packet) → Sound ls reg p → Sound (ls ++ ms) reg p
sound_links ls ms reg p s =
    let e = from_end_grows ls ms p.lane s.lane_in in
    let n : length (ends (ls ++ ms)) ≡ length (ends ls) + length (ends ms) =
    ap length (ends_append ls ms) ∙ length-append (ends ls) (ends ms) in
    record {
      lane_in = omega (arith, s.lane_in);
      sender_in = s.sender_in;
      receiver_in = s.receiver_in;
      named =
          subst
          (λ (x : End). Names reg x.chain (place (same_denom p.denom) (reg x.chain)) p.denom)
          (sym e)
          s.named;
    }

-- Keys

-- a key more on its lane
pub on_lane_push : (i : ℕ) (ks : List Key) (k : Key) → on_lane i (ks ++ k ∷ []) ≡ on_lane i ks + gate (eqb k.0 i) 1
on_lane_push i ks k = total_push (λ (x : Key). gate (eqb x.0 i) 1) ks k

-- packets on a lane are keys on it
pub on_lane_keys : (i : ℕ) (ps : List Packet) → count (λ p. eqb p.lane i) ps ≡ on_lane i (map key ps)
on_lane_keys i [] = refl
on_lane_keys i (p ∷ ps) = ap (λ n. gate (eqb p.lane i) 1 + n) (on_lane_keys i ps)

-- the next sequence of a lane
pub numbered_push :
    (ks : List Key) (bs : Bool → Book) (i : ℕ) → Numbered ks bs → Numbered (ks ++ (i, suc (on_lane i ks)) ∷ []) bs
numbered_push ks bs i h =
    record {
      distinct = distinct_push no_key ks k h.distinct new;
      upto = λ q l. ⊎_elim (old q) (last q l) (cases_lt q (length ks));
      fresh = λ b j s l. h.fresh b j s (omega (arith, on_lane_push j ks k));
    }
  where
    k : Key
    k = (i, suc (on_lane i ks))

    new : (q : ℕ) → q < length ks → get_or ks q no_key ≡ (i, suc (on_lane i ks)) → ⊥
    new q l e =
        let a : (get_or ks q no_key).0 ≡ i = ap (λ (x : Key). x.0) e in
        let b : (get_or ks q no_key).1 ≡ suc (on_lane i ks) = ap (λ (x : Key). x.1) e in
        let c : on_lane (get_or ks q no_key).0 ks ≡ on_lane i ks = ap (λ j. on_lane j ks) a in
        omega (arith, h.upto q l)

    Upto : Key → Type 0
    Upto x = x.1 ≤ on_lane x.0 (ks ++ (i, suc (on_lane i ks)) ∷ [])

    old : (q : ℕ) → q < length ks → Upto (get_or (ks ++ (i, suc (on_lane i ks)) ∷ []) q no_key)
    old q l =
        rw (get_or_append_left ks ((i, suc (on_lane i ks)) ∷ []) no_key q l)
        (omega (arith, h.upto q l, on_lane_push (get_or ks q no_key).0 ks (i, suc (on_lane i ks))))

    last :
        (q : ℕ) → q < length (ks ++ (i, suc (on_lane i ks)) ∷ []) → length ks ≤ q →
        Upto (get_or (ks ++ (i, suc (on_lane i ks)) ∷ []) q no_key)
    last q l m =
        let t : gate (eqb i i) 1 ≡ 1 = ap (λ b. gate b 1) (eq-eqb i i refl) in
        rw (get_or_push ks (i, suc (on_lane i ks)) no_key q (omega (arith, length_push ks (i, suc (on_lane i ks)))))
        (omega (arith, on_lane_push i ks (i, suc (on_lane i ks))))

-- a mark under a key that is given out
pub numbered_mark :
    (ks : List Key) (bs : Bool → Book) (kind : Bool) (q i s m : ℕ) → q < length ks → get_or ks q no_key ≡ (i, s) →
    Numbered ks bs →
    Numbered ks (λ k. cond (same_kind k kind) (taken (bs k) i s m) (bs k))
numbered_mark ks bs kind q i s m l e h =
    record {
      distinct = h.distinct;
      upto = h.upto;
      fresh = λ k j t n. go k j t n (same_kind k kind) (eqb j i) (eqb t s) (eqb-true j i) (eqb-true t s);
    }
  where
    used : s ≤ on_lane i ks
    used = subst (λ (x : Key). x.1 ≤ on_lane x.0 ks) e (h.upto q l)

    go :
        (k : Bool) (j t : ℕ) → on_lane j ks < t → (a b c : Bool) → (b ≡ true → j ≡ i) → (c ≡ true → t ≡ s) →
        (cond a (record { strict = (bs k).strict; mark = λ i' s'. cond (eqb i' i && eqb s' s) (Some m) ((bs k).mark i' s') }) (bs k)).mark j t ≡ None
    go k j t n false b c f g = h.fresh k j t n
    go k j t n true b c f g = inner (eqb j i) (eqb t s) (eqb-true j i) (eqb-true t s)
      where
        inner : (b c : Bool) → (b ≡ true → j ≡ i) → (c ≡ true → t ≡ s) → cond (b && c) (Some m) ((bs k).mark j t) ≡ None
        inner true true f g =
            absurd (omega (arith, used, ap (λ x. on_lane x ks) (f refl), g refl))
        inner true false f g = h.fresh k j t n
        inner false c f g = h.fresh k j t n

-- an ended packet keeps its key
pub keys_ended :
    (ps : List Packet) (q : ℕ) → q < length ps →
    map key (set ps q (no_more_standing (get_or ps q no_packet))) ≡ map key ps
keys_ended ps q l =
    map-set key ps q (no_more_standing (get_or ps q no_packet)) ∙
    ap (set (map key ps) q) (sym (get_or-map key ps q no_packet no_key l)) ∙
    set-get_or (map key ps) q no_key

-- and stays sound
pub sound_ended : (ls : List Link) (reg : Registers) (p : Packet) → Sound ls reg p → Sound ls reg (no_more_standing p)
sound_ended ls reg p s =
    record { lane_in = s.lane_in; sender_in = s.sender_in; receiver_in = s.receiver_in; named = s.named }

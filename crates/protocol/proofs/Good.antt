-- What holds at every moment, part by part, and what each small change does to it.
use Rattle.std.proofs.Common.{◌≡◌, ℕ, ◌<◌, ◌≤◌, Bool, true, false, cond, not, ◌&&◌, eqb, ◌⊎◌, List, [], ◌∷◌, ◌++◌, map, length, get_or, None, sym, refl, ap, ◌∙◌, subst, inl, inr, ⊎_elim, arith}
use Rattle.std.specs.List.{AllByRecursion as All}
use Rattle.std.proofs.lemmas.List.{get_or_append_left, length_push, get_or_push}
use Rattle.std.proofs.lemmas.Bool.{eqb-true, eq-eqb, both_ways, cases_lt, ltb-true, ltb-false}
use Rattle.sums.specs.Sums.{count}
use Rattle.register.specs.Keys.{place, found}
use Rattle.denom.specs.Denomination.{Denom, same_denom}
use Rattle.protocol.specs.House.{chains_most, channels_most, users, escrow_account}
use Rattle.protocol.specs.Ledger.{Balances, put}
use Rattle.protocol.specs.Book.{Book}
use Rattle.protocol.specs.World.{Link, Packet, World, ends, from_end, lane_out, no_denom}
use Rattle.protocol.proofs.Places.{place_le, place_hit, place_append, same_denom_true}
use Rattle.protocol.proofs.Homes.{Apart, Leads}

-- each chain's denominations
abbrev pub Registers : Type 0
Registers = ℕ → List Denom

-- no balance under a number that is not given out
abbrev pub Blank : Registers → Balances → Type 0
Blank reg b = (c a d : ℕ) → length (reg c) ≤ d → b c a d ≡ 0

-- d is the number of e on c
abbrev pub Names : Registers → ℕ → ℕ → Denom → Type 0
Names reg c d e = (d < length (reg c)) × (get_or (reg c) d no_denom ≡ e)

-- the ends of links are apart, each a channel 0 to 7 of a chain 0 to 7
pub record Wired (ls : List Link) : Type 0 where
  pub apart : Apart ls
  pub small : (i : ℕ) → i < length (ends ls) → (from_end ls i).chain < chains_most
  pub narrow : (i : ℕ) → i < length (ends ls) → (from_end ls i).channel < channels_most

-- the escrow of a channel that is not in use is empty
abbrev pub Idle : List Link → Balances → Type 0
Idle ls b = (c k d : ℕ) → length (ends ls) ≤ lane_out ls c k → b c (escrow_account k) d ≡ 0

-- the hops of what is registered lead through channels in use
abbrev pub Traced : List Link → Registers → Type 0
Traced ls reg = (c d : ℕ) → d < length (reg c) → Leads ls (get_or (reg c) d no_denom).hops c

-- a packet's lane is there, its users are users, its denomination is registered where it was sent from
pub record Sound (ls : List Link) (reg : Registers) (p : Packet) : Type 0 where
  pub lane_in : p.lane < length (ends ls)
  pub sender_in : p.sender < users
  pub receiver_in : p.receiver < users
  pub named :
      Names reg (from_end ls p.lane).chain (place (same_denom p.denom) (reg (from_end ls p.lane).chain)) p.denom

-- a packet's lane and sequence
abbrev pub Key : Type 0
Key = ℕ × ℕ

-- what is read where there is none
abbrev pub no_key : Key
no_key = (0, 0)

-- the key of a packet
abbrev pub key : Packet → Key
key p = (p.lane, p.sequence)

-- how many keys are on a lane
abbrev pub on_lane : ℕ → List Key → ℕ
on_lane i ks = count (λ (k : Key). eqb k.0 i) ks

-- keys are apart, sequences count from 1 on each lane, and above them nothing is marked
pub record Numbered (ks : List Key) (bs : Bool → Book) : Type 0 where
  pub distinct : (q r : ℕ) → q < length ks → r < length ks → get_or ks q no_key ≡ get_or ks r no_key → q ≡ r
  pub upto : (q : ℕ) → q < length ks → (get_or ks q no_key).1 ≤ on_lane (get_or ks q no_key).0 ks
  pub fresh : (k : Bool) (i s : ℕ) → on_lane i ks < s → (bs k).mark i s ≡ None

-- all of it
pub record Good (w : World) : Type 0 where
  pub blank : Blank w.register w.ledger.balance
  pub wired : Wired w.links
  pub traced : Traced w.links w.register
  pub sound : All (Sound w.links w.register) w.packets
  pub numbered : Numbered (map key w.packets) w.books
  pub idle : Idle w.links w.ledger.balance

-- Balances

-- a balance changes under a number that is given out
pub blank_put : (reg : Registers) (b : Balances) (c a d x : ℕ) → d < length (reg c) → Blank reg b → Blank reg (put b c a d x)
blank_put reg b c a d x l h c' a' d' m =
    go (eqb c' c) (eqb a' a) (eqb d' d) (eqb-true c' c) (eqb-true d' d)
  where
    go : (p q r : Bool) → (p ≡ true → c' ≡ c) → (r ≡ true → d' ≡ d) → cond (p && q && r) x (b c' a' d') ≡ 0
    go true true true e f =
        let g : length (reg c') ≡ length (reg c) = ap (λ k. length (reg k)) (e refl) in
        absurd (omega (arith, f refl))
    go true true false e f = h c' a' d' m
    go true false r e f = h c' a' d' m
    go false q r e f = h c' a' d' m

-- a user's account, or the escrow of a channel in use
abbrev pub Used : List Link → ℕ → ℕ → Type 0
Used ls c a = (k : ℕ) → escrow_account k ≡ a → lane_out ls c k < length (ends ls)

-- a balance changes in an account that is used
pub idle_put :
    (ls : List Link) (b : Balances) (c a d x : ℕ) → Used ls c a → Idle ls b → Idle ls (put b c a d x)
idle_put ls b c a d x u h c' k d' m =
    go (eqb c' c) (eqb (escrow_account k) a) (eqb d' d) (eqb-true c' c) (eqb-true (escrow_account k) a)
  where
    go : (p q r : Bool) → (p ≡ true → c' ≡ c) → (q ≡ true → escrow_account k ≡ a) → cond (p && q && r) x (b c' (escrow_account k) d') ≡ 0
    go true true true e f =
        let g : lane_out ls c' k ≡ lane_out ls c k = ap (λ y. lane_out ls y k) (e refl) in
        absurd (omega (arith, u k (f refl)))
    go true true false e f = h c' k d' m
    go true false r e f = h c' k d' m
    go false q r e f = h c' k d' m

-- a user's account
pub used_user : (ls : List Link) (c u : ℕ) → u < users → Used ls c u
used_user ls c u l k e = absurd (omega arith)

-- the escrow of a channel in use
pub used_escrow : (ls : List Link) (c k : ℕ) → lane_out ls c k < length (ends ls) → Used ls c (escrow_account k)
used_escrow ls c k l j e =
    let f : j ≡ k = omega arith in
    subst (λ x. lane_out ls c x < length (ends ls)) (sym f) l

-- Registers

-- what is found has its place for a number
pub names_found :
    (reg : Registers) (c : ℕ) (e : Denom) → place (same_denom e) (reg c) < length (reg c) →
    Names reg c (place (same_denom e) (reg c)) e
names_found reg c e h =
    (h, sym (same_denom_true e (get_or (reg c) (place (same_denom e) (reg c)) no_denom) (place_hit (same_denom e) (reg c) no_denom h)))

-- what enrolling e on c makes of the registers
abbrev pub grown : Registers → ℕ → Denom → Registers
grown reg c e = λ c'. cond (eqb c' c && not (found (same_denom e) (reg c))) (reg c' ++ e ∷ []) (reg c')

module _ (reg : Registers) (c : ℕ) (e : Denom) where
  -- each register stays, or is c's with e behind it, which was not there
  pub grown_cases :
      (c' : ℕ) →
      (grown reg c e c' ≡ reg c') ⊎
      ((c' ≡ c) × (length (reg c) ≤ place (same_denom e) (reg c)) × (grown reg c e c' ≡ reg c' ++ e ∷ []))
  grown_cases c' = go (eqb c' c) (found (same_denom e) (reg c)) (eqb-true c' c) (ltb-false (place (same_denom e) (reg c)) (length (reg c)))
    where
      go :
          (p q : Bool) → (p ≡ true → c' ≡ c) → (q ≡ false → length (reg c) ≤ place (same_denom e) (reg c)) →
          (cond (p && not q) (reg c' ++ e ∷ []) (reg c') ≡ reg c') ⊎
          ((c' ≡ c) × (length (reg c) ≤ place (same_denom e) (reg c)) × (cond (p && not q) (reg c' ++ e ∷ []) (reg c') ≡ reg c' ++ e ∷ []))
      go true true f g = inl refl
      go true false f g = inr (f refl, g refl, refl)
      go false q f g = inl refl

  -- no register gets shorter
  pub grown_length : (c' : ℕ) → length (reg c') ≤ length (grown reg c e c')
  grown_length c' =
      ⊎_elim
      (λ h. omega (arith, ap length h))
      (λ h. omega (arith, ap length h.2, length_push (reg c') e))
      (grown_cases c')

  -- old numbers keep their denominations
  pub grown_old : (c' d : ℕ) → d < length (reg c') → get_or (grown reg c e c') d no_denom ≡ get_or (reg c') d no_denom
  grown_old c' d l =
      ⊎_elim
      (λ h. ap (λ (xs : List Denom). get_or xs d no_denom) h)
      (λ h. ap (λ (xs : List Denom). get_or xs d no_denom) h.2 ∙ get_or_append_left (reg c') (e ∷ []) no_denom d l)
      (grown_cases c')

  -- and denominations their numbers
  pub grown_place :
      (c' : ℕ) (f : Denom) → place (same_denom f) (reg c') < length (reg c') →
      place (same_denom f) (grown reg c e c') ≡ place (same_denom f) (reg c')
  grown_place c' f l =
      ⊎_elim
      (λ h. ap (place (same_denom f)) h)
      (λ h. ap (place (same_denom f)) h.2 ∙ place_append (same_denom f) (reg c') (e ∷ []) l)
      (grown_cases c')

  -- so names stay
  pub grown_names : (c' d : ℕ) (f : Denom) → Names reg c' d f → Names (grown reg c e) c' d f
  grown_names c' d f h = (omega (arith, h.0, grown_length c'), grown_old c' d h.0 ∙ h.1)

  -- the number that e has had, or gets
  pub grown_number : Names (grown reg c e) c (place (same_denom e) (reg c)) e
  grown_number = ⊎_elim old new (cases_lt (place (same_denom e) (reg c)) (length (reg c)))
    where
      old : place (same_denom e) (reg c) < length (reg c) → Names (grown reg c e) c (place (same_denom e) (reg c)) e
      old l = grown_names c (place (same_denom e) (reg c)) e (names_found reg c e l)

      new : length (reg c) ≤ place (same_denom e) (reg c) → Names (grown reg c e) c (place (same_denom e) (reg c)) e
      new l =
          let n : place (same_denom e) (reg c) ≡ length (reg c) = omega (arith, place_le (same_denom e) (reg c)) in
          let g : grown reg c e c ≡ reg c ++ e ∷ [] = is_grown l in
          rw g (rw n (omega (arith, length_push (reg c) e), get_or_push (reg c) e no_denom (length (reg c)) refl))
        where
          is_grown : length (reg c) ≤ place (same_denom e) (reg c) → grown reg c e c ≡ reg c ++ e ∷ []
          is_grown l =
              go (eqb c c) (found (same_denom e) (reg c)) (eq-eqb c c refl) (ltb-true (place (same_denom e) (reg c)) (length (reg c)))
            where
              go :
                  (p q : Bool) → p ≡ true → (q ≡ true → place (same_denom e) (reg c) < length (reg c)) →
                  cond (p && not q) (reg c ++ e ∷ []) (reg c) ≡ reg c ++ e ∷ []
              go true true f g = absurd (omega (arith, g refl))
              go true false f g = refl
              go false q f g = absurd (both_ways false refl f)

  -- the new number is blank too
  pub blank_grown : (b : Balances) → Blank reg b → Blank (grown reg c e) b
  blank_grown b h c' a d l = h c' a d (omega (arith, grown_length c'))

  -- a denomination that leads home is enrolled
  pub traced_grown : (ls : List Link) → Leads ls e.hops c → Traced ls reg → Traced ls (grown reg c e)
  traced_grown ls lead h c' d l = ⊎_elim old new (cases_lt d (length (reg c')))
    where
      old : d < length (reg c') → Leads ls (get_or (grown reg c e c') d no_denom).hops c'
      old m = rw (grown_old c' d m) (h c' d m)

      new : length (reg c') ≤ d → Leads ls (get_or (grown reg c e c') d no_denom).hops c'
      new m = ⊎_elim none some' (grown_cases c')
        where
          none : grown reg c e c' ≡ reg c' → Leads ls (get_or (grown reg c e c') d no_denom).hops c'
          none g = absurd (omega (arith, ap length g))

          some' :
              (c' ≡ c) × (length (reg c) ≤ place (same_denom e) (reg c)) × (grown reg c e c' ≡ reg c' ++ e ∷ []) →
              Leads ls (get_or (grown reg c e c') d no_denom).hops c'
          some' g =
              let n : length (reg c') ≡ d = omega (arith, ap length g.2, length_push (reg c') e) in
              let is : get_or (grown reg c e c') d no_denom ≡ e =
              ap (λ (xs : List Denom). get_or xs d no_denom) g.2 ∙ get_or_push (reg c') e no_denom d n in
              rw is (rw g.0 lead)

  -- packets stay sound
  pub sound_grown : (ls : List Link) (p : Packet) → Sound ls reg p → Sound ls (grown reg c e) p
  sound_grown ls p s =
      let x = (from_end ls p.lane).chain in
      record {
        lane_in = s.lane_in;
        sender_in = s.sender_in;
        receiver_in = s.receiver_in;
        named = rw (grown_place x p.denom s.named.0) (grown_names x (place (same_denom p.denom) (reg x)) p.denom s.named);
      }

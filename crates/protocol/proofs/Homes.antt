-- Links and homes: the hop that a receipt adds leads back to where the packet came from, and a home stays as links are opened.
use Rattle.std.proofs.Common.{◌≡◌, ℕ, ◌+◌, ◌-◌, ◌*◌, ◌%◌, ◌<◌, Bool, true, false, cond, eqb, ◌⊎◌, List, [], ◌∷◌, ◌++◌, length, sym, refl, ap, ◌∙◌, subst, inl, inr, arith}
use Rattle.std.proofs.lemmas.Bool.{eqb-true, eqb-false, both_ways}
use Rattle.std.proofs.lemmas.List.{get_or_append_left, length-append}
use Rattle.register.specs.Keys.{place}
use Rattle.denom.specs.Denomination.{Denom, behind, stripped, came_by, first_hop, later_hops}
use Rattle.protocol.specs.World.{End, Link, same_end, ends, back, from_end, to_end, end_at, lane_out, home_of, home_by, no_end}
use Rattle.protocol.proofs.Places.{place_hit, place_first, place_append, same_end_true, same_end_refl}

-- the numbers of lanes

-- two ends a link
pub length_ends : (ls : List Link) → length (ends ls) ≡ 2 * length ls
length_ends [] = refl
length_ends (l ∷ ls) = omega (arith, length_ends ls)

-- back from an odd lane
back_odd : (i : ℕ) → (i % 2 ≡ 0 → ⊥) → back i ≡ i - 1
back_odd i h = go (eqb (i % 2) 0) (eqb-true (i % 2) 0)
  where
    go : (b : Bool) → (b ≡ true → i % 2 ≡ 0) → cond b (i + 1) (i - 1) ≡ i - 1
    go true f = absurd (h (f refl))
    go false f = refl

-- back leads one up from an even lane and one down from an odd one
pub back_cases : (i : ℕ) → ((i % 2 ≡ 0) × (back i ≡ i + 1)) ⊎ ((i % 2 ≡ 1) × (back i + 1 ≡ i))
back_cases i = go (eqb (i % 2) 0) refl
  where
    go : (b : Bool) → eqb (i % 2) 0 ≡ b → ((i % 2 ≡ 0) × (back i ≡ i + 1)) ⊎ ((i % 2 ≡ 1) × (back i + 1 ≡ i))
    go true e = inl (eqb-true (i % 2) 0 e, rw e)
    go false e =
        let ne = eqb-false (i % 2) 0 e in
        inr (omega arith, omega (arith, back_odd i ne))

-- back and back again
pub back_back : (i : ℕ) → back (back i) ≡ i
back_back i = omega (arith, back_cases i, back_cases (back i))

-- back stays among the lanes
pub back_below : (i n : ℕ) → i < 2 * n → back i < 2 * n
back_below i n h = omega (arith, back_cases i)

-- ends are apart
abbrev pub Apart : List Link → Type 0
Apart ls = (i j : ℕ) → i < length (ends ls) → j < length (ends ls) → from_end ls i ≡ from_end ls j → i ≡ j

module _ (ls : List Link) (apart : Apart ls) (i : ℕ) (in' : i < length (ends ls)) where
  -- the lane out of a lane's near end is that lane
  pub lane_of_end : lane_out ls (from_end ls i).chain (from_end ls i).channel ≡ i
  lane_of_end =
      let test = same_end (from_end ls i) in
      let le = place_first test (ends ls) i no_end in' (same_end_refl (from_end ls i)) in
      let lt : place test (ends ls) < length (ends ls) = omega arith in
      let hit = place_hit test (ends ls) no_end lt in
      apart (place test (ends ls)) i lt in' (sym (same_end_true (from_end ls i) (from_end ls (place test (ends ls))) hit))

  -- the lane back is there too
  pub back_in : back i < length (ends ls)
  back_in = rw (length_ends ls) (back_below i (length ls) (rw (length_ends ls) at in'))

module _ (ls : List Link) (apart : Apart ls) (i : ℕ) (in' : i < length (ends ls)) where
  -- the far end's channel leads back
  pub leads_back : to_end ls (lane_out ls (to_end ls i).chain (to_end ls i).channel) ≡ from_end ls i
  leads_back =
      ap (to_end ls) (lane_of_end ls apart (back i) (back_in ls apart i in')) ∙ ap (from_end ls) (back_back i)

  -- the near end's channel leads on
  pub leads_on : to_end ls (lane_out ls (from_end ls i).chain (from_end ls i).channel) ≡ to_end ls i
  leads_on = ap (to_end ls) (lane_of_end ls apart i in')

  -- behind the far end's channel, a denomination has the home that it had
  pub home_behind :
      (e : Denom) →
      home_of ls (to_end ls i).chain (behind (to_end ls i).channel e) ≡ home_of ls (from_end ls i).chain e
  home_behind e = ap (λ (x : End). home_of ls x.chain e) leads_back

  -- and so without its first hop, if that is the near end's channel
  pub home_stripped :
      (e : Denom) → came_by (from_end ls i).channel e ≡ true →
      home_of ls (from_end ls i).chain e ≡ home_of ls (to_end ls i).chain (stripped e)
  home_stripped e h = go e.hops h
    where
      go :
          (hs : List ℕ) → first_hop hs (from_end ls i).channel ≡ true →
          home_of ls (from_end ls i).chain (record { hops = hs; symbol = e.symbol }) ≡
          home_of ls (to_end ls i).chain (record { hops = later_hops hs; symbol = e.symbol })
      go [] f = absurd (both_ways false refl f)
      go (k ∷ ks) f =
          ap (λ j. home_of ls (from_end ls i).chain (record { hops = j ∷ ks; symbol = e.symbol })) (eqb-true k (from_end ls i).channel f) ∙
          ap (λ (x : End). home_of ls x.chain (record { hops = ks; symbol = e.symbol })) leads_on

-- hops that lead through channels in use
abbrev pub Leads : List Link → List ℕ → ℕ → Type 0
Leads ls [] c = Unit {0}
Leads ls (k ∷ ks) c = (lane_out ls c k < length (ends ls)) × Leads ls ks (to_end ls (lane_out ls c k)).chain

-- the ends of two lists of links
pub ends_append : (ls ms : List Link) → ends (ls ++ ms) ≡ ends ls ++ ends ms
ends_append [] ms = refl
ends_append (l ∷ ls) ms = ap (λ (es : List End). l.end₀ ∷ l.end₁ ∷ es) (ends_append ls ms)

module _ (ls ms : List Link) where
  -- an end that was there stays where it was
  pub from_end_grows : (i : ℕ) → i < length (ends ls) → from_end (ls ++ ms) i ≡ from_end ls i
  from_end_grows i h = rw (ends_append ls ms) (get_or_append_left (ends ls) (ends ms) no_end i h)

  -- so does a far end
  pub to_end_grows : (i : ℕ) → i < length (ends ls) → to_end (ls ++ ms) i ≡ to_end ls i
  to_end_grows i h =
      from_end_grows (back i) (rw (length_ends ls) (back_below i (length ls) (rw (length_ends ls) at h)))

  -- a channel in use leads out by the same lane
  pub lane_out_grows : (c k : ℕ) → lane_out ls c k < length (ends ls) → lane_out (ls ++ ms) c k ≡ lane_out ls c k
  lane_out_grows c k h = rw (ends_append ls ms) (place_append (same_end (end_at c k)) (ends ls) (ends ms) h)

  -- and to the same end
  pub hop_grows :
      (c k : ℕ) → lane_out ls c k < length (ends ls) →
      to_end (ls ++ ms) (lane_out (ls ++ ms) c k) ≡ to_end ls (lane_out ls c k)
  hop_grows c k h = ap (to_end (ls ++ ms)) (lane_out_grows c k h) ∙ to_end_grows (lane_out ls c k) h

  -- so hops lead to the same chain
  pub home_grows : (hs : List ℕ) (c : ℕ) → Leads ls hs c → home_by (ls ++ ms) hs c ≡ home_by ls hs c
  home_grows [] c h = refl
  home_grows (k ∷ ks) c h =
      ap (λ (x : End). home_by (ls ++ ms) ks x.chain) (hop_grows c k h.0) ∙
      home_grows ks (to_end ls (lane_out ls c k)).chain h.1

  -- and still through channels in use
  pub leads_grows : (hs : List ℕ) (c : ℕ) → Leads ls hs c → Leads (ls ++ ms) hs c
  leads_grows [] c h = tt
  leads_grows (k ∷ ks) c h =
      let n : length (ends (ls ++ ms)) ≡ length (ends ls) + length (ends ms) =
      ap length (ends_append ls ms) ∙ length-append (ends ls) (ends ms) in (
        omega (arith, h.0, lane_out_grows c k h.0),
        subst (λ (x : End). Leads (ls ++ ms) ks x.chain) (sym (hop_grows c k h.0)) (leads_grows ks (to_end ls (lane_out ls c k)).chain h.1),
      )

-- The place of a key in a list, and sameness.
use Rattle.std.proofs.Common.{◌≡◌, ℕ, zero, suc, ◌+◌, ◌<◌, ◌≤◌, Bool, true, false, cond, eqb, List, [], ◌∷◌, ◌++◌, length, get_or, refl, ap, ap₂, arith}
use Rattle.std.proofs.lemmas.Bool.{eqb-true, eq-eqb, and_parts, both_ways, and_from}
use Rattle.register.specs.Keys.{place}
use Rattle.denom.specs.Denomination.{Token, same_token, same_list, Denom, same_denom}
use Rattle.protocol.specs.World.{End, same_end}

module _ {X : Type 0} (p : X → Bool) where
  -- a place is within the list, or its length
  pub place_le : (xs : List X) → place p xs ≤ length xs
  place_le [] = omega arith
  place_le (x ∷ xs) = go (p x) (place_le xs)
    where
      go : (b : Bool) → place p xs ≤ length xs → cond b 0 (suc (place p xs)) ≤ suc (length xs)
      go true h = omega arith
      go false h = omega arith

  -- what stands at the place passes
  pub place_hit : (xs : List X) (d : X) → place p xs < length xs → p (get_or xs (place p xs) d) ≡ true
  place_hit [] d h = absurd (omega arith)
  place_hit (x ∷ xs) d h = go (p x) refl h (place_hit xs d)
    where
      go :
          (b : Bool) → p x ≡ b → cond b 0 (suc (place p xs)) < suc (length xs) →
          (place p xs < length xs → p (get_or xs (place p xs) d) ≡ true) →
          p (get_or (x ∷ xs) (cond b 0 (suc (place p xs))) d) ≡ true
      go true e l r = e
      go false e l r = r (omega arith)

  -- nothing that passes stands before it
  pub place_first : (xs : List X) (i : ℕ) (d : X) → i < length xs → p (get_or xs i d) ≡ true → place p xs ≤ i
  place_first [] i d l h = absurd (omega arith)
  place_first (x ∷ xs) zero d l h = rw h (omega arith)
  place_first (x ∷ xs) (suc i) d l h = go (p x) (place_first xs i d (omega arith) h)
    where
      go : (b : Bool) → place p xs ≤ i → cond b 0 (suc (place p xs)) ≤ suc i
      go true r = omega arith
      go false r = omega arith

  -- what was found stays where it was
  pub place_append : (xs ys : List X) → place p xs < length xs → place p (xs ++ ys) ≡ place p xs
  place_append [] ys h = absurd (omega arith)
  place_append (x ∷ xs) ys h = go (p x) h (place_append xs ys)
    where
      go :
          (b : Bool) → cond b 0 (suc (place p xs)) < suc (length xs) →
          (place p xs < length xs → place p (xs ++ ys) ≡ place p xs) →
          cond b 0 (suc (place p (xs ++ ys))) ≡ cond b 0 (suc (place p xs))
      go true l r = refl
      go false l r = ap suc (r (omega arith))

  -- what was not found is looked for behind
  pub place_after : (xs ys : List X) → length xs ≤ place p xs → place p (xs ++ ys) ≡ length xs + place p ys
  place_after [] ys h = omega arith
  place_after (x ∷ xs) ys h = go (p x) h (place_after xs ys)
    where
      go :
          (b : Bool) → suc (length xs) ≤ cond b 0 (suc (place p xs)) →
          (length xs ≤ place p xs → place p (xs ++ ys) ≡ length xs + place p ys) →
          cond b 0 (suc (place p (xs ++ ys))) ≡ suc (length xs) + place p ys
      go true l r = absurd (omega arith)
      go false l r = omega (arith, r (omega arith))

-- sameness of keys is equality

-- same lists are equal
pub same_list_true : (xs ys : List ℕ) → same_list xs ys ≡ true → xs ≡ ys
same_list_true [] [] h = refl
same_list_true [] (y ∷ ys) h = absurd (both_ways false refl h)
same_list_true (x ∷ xs) [] h = absurd (both_ways false refl h)
same_list_true (x ∷ xs) (y ∷ ys) h =
    let b = and_parts (eqb x y) (same_list xs ys) h in
    ap₂ ◌∷◌ (eqb-true x y b.0) (same_list_true xs ys b.1)

-- a list is the same as itself
pub same_list_refl : (xs : List ℕ) → same_list xs xs ≡ true
same_list_refl [] = refl
same_list_refl (x ∷ xs) = and_from (eqb x x) (same_list xs xs) (eq-eqb x x refl) (same_list_refl xs)

-- same denominations are equal
pub same_denom_true : (e f : Denom) → same_denom e f ≡ true → e ≡ f
same_denom_true e f h =
    let b = and_parts (same_list e.hops f.hops) (same_list e.symbol f.symbol) h in
    let p = same_list_true e.hops f.hops b.0 in
    let q = same_list_true e.symbol f.symbol b.1 in
    λ i. record { hops = p i; symbol = q i }

-- a denomination is the same as itself
pub same_denom_refl : (e : Denom) → same_denom e e ≡ true
same_denom_refl e =
    and_from (same_list e.hops e.hops) (same_list e.symbol e.symbol) (same_list_refl e.hops) (same_list_refl e.symbol)

-- same ends are equal
pub same_end_true : (e f : End) → same_end e f ≡ true → e ≡ f
same_end_true e f h =
    let b = and_parts (eqb e.chain f.chain) (eqb e.channel f.channel) h in
    let p = eqb-true e.chain f.chain b.0 in
    let q = eqb-true e.channel f.channel b.1 in
    λ i. record { chain = p i; channel = q i }

-- an end is the same as itself
pub same_end_refl : (e : End) → same_end e e ≡ true
same_end_refl e =
    and_from (eqb e.chain e.chain) (eqb e.channel e.channel) (eq-eqb e.chain e.chain refl) (eq-eqb e.channel e.channel refl)

-- a token is the same as itself
pub same_token_refl : (t : Token) → same_token t t ≡ true
same_token_refl t =
    and_from (eqb t.chain t.chain) (same_list t.symbol t.symbol) (eq-eqb t.chain t.chain refl) (same_list_refl t.symbol)

-- Where the first row that passes a test stands.
use Rattle.std.proofs.Common.{◌≡◌, ℕ, zero, suc, ◌+◌, ◌<◌, ◌≤◌, Bool, true, false, not, cond, ltb, List, [], ◌∷◌, ◌++◌, length, get_or, take, set, is_some, IfSome, Some, None, Option, sym, refl, ap, ◌∙◌, subst, ⊎_elim, arith, ltb-false, ltb-true}
use Rattle.std.specs.List.{position_or_len, position}
use Rattle.std.proofs.lemmas.List.{get_or_append_left, get_or_push, length_push, take_more_set}
use Rattle.std.proofs.str.Laws.{order}
use Rattle.register.specs.Keys.{place, found, number_of, kept, kept_count, Distinct, StaysDistinct}

-- the library's words for it
place_is : {K : Type 0} (p : K → Bool) (xs : List K) → position_or_len p xs ≡ place p xs
place_is p [] = refl
place_is p (x ∷ xs) =
    let P : Bool → Type 0 = λ b. cond (not b) (1 + position_or_len p xs) 0 ≡ cond b 0 (suc (place p xs)) in
    elim (p x) as P [ true ↦ refl | false ↦ omega (arith, place_is p xs) ]

pub position_is : {K : Type 0} (p : K → Bool) (xs : List K) → position p xs ≡ number_of p xs
position_is p xs = ap (λ n. cond (ltb n (length xs)) (Some n) None) (place_is p xs)

-- the place is the length at most
pub place_le : {K : Type 0} (p : K → Bool) (xs : List K) → place p xs ≤ length xs
place_le p [] = omega arith
place_le p (x ∷ xs) =
    let P : Bool → Type 0 = λ b. cond b 0 (suc (place p xs)) ≤ suc (length xs) in
    elim (p x) as P [ true ↦ omega arith | false ↦ omega (arith, place_le p xs) ]

-- where no row of x and the others passes, x fails and so do the others
first_fails : (b : Bool) (m n : ℕ) → suc n ≤ cond b 0 (suc m) → (b ≡ false) × (n ≤ m)
first_fails true m n h = absurd (omega arith)
first_fails false m n h = (refl, omega arith)

-- where none was found, each row fails
all_fail : {K : Type 0} (p : K → Bool) (d : K) (xs : List K) → length xs ≤ place p xs → (j : ℕ) → j < length xs → p (get_or xs j d) ≡ false
all_fail p d [] h j lt = absurd (omega arith)
all_fail p d (x ∷ xs) h zero lt = (first_fails (p x) (place p xs) (length xs) h).0
all_fail p d (x ∷ xs) h (suc j) lt = all_fail p d xs (first_fails (p x) (place p xs) (length xs) h).1 j (omega arith)

not_found : {K : Type 0} (p : K → Bool) (xs : List K) → number_of p xs ≡ None → length xs ≤ place p xs
not_found p xs e = go (found p xs) refl e
  where
    go : (b : Bool) → found p xs ≡ b → ◌≡◌ {A = Option ℕ} (cond b (Some (place p xs)) None) None → length xs ≤ place p xs
    go true t f = let z : ◌≡◌ {A = ℕ} 0 1 = cc in absurd (omega arith)
    go false t f = ltb-false (place p xs) (length xs) t

push_distinct : {K : Type 0} (same : K → K → Bool) (xs : List K) (k : K) → Distinct same xs → ((j : ℕ) (d : K) → j < length xs → same k (get_or xs j d) ≡ false) → Distinct same (xs ++ (k ∷ []))
push_distinct same xs k apart fresh i j d below within =
    ⊎_elim
    (λ inside. (λ t. same (get_or_append_left xs (k ∷ []) d j inside t) (get_or_append_left xs (k ∷ []) d i (omega arith) t)) ∙ apart i j d below inside)
    (λ past.
    let last : length xs ≡ j = omega (arith, length_push xs k) in
    (λ t. same (get_or_push xs k d j last t) (get_or_append_left xs (k ∷ []) d i (omega arith) t)) ∙ fresh i d (omega arith))
    (order j (length xs))

pub stays_distinct : {K : Type 0} (same : K → K → Bool) → StaysDistinct same
stays_distinct {K} same ks n k fits apart = go (number_of (same k) (take n ks)) refl
  where
    full : (o : Option ℕ) → (b : Bool) → ltb n (length ks) ≡ b → number_of (same k) (take n ks) ≡ None → Distinct same (take (cond b (n + 1) n) (cond b (set ks n k) ks))
    full o true t e =
        subst (Distinct same) (sym (take_more_set ks n k (ltb-true n (length ks) t)))
        (push_distinct same (take n ks) k apart (λ j d h. all_fail (same k) d (take n ks) (not_found (same k) (take n ks) e) j h))
    full o false t e = apart

    go : (o : Option ℕ) → number_of (same k) (take n ks) ≡ o → Distinct same (take (kept_count (length ks) n o) (kept ks n k o))
    go (Some i) e = apart
    go None e = full None (ltb n (length ks)) refl e

-- a number is answered just where a row passes
pub some_found : {K : Type 0} (p : K → Bool) (xs : List K) → is_some (number_of p xs) ≡ found p xs
some_found p xs = go (found p xs)
  where
    go : (b : Bool) → is_some (cond b (Some (place p xs)) None) ≡ b
    go true = refl
    go false = refl

-- a number that is answered is below the length
pub number_below : {K : Type 0} (p : K → Bool) (xs : List K) (m : ℕ) → length xs ≤ m → (o : Option ℕ) → o ≡ number_of p xs → IfSome o (λ n. n < m)
number_below p xs m few None e = tt
number_below p xs m few (Some n) e = go (found p xs) refl e
  where
    go : (b : Bool) → found p xs ≡ b → ◌≡◌ {A = Option ℕ} (Some n) (cond b (Some (place p xs)) None) → n < m
    go true t f =
        let is : n ≡ place p xs = cc in
        omega (arith, is, ltb-true (place p xs) (length xs) t)
    go false t f = let z : ◌≡◌ {A = ℕ} 0 1 = cc in absurd (omega arith)

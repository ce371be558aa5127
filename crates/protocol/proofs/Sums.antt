-- Sums that change at one place.
use Rattle.std.proofs.Common.{◌≡◌, ℕ, zero, suc, ◌+◌, ◌<◌, ◌≤◌, Bool, true, false, ◌≢◌, List, [], ◌∷◌, ◌++◌, length, get_or, set, sym, refl, ap, ◌∙◌, ⊎_elim, arith}
use Rattle.std.proofs.lemmas.Bool.{cases_eq}
use Rattle.sums.specs.Sums.{sum_below, total, gate}

-- the empty sum
pub sum_none : (f : ℕ → ℕ) → sum_below 0 f ≡ 0
unfolding sum_below
sum_none f = refl

-- one part more
pub sum_more : (n : ℕ) (f : ℕ → ℕ) → sum_below (suc n) f ≡ sum_below n f + f n
unfolding sum_below
sum_more n f = refl

-- sums with the same parts
pub sum_same : (n : ℕ) (f g : ℕ → ℕ) → ((k : ℕ) → k < n → f k ≡ g k) → sum_below n f ≡ sum_below n g
sum_same zero f g h = sum_none f ∙ sym (sum_none g)
sum_same (suc n) f g h =
    let r = sum_same n f g (λ k l. h k (omega arith)) in
    omega (arith, h n (omega arith), sum_more n f, sum_more n g)

-- two sums over the same numbers whose parts differ at k alone
pub sum_at :
    (n : ℕ) (f g : ℕ → ℕ) (k : ℕ) → k < n → ((j : ℕ) → j ≢ k → f j ≡ g j) →
    sum_below n f + g k ≡ sum_below n g + f k
sum_at zero f g k l h = absurd (omega arith)
sum_at (suc n) f g k l h = ⊎_elim here (λ ne. there ne (sum_at n f g k (omega arith) h)) (cases_eq n k)
  where
    here : n ≡ k → sum_below (suc n) f + g k ≡ sum_below (suc n) g + f k
    here e =
        let r = sum_same n f g (λ j m. h j (omega arith)) in
        omega (arith, ap f e, ap g e, sum_more n f, sum_more n g)

    there :
        (n ≡ k → ⊥) → sum_below n f + g k ≡ sum_below n g + f k →
        sum_below (suc n) f + g k ≡ sum_below (suc n) g + f k
    there ne r = omega (arith, h n ne, sum_more n f, sum_more n g)

-- a sum of nothings
pub sum_zero : (n : ℕ) (f : ℕ → ℕ) → ((k : ℕ) → f k ≡ 0) → sum_below n f ≡ 0
sum_zero zero f h = sum_none f
sum_zero (suc n) f h = omega (arith, sum_zero n f h, h n, sum_more n f)

-- a longer sum of nothing more
pub sum_longer :
    (n m : ℕ) (f : ℕ → ℕ) → n ≤ m → ((k : ℕ) → n ≤ k → f k ≡ 0) → sum_below m f ≡ sum_below n f
sum_longer n zero f l h = let e : 0 ≡ n = omega arith in ap (λ k. sum_below k f) e
sum_longer n (suc m) f l h =
    ⊎_elim
    (λ e. ap (λ k. sum_below k f) (sym e))
    (λ ne. omega (arith, sum_longer n m f (omega arith) h, h m (omega arith), sum_more m f))
    (cases_eq n (suc m))

-- no part is more than the sum
pub sum_part : (n : ℕ) (f : ℕ → ℕ) (k : ℕ) → k < n → f k ≤ sum_below n f
sum_part zero f k l = absurd (omega arith)
sum_part (suc n) f k l =
    ⊎_elim
    (λ e. omega (arith, ap f e, sum_more n f))
    (λ ne. omega (arith, sum_part n f k (omega arith), sum_more n f))
    (cases_eq k n)

-- a row more
pub total_push : {X : Type 0} (f : X → ℕ) (xs : List X) (y : X) → total f (xs ++ y ∷ []) ≡ total f xs + f y
total_push f [] y = omega arith
total_push f (x ∷ xs) y = omega (arith, total_push f xs y)

-- rows worth the same
pub total_same :
    {X : Type 0} (f g : X → ℕ) (xs : List X) (d : X) →
    ((j : ℕ) → j < length xs → f (get_or xs j d) ≡ g (get_or xs j d)) → total f xs ≡ total g xs
total_same f g [] d h = refl
total_same f g (x ∷ xs) d h =
    let r = total_same f g xs d (λ j l. h (suc j) (omega arith)) in
    omega (arith, h 0 (omega arith))

-- one row replaced, and the figure read off by another rule that agrees at the other rows
pub total_at :
    {X : Type 0} (f g : X → ℕ) (xs : List X) (q : ℕ) (y d : X) → q < length xs →
    ((j : ℕ) → j < length xs → j ≢ q → g (get_or xs j d) ≡ f (get_or xs j d)) →
    total g (set xs q y) + f (get_or xs q d) ≡ total f xs + g y
total_at f g [] q y d l h = absurd (omega arith)
total_at f g (x ∷ xs) zero y d l h =
    let r = total_same g f xs d (λ j m. h (suc j) (omega arith) (omega arith)) in
    omega arith
total_at f g (x ∷ xs) (suc q) y d l h =
    let r = total_at f g xs q y d (omega arith) (λ j m ne. h (suc j) (omega arith) (omega arith)) in
    omega (arith, h 0 (omega arith) (omega arith))

-- nothing, counted or not
pub gate_zero : (b : Bool) → gate b 0 ≡ 0
gate_zero true = refl
gate_zero false = refl

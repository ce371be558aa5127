-- Sums over the numbers below a bound.
use Rattle.std.proofs.Common.{◌≡◌, ℕ, zero, suc, ◌+◌, ◌*◌, ◌<◌, ◌≤◌, cond, eqb, refl, ap, ◌∙◌, ⊎_elim, add-zero, add-suc, suc-mul, zero-mul, arith}
use Rattle.std.proofs.lemmas.Bool.{cases_eq, eq-eqb, ne_eqb}
use Rattle.sums.specs.Sums.{sum_below, gate}

-- equal terms give equal sums
pub sum_same : (n : ℕ) (f g : ℕ → ℕ) → ((k : ℕ) → k < n → f k ≡ g k) → sum_below n f ≡ sum_below n g
unfolding sum_below
sum_same zero f g h = refl
sum_same (suc n) f g h =
    let below : sum_below n f ≡ sum_below n g = sum_same n f g (λ k l. h k (omega arith)) in
    let here : f n ≡ g n = h n (omega arith) in
    omega arith

-- a sum is at least any one of its terms
pub sum_at : (n a : ℕ) (f : ℕ → ℕ) → a < n → f a ≤ sum_below n f
unfolding sum_below
sum_at zero a f h = omega arith
sum_at (suc n) a f h =
    ⊎_elim
    (λ (e : a ≡ n). rw e (omega arith))
    (λ (e : a ≡ n → ⊥). let l : f a ≤ sum_below n f = sum_at n a f (omega arith) in omega arith)
    (cases_eq a n)

-- a sum of fewer terms is at most the whole
pub sum_front : (n a : ℕ) (f : ℕ → ℕ) → a ≤ n → sum_below a f ≤ sum_below n f
unfolding sum_below
sum_front zero a f h = let e : a ≡ 0 = omega arith in rw e (omega arith)
sum_front (suc n) a f h =
    ⊎_elim
    (λ (e : a ≡ suc n). rw e (omega arith))
    (λ (e : a ≡ suc n → ⊥). let l : sum_below a f ≤ sum_below n f = sum_front n a f (omega arith) in omega arith)
    (cases_eq a (suc n))

-- one term replaced
pub sum_put : (n a v : ℕ) (f : ℕ → ℕ) → a < n → sum_below n (λ k. cond (eqb k a) v (f k)) + f a ≡ sum_below n f + v
unfolding sum_below
sum_put zero a v f h = omega arith
sum_put (suc n) a v f h =
    ⊎_elim
    (λ (e : n ≡ a).
    let same : sum_below n (λ k. cond (eqb k a) v (f k)) ≡ sum_below n f =
    sum_same n _ _ (λ k l. rw (ne_eqb k a (omega arith)) refl) in
    let here : f n ≡ f a = ap f e in
    rw (eq-eqb n a e) (omega arith))
    (λ (e : n ≡ a → ⊥).
    let ih : sum_below n (λ k. cond (eqb k a) v (f k)) + f a ≡ sum_below n f + v = sum_put n a v f (omega arith) in
    rw (ne_eqb n a e) (omega arith))
    (cases_eq n a)

-- a sum of nothing
pub sum_zero : (n : ℕ) → sum_below n (λ k. 0) ≡ 0
unfolding sum_below
sum_zero zero = refl
sum_zero (suc n) = omega (arith, sum_zero n)

-- two sums term by term
pub sum_add : (n : ℕ) (f g : ℕ → ℕ) → sum_below n (λ k. f k + g k) ≡ sum_below n f + sum_below n g
unfolding sum_below
sum_add zero f g = refl
sum_add (suc n) f g = let below : sum_below n (λ k. f k + g k) ≡ sum_below n f + sum_below n g = sum_add n f g in omega arith

-- the first term taken off
pub sum_first : (n : ℕ) (f : ℕ → ℕ) → sum_below (suc n) f ≡ f 0 + sum_below n (λ k. f (suc k))
unfolding sum_below
sum_first zero f = omega arith
sum_first (suc n) f =
    let ih : sum_below (suc n) f ≡ f 0 + sum_below n (λ k. f (suc k)) = sum_first n f in
    omega arith

-- terms that are 0 add nothing
pub sum_beyond : (n m : ℕ) (f : ℕ → ℕ) → n ≤ m → ((k : ℕ) → n ≤ k → k < m → f k ≡ 0) → sum_below m f ≡ sum_below n f
unfolding sum_below
sum_beyond n zero f h none = let e : n ≡ 0 = omega arith in rw e refl
sum_beyond n (suc m) f h none =
    ⊎_elim
    (λ (e : n ≡ suc m). rw e refl)
    (λ (e : n ≡ suc m → ⊥).
    let here : f m ≡ 0 = none m (omega arith) (omega arith) in
    let below : sum_below m f ≡ sum_below n f = sum_beyond n m f (omega arith) (λ k l u. none k l (omega arith)) in
    omega arith)
    (cases_eq n (suc m))

-- two bounds one after the other
pub sum_split : (n m : ℕ) (f : ℕ → ℕ) → sum_below (n + m) f ≡ sum_below n f + sum_below m (λ k. f (n + k))
unfolding sum_below
sum_split n zero f = rw add-zero (omega arith)
sum_split n (suc m) f = rw add-suc (let ih : sum_below (n + m) f ≡ sum_below n f + sum_below m (λ k. f (n + k)) = sum_split n m f in omega arith)

-- a sum over a table, row by row
pub sum_table : (n m : ℕ) (f : ℕ → ℕ) → sum_below (n * m) f ≡ sum_below n (λ i. sum_below m (λ k. f (i * m + k)))
unfolding sum_below
sum_table zero m f = rw zero-mul refl
sum_table (suc n) m f = rw suc-mul (sum_split (n * m) m f ∙ ap (λ (s : ℕ). s + sum_below m (λ k. f (n * m + k))) (sum_table n m f))

-- only one term counts
pub sum_only : (n a : ℕ) (f : ℕ → ℕ) → a < n → sum_below n (λ k. gate (eqb k a) (f k)) ≡ f a
sum_only n a f h =
    let same : sum_below n (λ k. gate (eqb k a) (f k)) ≡ sum_below n (λ k. cond (eqb k a) (f a) 0) =
    sum_same n _ _ (λ k l. ⊎_elim
    (λ (e : k ≡ a). rw e refl)
    (λ (e : k ≡ a → ⊥). rw (ne_eqb k a e) refl)
    (cases_eq k a)) in
    omega (arith, same, sum_put n a (f a) (λ k. 0) h, sum_zero n)

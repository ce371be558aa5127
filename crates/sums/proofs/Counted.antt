-- Sums over the rows of a list that count: one row more, one row replaced, and the same as a sum over places or over rows.
use Rattle.std.proofs.Common.{◌≡◌, ℕ, zero, suc, ◌+◌, ◌<◌, Bool, true, false, List, [], ◌∷◌, length, get_or, drop, set, sym, refl, ap, ◌∙◌, ap₂, add-zero, zero-add, arith}
use Rattle.std.proofs.lemmas.List.{at_drop_more}
use Rattle.sums.specs.Sums.{sum_below, total, gate, counted_from, counted}
use Rattle.sums.proofs.Below.{sum_same, sum_first}

-- the first of the rows that are left, where it counts and where it does not
module _ {R : Type 0} (amount : R → ℕ → ℕ) (counts : R → ℕ → Bool) (xs : List R) (i : ℕ) (x : R) (within : i < length xs) (read : x ≡ get_or xs i x) where
  one_row : counted_from amount counts i (drop i xs) ≡ gate (counts x i) (amount x i) + counted_from amount counts (i + 1) (drop (i + 1) xs)
  one_row =
      at_drop_more (counted_from amount counts i) xs i x within
      ∙ ap (λ y. gate (counts y i) (amount y i) + counted_from amount counts (i + 1) (drop (i + 1) xs)) (sym read)

  pub row_counts : counts x i ≡ true → counted_from amount counts i (drop i xs) ≡ amount x i + counted_from amount counts (i + 1) (drop (i + 1) xs)
  row_counts e = rw e at one_row

  pub row_passed : counts x i ≡ false → counted_from amount counts i (drop i xs) ≡ 0 + counted_from amount counts (i + 1) (drop (i + 1) xs)
  row_passed e = rw e at one_row

-- where places do not matter, the sum is the total of the rows that pass
counted_from_total : {X : Type 0} (amount : X → ℕ → ℕ) (counts : X → ℕ → Bool) (f : X → ℕ) (p : X → Bool) → ((x : X) (i : ℕ) → amount x i ≡ f x) → ((x : X) (i : ℕ) → counts x i ≡ p x) → (i : ℕ) (xs : List X) → counted_from amount counts i xs ≡ total (λ x. gate (p x) (f x)) xs
counted_from_total amount counts f p worth same i [] = refl
counted_from_total amount counts f p worth same i (x ∷ xs) =
    let here : gate (counts x i) (amount x i) ≡ gate (p x) (f x) = ap₂ (λ b n. gate b n) (same x i) (worth x i) in
    let rest : counted_from amount counts (i + 1) xs ≡ total (λ x. gate (p x) (f x)) xs = counted_from_total amount counts f p worth same (i + 1) xs in
    omega arith

pub counted_total : {X : Type 0} (amount : X → ℕ → ℕ) (counts : X → ℕ → Bool) (f : X → ℕ) (p : X → Bool) → ((x : X) (i : ℕ) → amount x i ≡ f x) → ((x : X) (i : ℕ) → counts x i ≡ p x) → (xs : List X) → counted amount counts xs ≡ total (λ x. gate (p x) (f x)) xs
counted_total amount counts f p worth same xs = counted_from_total amount counts f p worth same 0 xs

-- the sum over the places
counted_from_below : {X : Type 0} (amount : X → ℕ → ℕ) (counts : X → ℕ → Bool) (d : X) (i : ℕ) (xs : List X) → counted_from amount counts i xs ≡ sum_below (length xs) (λ k. gate (counts (get_or xs k d) (i + k)) (amount (get_or xs k d) (i + k)))
unfolding sum_below
counted_from_below amount counts d i [] = refl
counted_from_below amount counts d i (x ∷ xs) =
    let at = λ (k : ℕ). gate (counts (get_or (x ∷ xs) k d) (i + k)) (amount (get_or (x ∷ xs) k d) (i + k)) in
    let first : at 0 ≡ gate (counts x i) (amount x i) = ap (λ (j : ℕ). gate (counts x j) (amount x j)) (add-zero i) in
    let rest : counted_from amount counts (i + 1) xs ≡ sum_below (length xs) (λ k. at (suc k)) =
    counted_from_below amount counts d (i + 1) xs
    ∙ sum_same (length xs) _ _ (λ k h. ap (λ (j : ℕ). gate (counts (get_or xs k d) j) (amount (get_or xs k d) j)) (omega arith)) in
    omega (arith, first, rest, sum_first (length xs) at)

pub counted_below : {X : Type 0} (amount : X → ℕ → ℕ) (counts : X → ℕ → Bool) (d : X) (xs : List X) → counted amount counts xs ≡ sum_below (length xs) (λ k. gate (counts (get_or xs k d) k) (amount (get_or xs k d) k))
counted_below amount counts d xs =
    counted_from_below amount counts d 0 xs
    ∙ sum_same (length xs) _ _ (λ k h. ap (λ (j : ℕ). gate (counts (get_or xs k d) j) (amount (get_or xs k d) j)) (zero-add k))

-- rows of equal worth
pub total_same : {X : Type 0} (f g : X → ℕ) → ((x : X) → f x ≡ g x) → (xs : List X) → total f xs ≡ total g xs
total_same f g same [] = refl
total_same f g same (x ∷ xs) = let here = same x in let rest : total f xs ≡ total g xs = total_same f g same xs in omega arith

-- one row replaced
pub total_set : {X : Type 0} (f : X → ℕ) (xs : List X) (i : ℕ) (v d : X) → i < length xs → total f (set xs i v) + f (get_or xs i d) ≡ total f xs + f v
total_set f [] i v d h = omega arith
total_set f (x ∷ xs) zero v d h = omega arith
total_set f (x ∷ xs) (suc i) v d h = let ih : total f (set xs i v) + f (get_or xs i d) ≡ total f xs + f v = total_set f xs i v d (omega arith) in omega arith

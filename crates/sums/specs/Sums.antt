-- Sums: over the numbers below a bound, over the rows of a list, and over those rows that count.
use Rattle.std.specs.Prelude.{ℕ, zero, suc, ◌+◌, Bool, false, cond, List, [], ◌∷◌, Option, Some, None}

-- f 0 + f 1 + .. + f (n - 1)
unfoldable pub sum_below : ℕ → (ℕ → ℕ) → ℕ
sum_below zero f = 0
sum_below (suc n) f = sum_below n f + f n

-- what the rows of a list come to, each worth f of it
abbrev pub total : {X : Type 0} → (X → ℕ) → List X → ℕ
total f [] = 0
total f (x ∷ xs) = f x + total f xs

-- n where the test passes, else nothing
abbrev pub gate : Bool → ℕ → ℕ
gate b n = cond b n 0

-- how many rows pass the test
abbrev pub count : {X : Type 0} → (X → Bool) → List X → ℕ
count p xs = total (λ x. gate (p x) 1) xs

-- the amounts of the rows that count, where a row's place in the list may decide on both; the first row has place i
abbrev pub counted_from : {X : Type 0} → (X → ℕ → ℕ) → (X → ℕ → Bool) → ℕ → List X → ℕ
counted_from amount counts i [] = 0
counted_from amount counts i (x ∷ xs) = gate (counts x i) (amount x i) + counted_from amount counts (i + 1) xs

-- the same from the first place, 0, on
abbrev pub counted : {X : Type 0} → (X → ℕ → ℕ) → (X → ℕ → Bool) → List X → ℕ
counted amount counts xs = counted_from amount counts 0 xs

-- what a place that may hold a row is worth: nothing where it holds none
abbrev pub amount_held : {X : Type 0} → (X → ℕ → ℕ) → Option X → ℕ → ℕ
amount_held amount None i = 0
amount_held amount (Some x) i = amount x i

-- whether it counts: not where it holds none
abbrev pub held_counts : {X : Type 0} → (X → ℕ → Bool) → Option X → ℕ → Bool
held_counts counts None i = false
held_counts counts (Some x) i = counts x i

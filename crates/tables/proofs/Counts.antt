-- How many rows pass a test.
use Rattle.std.proofs.Common.{◌≡◌, ℕ, ◌+◌, ◌≤◌, Bool, true, false, List, [], ◌∷◌, map, length, sym, refl, arith}
use Rattle.std.specs.Int.{from_bool}
use Rattle.std.specs.List.{sum_by}
use Rattle.std.proofs.lemmas.List.Recursion.{is_sum_by}
use Rattle.sums.specs.Sums.{count, gate}

-- one for each row that passes, added up, is the count of what the rows stand for
pub count_seen : {X Y : Type 0} (f : X → Y) (p : Y → Bool) (xs : List X) → sum_by (λ x. from_bool (p (f x))) xs ≡ count p (map f xs)
count_seen f p xs = sym (is_sum_by (λ l. count p (map f l)) (λ x. from_bool (p (f x))) refl (λ x l. one (p (f x)) (count p (map f l))) xs)
  where
    one : (b : Bool) (n : ℕ) → gate b 1 + n ≡ from_bool b + n
    one true n = refl
    one false n = refl

-- no more rows pass than there are
pub count_le : {X : Type 0} (p : X → Bool) (xs : List X) → count p xs ≤ length xs
count_le p [] = omega arith
count_le p (x ∷ xs) = go (p x) (count_le p xs)
  where
    go : (b : Bool) → count p xs ≤ length xs → gate b 1 + count p xs ≤ length (x ∷ xs)
    go true h = omega arith
    go false h = omega arith

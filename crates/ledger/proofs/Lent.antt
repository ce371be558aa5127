-- What a `Vec` holds once all of it was lent: what the slice then holds.
use Rattle.std.proofs.Common.{◌≡◌, ℕ, ◌≤◌, List, ◌++◌, length, take, drop, arith, take_all}
use lib.Seq.{take-append-le}

pub lent_whole : {X : Type 0} (n : ℕ) (w xs : List X) → n ≡ length xs → length w ≡ length xs → take n (w ++ drop (length w) xs) ≡ w
lent_whole n w xs e f = let h : n ≤ length w = omega arith in let g : length w ≤ n = omega arith in rw take-append-le (take_all n w g)

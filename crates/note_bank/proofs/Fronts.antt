-- The first places of many: how many there are, and what they hold.
use Rattle.std.proofs.Common.{◌≡◌, ℕ, ◌<◌, ◌≤◌, List, length, take, ap, ◌∙◌, arith, length-take-le}
use Rattle.note_bank.specs.Notes.{Place}

-- a place among them is below their number
pub in_front : (n i : ℕ) (xs ys : List Place) → n ≤ length xs → ys ≡ take n xs → i < length ys → i < n
in_front n i xs ys h e l = omega (arith, ap length e ∙ length-take-le n xs h)

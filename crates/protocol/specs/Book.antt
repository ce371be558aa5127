-- What a book of receipt means, and how a mark is taken into it. A free book admits the unmarked sequences, a strict one only
-- the unmarked one whose lower ones are all marked.
use Rattle.std.specs.Prelude.{ℕ, zero, suc, ◌-◌, Bool, true, false, cond, not, ◌&&◌, ◌||◌, List, [], ◌∷◌, is_some, Some, None, Option, ◌==◌, nat_le, nat_lt}
use Rattle.protocol.specs.declared.marks.Mark.{Mark}
use Rattle.protocol.specs.declared.marks.Mark.TheVariants.{Good, TooManyHops, RegisterFull, LedgerRefused}
use Rattle.protocol.specs.House.{lanes_most, packets_most}
use Rattle.protocol.specs.Refusals.{Refusal, ◌when◌}

-- the number of a mark
abbrev pub mark_number : Mark → ℕ
mark_number Good = 1
mark_number TooManyHops = 2
mark_number RegisterFull = 3
mark_number LedgerRefused = 4

-- The meaning. Whether a book is strict never changes.
pub record Book : Type 0 where
  pub strict : Bool
  pub mark : ℕ → ℕ → Option ℕ  -- of a lane and a sequence, by its number

-- whether each of 0 .. n - 1 passes the test
abbrev pub each_below : ℕ → (ℕ → Bool) → Bool
each_below zero p = true
each_below (suc n) p = each_below n p && p n

abbrev pub marked : Book → ℕ → ℕ → Bool
marked b i s = is_some (b.mark i s)

-- the mark is 1, good
abbrev pub is_one : Option ℕ → Bool
is_one None = false
is_one (Some m) = m == 1

-- each lower sequence of the lane, from 1 on, is marked
abbrev pub lower_marked : Book → ℕ → ℕ → Bool
lower_marked b i s = each_below (s - 1) (λ k. marked b i (suc k))

-- when a mark is not taken
abbrev pub take_refusals : Book → ℕ → ℕ → List Refusal
take_refusals b i s =
    11 when nat_le lanes_most i
    ∷ 18 when (s == 0 || nat_lt packets_most s)
    ∷ 25 when marked b i s
    ∷ 26 when (b.strict && not (lower_marked b i s))
    ∷ []

-- the book with mark m at lane i and sequence s
abbrev pub taken : Book → ℕ → ℕ → ℕ → Book
taken b i s m =
    record { strict = b.strict; mark = λ i' s'. cond (i' == i && s' == s) (Some m) (b.mark i' s') }

-- the book without its marks
abbrev pub wiped : Book → Book
wiped b = record { strict = b.strict; mark = λ _ _. None }

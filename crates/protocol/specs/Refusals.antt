-- Refusals in the order of checking, and the answers that they make.
use Rattle.std.specs.Prelude.{ℕ, Bool, cond, List, [], ◌∷◌, Some, None, Ok, Err, Option, Result}

infix 90 ◌when◌
-- a refusal: its number, and whether it applies
pub data Refusal : Type 0 where
  ◌when◌ : ℕ → Bool → Refusal

-- of the refusals that concern a call, in the order of checking, the first that applies
abbrev pub first : List Refusal → Option ℕ
first [] = None
first ((n when b) ∷ rs) = cond b (Some n) (first rs)

-- x, or the number of a refusal
abbrev pub unless_refused : {X : Type 0} → Option ℕ → X → Result X ℕ
unless_refused None x = Ok x
unless_refused (Some n) x = Err n

-- what a call answers: x, unless one of the refusals applies
abbrev pub answer_unless : {X : Type 0} → List Refusal → X → Result X ℕ
answer_unless rs x = unless_refused (first rs) x

-- what is left after a call that answered so: the new state, or after a refusal the old one
abbrev pub left_by : {X E S : Type 0} → Result X E → S → S → S
left_by (Ok x) old new = new
left_by (Err e) old new = old

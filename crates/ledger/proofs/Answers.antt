-- Answers and refusals.
use Rattle.std.proofs.Common.{◌≡◌, ℕ, Some, None, Ok, Err, Option, Result, refl, ap, ◌∙◌, arith}
use Rattle.protocol.specs.Faults.{told_by}
use Rattle.protocol.specs.Refusals.{unless_refused, left_by}

-- a call that answers Ok met no refusal
pub free_from_ok : {X : Type 0} (o : Option ℕ) (x y : X) → unless_refused o x ≡ Ok y → o ≡ None
free_from_ok None x y e = refl
free_from_ok (Some n) x y e = let z : ◌≡◌ {A = ℕ} 0 1 = cc in absurd (omega arith)

-- what is left, seen through another meaning
left_through : {X E S T : Type 0} (f : S → T) (r : Result X E) (old new : S) → f (left_by r old new) ≡ left_by r (f old) (f new)
left_through f (Ok x) old new = refl
left_through f (Err e) old new = refl

-- a call handed on to a part whose meaning f makes part of a larger one: what is left of the whole
pub handed_on : {X E S T : Type 0} (f : S → T) (r : Result X E) (old new last : S) (whole : T) → last ≡ left_by r old new → f new ≡ whole → f last ≡ left_by r (f old) whole
handed_on f r old new last whole e h = ap f e ∙ left_through f r old new ∙ ap (left_by r (f old)) h

-- and its answer, where the whole has the part's first refusal
pub answered : {X : Type 0} (x : X) (told : Result X ℕ) (o o' : Option ℕ) → told ≡ unless_refused o x → o ≡ o' → told ≡ unless_refused o' x
answered x told o o' e h = e ∙ ap (λ (p : Option ℕ). unless_refused p x) h

-- after a call that was not refused the old state does not matter
pub left_of_ok : {X F S : Type 0} (number : F → ℕ) (r : Result X F) (x : X) → told_by number r ≡ Ok x → (old old' new : S) → left_by r old new ≡ left_by r old' new
left_of_ok number (Ok y) x e old old' new = refl
left_of_ok number (Err f) x e old old' new = let z : ◌≡◌ {A = ℕ} 0 1 = cc in absurd (omega arith)

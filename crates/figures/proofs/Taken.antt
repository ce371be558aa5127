-- Texts handed to a sink in two parts.
use Rattle.std.proofs.Common.{◌≡◌, ℕ, List, [], ◌∷◌, ◌++◌, sym, refl, subst}
use Rattle.figures.specs.Sinks.{Handed}

-- one text
handed_one : {X : Type 0} (takes : X → List ℕ → X → Type 0) (a b : X) (l : List ℕ) → takes a l b → Handed takes a (l ∷ []) b
handed_one takes a b l t = (b, (t, refl))

-- one text, known under another name
pub handed_as : {X : Type 0} (takes : X → List ℕ → X → Type 0) (a b : X) (text line : List ℕ) → text ≡ line → takes a text b → Handed takes a (line ∷ []) b
handed_as takes a b text line same t = let T : List ℕ → Type 0 = λ l. takes a l b in handed_one takes a b line (subst T same t)

-- one part after the other
pub handed_on : {X : Type 0} (takes : X → List ℕ → X → Type 0) (a b c : X) (ls ms : List (List ℕ)) → Handed takes a ls b → Handed takes b ms c → Handed takes a (ls ++ ms) c
handed_on {X} takes a b c [] ms same rest = let P : X → Type 0 = λ x. Handed takes x ms c in subst P (sym same) rest
handed_on takes a b c (l ∷ ls) ms (m, (t, more)) rest = (m, (t, handed_on takes m b c ls ms more rest))

-- Texts handed to a sink one after another.
use Rattle.std.specs.Prelude.{◌≡◌, ℕ, List, [], ◌∷◌}

-- From one state of a sink to another by taking these texts, each whole and in this order, and nothing else; `takes` says what it
-- is to take one.
abbrev pub Handed : {X : Type 0} → (X → List ℕ → X → Type 0) → X → List (List ℕ) → X → Type 0
Handed takes before [] after = before ≡ after
Handed {X} takes before (l ∷ ls) after = (then : X) × (takes before l then × Handed takes then ls after)

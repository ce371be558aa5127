-- A text by its bytes.
use Rattle.std.proofs.Common.{◌≡◌, ℕ, suc, List, [], ◌∷◌, length, get_or, Some, sym, refl, ap, ◌∙◌, arith}
use Rattle.commands.specs.Commands.{name_of}
use Rattle.commands.specs.declared.commands.Name.{Name}

-- from place k on a text has these bytes
abbrev pub Spells : List ℕ → ℕ → List ℕ → Type 0
Spells xs k [] = Unit {0}
Spells xs k (y ∷ ys) = (get_or xs k 0 ≡ y) × Spells xs (suc k) ys

later : (x : ℕ) (xs : List ℕ) (k : ℕ) (ys : List ℕ) → Spells (x ∷ xs) (suc k) ys → Spells xs k ys
later x xs k [] h = tt
later x xs k (y ∷ ys) h = (h.0, later x xs (suc k) ys h.1)

-- a text that has from its beginning the bytes of another as long is that text
pub spelt : (xs ys : List ℕ) → length xs ≡ length ys → Spells xs 0 ys → xs ≡ ys
spelt [] [] long h = refl
spelt [] (y ∷ ys) long h = absurd (omega arith)
spelt (x ∷ xs) [] long h = absurd (omega arith)
spelt (x ∷ xs) (y ∷ ys) long h = λ i. h.0 i ∷ spelt xs ys (omega arith) (later x xs 0 ys h.1) i

-- a word that has the bytes of a name is that name
pub named : (word text : List ℕ) (name : Name) → Some name ≡ name_of text → length word ≡ length text → Spells word 0 text → Some name ≡ name_of word
named word text name is long h = is ∙ sym (ap name_of (spelt word text long h))

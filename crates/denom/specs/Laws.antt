-- Denominations and their texts belong together one to one, and sameness is equality of what is stood for.
use Rattle.std.specs.Prelude.{◌≡◌, ℕ, true, List, Some}
use Rattle.denom.specs.Denomination.{Denom, Token, same_denom, same_token}
use Rattle.denom.specs.Text.{is_denom, denom_text, denom_of}

-- each denomination within the bounds is written as a text that reads back as that denomination
abbrev pub DenomsReadBack : Type 0
DenomsReadBack = (e : Denom) → is_denom e ≡ true → denom_of (denom_text e) ≡ Some e

-- each text that is read is what its one denomination, which is within the bounds, is written as
abbrev pub DenomsWriteBack : Type 0
DenomsWriteBack = (bs : List ℕ) (e : Denom) → denom_of bs ≡ Some e → (is_denom e ≡ true) × (denom_text e ≡ bs)

-- denominations are the same that are equal, and no others
abbrev pub SameDenoms : Type 0
SameDenoms = (e f : Denom) → (same_denom e f ≡ true → e ≡ f) × (e ≡ f → same_denom e f ≡ true)

-- so are tokens
abbrev pub SameTokens : Type 0
SameTokens = (t v : Token) → (same_token t v ≡ true → t ≡ v) × (t ≡ v → same_token t v ≡ true)

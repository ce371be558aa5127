-- A script cut into lines and a line into words, and the checks that a line has to pass before it is read.
use Rattle.std.specs.Prelude.{◌≡◌, ℕ, Bool, true, cond, not, ◌&&◌, List, [], ◌∷◌, length, Some, None, Option, ◌==◌, nat_le, nat_lt}

-- a byte put in front of the first piece
abbrev pub longer : ℕ → List (List ℕ) → List (List ℕ)
longer c [] = (c ∷ []) ∷ []
longer c (p ∷ ps) = (c ∷ p) ∷ ps

-- a text cut at each byte `end`; what follows the last one is a piece unless it is empty
abbrev pub pieces : ℕ → List ℕ → List (List ℕ)
pieces end [] = []
pieces end (c ∷ cs) = cond (c == end) ([] ∷ pieces end cs) (longer c (pieces end cs))

-- LF ends a line, the last may lack it
abbrev pub lines : List ℕ → List (List ℕ)
lines bs = pieces 10 bs

-- words are split by one space
abbrev pub words : List ℕ → List (List ℕ)
words bs = pieces 32 bs

-- the next piece of a text, and what is left of the text after it
abbrev pub Next : ℕ → List ℕ → Option (List ℕ) → List ℕ → Type 0
Next end bs None rest = (pieces end bs ≡ []) × (rest ≡ bs)
Next end bs (Some p) rest = pieces end bs ≡ p ∷ pieces end rest

-- a script has at most 65,536 bytes
abbrev pub script_too_long : List ℕ → Bool
script_too_long bs = nat_lt 65536 (length bs)

-- a line has at most 255 bytes, its LF not counted
abbrev pub line_too_long : List ℕ → Bool
line_too_long bs = nat_lt 255 (length bs)

-- an empty line, or one that starts with `#`, is passed over
abbrev pub is_comment : List ℕ → Bool
is_comment [] = true
is_comment (c ∷ cs) = c == 35

-- a byte from 32 to 126 that is no space after a space
abbrev pub may_follow : Bool → ℕ → Bool
may_follow after-space c = (nat_le 32 c && nat_le c 126) && not (after-space && c == 32)

-- the bytes of a line from some place on: each may follow the one before, and the last is no space
abbrev pub well_formed_after : Bool → List ℕ → Bool
well_formed_after after-space [] = not after-space
well_formed_after after-space (c ∷ cs) = may_follow after-space c && well_formed_after (c == 32) cs

-- each byte is from 32 to 126, and no space is first, last or doubled: the line's beginning counts as a space
abbrev pub well_formed : List ℕ → Bool
well_formed bs = well_formed_after true bs

-- Numbers as text, and texts laid into a buffer.
use Rattle.std.specs.Prelude.{◌≡◌, ℕ, ◌+◌, ◌^◌, ◌<◌, cond, ◌&&◌, List, [], ◌∷◌, ◌++◌, map, length, take, drop, Some, None, Option, nat_lt}
use Rattle.std.specs.Str.Parse.{digits_value}
use Rattle.std.specs.Int.Digits.{digits_of}
use Rattle.std.specs.Str.{bytes_eq}

-- a number in base ten, without leading zeros
abbrev pub figure : ℕ → List ℕ
figure n = cond (nat_lt n 10) ((48 + n) ∷ []) (map (λ d. 48 + d) (digits_of 10 n))

-- the number that a text writes: the text is just what its value is written as, and the value at most 2^64 - 1
abbrev pub number_read : List ℕ → Option ℕ
number_read bs = cond (bytes_eq bs (figure (digits_value 10 bs)) && nat_lt (digits_value 10 bs) (2 ^ 64)) (Some (digits_value 10 bs)) None

-- a number that is written reads back as that number
abbrev pub NumbersReadBack : Type 0
NumbersReadBack = (n : ℕ) → n < 2 ^ 64 → number_read (figure n) ≡ Some n

-- a text that reads as a number is what that number is written as
abbrev pub NumbersWriteBack : Type 0
NumbersWriteBack = (bs : List ℕ) (n : ℕ) → number_read bs ≡ Some n → (n < 2 ^ 64) × (figure n ≡ bs)

-- words, each with a space before it
abbrev pub spaced : List (List ℕ) → List ℕ
spaced [] = []
spaced (w ∷ ws) = (32 ∷ w) ++ spaced ws

-- a line: a word, others with a space before each, and LF
abbrev pub line_of : List ℕ → List (List ℕ) → List ℕ
line_of first others = first ++ (spaced others ++ 10 ∷ [])

-- a text laid over the front of a buffer
abbrev pub over : List ℕ → List ℕ → List ℕ
over ds out = ds ++ drop (length ds) out

-- a buffer of which so many bytes are written holds a text, and behind it what it held before
abbrev pub Holds : ℕ → List ℕ → List ℕ → List ℕ → Type 0
Holds at buffer text before = (at ≡ length text) × (buffer ≡ over text before)

-- a text laid into a buffer from a place on
abbrev pub into : List ℕ → ℕ → List ℕ → List ℕ
into ds at out = take at out ++ over ds (drop at out)

-- What a reader and a script have left, and what the next call gives and leaves.
use Rattle.std.specs.Prelude.{◌≡◌, ℕ, ◌+◌, ◌^◌, ◌<◌, List, length, take, drop, IfSome, MatchOption, Option}
use Rattle.std.specs.Borrow.{Bor}
use Rattle.std.specs.Option.{option_map}
use Rattle.script.specs.Lines.{pieces, Next}
use Rattle.script.specs.declared.reader.Reader.{Reader}
use Rattle.script.specs.declared.reader.Script.{Script}

-- the text that a reader has left
abbrev pub left : Reader → List ℕ
left r = drop r.at r.text.now

-- the pieces that come
abbrev pub pieces_left : Reader → List (List ℕ)
pieces_left r = pieces r.end (left r)

abbrev pub lines_left : Script → List (List ℕ)
lines_left s = pieces_left s.lines

-- the next piece, a front of the text that was left, or nothing at its end; the reader goes on behind it
pub record GivesPiece (before : Reader) (given : Option (Bor (List ℕ))) (after : Reader) : Type 0 where
  pub piece : Next before.end (left before) (option_map (λ p. p.now) given) (left after)
  pub place : IfSome given (λ p. p.now ≡ take (length p.now) (left before))
  pub onward : MatchOption given (after.at ≡ before.at) (λ p. (before.at < after.at) × (after.at < 2 ^ 64))
  pub text : after.text.now ≡ before.text.now
  pub end : after.end ≡ before.end

-- the next line and its number, or nothing at the end
pub record GivesLine (before : Script) (given : Option (ℕ × Bor (List ℕ))) (after : Script) : Type 0 where
  pub line : Next before.lines.end (left before.lines) (option_map (λ p. p.1.now) given) (left after.lines)
  pub number : MatchOption given (after.read ≡ before.read) (λ p. (p.0 ≡ before.read + 1) × (after.read ≡ before.read + 1))
  pub text : after.lines.text.now ≡ before.lines.text.now
  pub end : after.lines.end ≡ before.lines.end

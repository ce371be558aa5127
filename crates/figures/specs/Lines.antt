-- What a line has room for, and what writing a text to it leaves.
use Rattle.std.specs.Prelude.{◌≡◌, ℕ, ◌+◌, ◌≤◌, List, length}
use Rattle.figures.specs.Figures.{into}
use Rattle.figures.specs.declared.line.Line.{Line}

-- so many bytes more fit into its buffer
abbrev pub HasRoom : ℕ → Line → Type 0
HasRoom n line = line.at + n ≤ length line.buffer.now

-- The line is longer by a text, which stands in its buffer behind what was written; all else there is as it was, and the buffer
-- is the one that it had.
pub record Appends (text : List ℕ) (before after : Line) : Type 0 where
  pub at : after.at ≡ before.at + length text
  pub fits : after.at ≤ length after.buffer.now
  pub room : length after.buffer.now ≡ length before.buffer.now
  pub buffer : after.buffer.now ≡ into text before.at before.buffer.now
  pub lender : after.buffer.ghost_name ≡ before.buffer.ghost_name

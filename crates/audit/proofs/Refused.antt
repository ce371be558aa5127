-- What is answered to a number of a line, by the room of the buffer and by how many lines there are.
use Rattle.std.proofs.Common.{◌≡◌, ℕ, ◌<◌, ◌≤◌, length, Ok, Err, refl, ap}
use Rattle.std.proofs.lemmas.Bool.{lt-ltb, le-ltb, le-leb, lt-leb}
use Rattle.protocol.specs.Audit.{audit_lines, line_refusals}
use Rattle.protocol.specs.Refusals.{answer_unless}
use Rattle.protocol.specs.World.{World}

module _ (w : World) (room n : ℕ) where
  pub too_little_room : (x : ℕ) → room < 256 → Err 35 ≡ answer_unless (line_refusals w room n) x
  too_little_room x h = rw (lt-ltb room 256 h) refl

  pub no_such_line : (x : ℕ) → 256 ≤ room → length (audit_lines w) ≤ n → Err 36 ≡ answer_unless (line_refusals w room n) x
  no_such_line x h past = rw (le-ltb room 256 h, le-leb (length (audit_lines w)) n past) refl

  pub answered : (x y : ℕ) → 256 ≤ room → n < length (audit_lines w) → x ≡ y → Ok x ≡ answer_unless (line_refusals w room n) y
  answered x y h within same = rw (le-ltb room 256 h, lt-leb (length (audit_lines w)) n within) (ap Ok same)

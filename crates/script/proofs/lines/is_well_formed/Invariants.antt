use Rattle.std.proofs.Common.{◌≡◌, drop}
use Rattle.script.specs.Lines.{well_formed_after, well_formed}
use Rattle.script.proofs.lines.is_well_formed.Given as goal

abbrev pub invariant-loop-b : goal.invariant-loop-b
invariant-loop-b l = well_formed_after l.after_space (drop l.b-index l.line) ≡ well_formed l.line

use Rattle.protocol.specs.World.{same_end, end_at}
use Rattle.tables.proofs.Ends.{Passed}
use Rattle.tables.proofs.links.lane_out.Given as goal

abbrev pub invariant-loop-i : goal.invariant-loop-i
invariant-loop-i l = Passed (same_end (end_at l.chain l.channel)) l.links l.i

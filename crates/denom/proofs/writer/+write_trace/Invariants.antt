use Rattle.std.proofs.Common.{length}
use Rattle.denom.proofs.writer.+write_trace.Given as goal

abbrev pub decreases-write_trace : goal.decreases-write_trace
decreases-write_trace l = length l.hops.now

use Rattle.std.proofs.Common.{◌-◌}
use Rattle.denom.proofs.reader.+read_from.Given as goal

abbrev pub decreases-read_from : goal.decreases-read_from
decreases-read_from l = 6 - l.depth

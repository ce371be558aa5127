use Rattle.protocol.proofs.Counts.{bounded}
use Rattle.protocol.proofs.laws.bounded.Goals as goal

pub returns : goal.returns
returns c = bounded

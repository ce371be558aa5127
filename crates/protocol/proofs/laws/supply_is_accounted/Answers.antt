use Rattle.protocol.proofs.Whole.{supply_accounted}
use Rattle.protocol.proofs.laws.supply_is_accounted.Goals as goal

pub returns : goal.returns
returns c = supply_accounted

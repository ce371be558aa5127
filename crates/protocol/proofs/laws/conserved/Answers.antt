use Rattle.protocol.proofs.Whole.{conservation}
use Rattle.protocol.proofs.laws.conserved.Goals as goal

pub returns : goal.returns
returns c = conservation

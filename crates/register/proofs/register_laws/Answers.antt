use Rattle.register.proofs.Places.{stays_distinct}
use Rattle.register.proofs.register_laws.Goals as goal

pub returns-clause-distinct : goal.returns-clause-distinct
returns-clause-distinct g c = stays_distinct g.K.PartialEq.eq

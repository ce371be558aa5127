use Rattle.tables.specs.View.{links_in}
use Rattle.tables.proofs.Walks.{leads_nowhere}
use Rattle.tables.proofs.walk.Links.far_chain.Goals as goal

pub returns-in-None : goal.returns-in-None
returns-in-None c = leads_nowhere (links_in c.args.self.now) c.args.chain c.args.channel c.in-None.ensures

use Rattle.world.specs.View.{view}
use Rattle.session.proofs.Pasts.{conserves}
use Rattle.session.proofs.answer_lines.Goals as goal

pub returns-clause-conserved : goal.returns-clause-conserved
returns-clause-conserved g c = conserves (view g.L.Ledger.meaning g.F.Book.meaning g.S.Book.meaning c.loop-number.world)

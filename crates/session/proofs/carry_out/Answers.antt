use Rattle.world.specs.View.{view}
use Rattle.session.proofs.Pasts.{conserves, line_leads_on}
use Rattle.session.proofs.carry_out.Goals as goal

pub returns : goal.returns
returns g c =
    let before = view g.L.Ledger.meaning g.F.Book.meaning g.S.Book.meaning c.args.world.now in
    let after = view g.L.Ledger.meaning g.F.Book.meaning g.S.Book.meaning c.carry_line.new.world in
    let told = c.carry_line.ensures in
    record {
      answer = told.answer;
      after = told.after;
      reached = λ l bs r. line_leads_on l bs before after c.args.line.now told.after r;
      conserved = conserves after;
    }

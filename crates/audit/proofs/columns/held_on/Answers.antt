use Rattle.std.proofs.Common.{ap, ◌∙◌, arith}
use Rattle.denom.specs.Views.{token_view}
use Rattle.tables.specs.declared.types.Tables.{Tables}
use Rattle.tables.specs.View.{denoms_of}
use Rattle.world.specs.View.{view}
use Rattle.audit.proofs.Totals.{held_counted}
use Rattle.audit.proofs.columns.held_on.Goals as goal

pub returns : goal.returns
returns g c =
    let w = view g.L.Ledger.meaning g.F.Book.meaning g.S.Book.meaning c.args.world.now in
    let on = c.denominations_on.ensures in
    let known = on.known ∙ ap (λ (t : Tables). denoms_of t.denominations c.args.chain) c.tables.ensures in
    record {
      sum = c.add_up.ensures.sum ∙ held_counted w (token_view c.args.token.now) c.args.chain c.denominations_on.result.now known on.few on.chain;
      within = omega (arith, c.add_up.ensures.within, on.few);
    }

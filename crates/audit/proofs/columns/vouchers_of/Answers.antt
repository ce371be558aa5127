use Rattle.std.proofs.Common.{get_or}
use Rattle.denom.specs.Denomination.{behind}
use Rattle.denom.specs.Views.{denom_view}
use Rattle.tables.specs.View.{no_denominations}
use Rattle.tables.specs.Rows.{rows_of}
use Rattle.world.specs.View.{view}
use Rattle.audit.proofs.SevenHops.{too_many, unregistered}
use Rattle.audit.proofs.Totals.{no_supply}
use Rattle.audit.proofs.columns.vouchers_of.Goals as goal

pub returns-in-None : goal.returns-in-None
returns-in-None g c =
    let w = view g.L.Ledger.meaning g.F.Book.meaning g.S.Book.meaning c.args.world.now in
    let far = c.args.far.now in
    let e = denom_view c.args.denomination.now in
    let row = get_or c.args.world.now.tables.denominations far.chain no_denominations in
    no_supply w far.chain (behind far.channel e)
    (unregistered (behind far.channel e) (too_many far.channel e far.channels c.in-None.ensures) (rows_of row))

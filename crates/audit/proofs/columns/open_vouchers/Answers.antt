use Rattle.std.proofs.Common.{rules}
use Rattle.denom.specs.Denomination.{behind}
use Rattle.denom.specs.Views.{denom_view}
use Rattle.tables.specs.Rows.{rows_of}
use Rattle.world.specs.View.{view}
use Rattle.audit.proofs.SevenHops.{too_many, uncarried}
use Rattle.audit.proofs.columns.open_vouchers.Goals as goal

pub returns-in-None : goal.returns-in-None
returns-in-None g c =
    let w = view g.L.Ledger.meaning g.F.Book.meaning g.S.Book.meaning c.args.world.now in
    let far = c.args.far.now in
    let e = denom_view c.args.denomination.now in
    let sent = c.args.world.now.tables.packets in
    record {
      sum = uncarried (behind far.channel e) (too_many far.channel e far.channels c.in-None.ensures) w c.args.lane (rows_of sent);
      within = search rules;
    }

use Rattle.std.proofs.Common.{map, ap, ◌∙◌, arith}
use Rattle.denom.specs.Views.{denom_view}
use Rattle.protocol.specs.World.{on_lane_with}
use Rattle.tables.specs.declared.types.Tables.{Tables}
use Rattle.tables.specs.View.{packet_view, packets_in}
use Rattle.world.specs.View.{view}
use Rattle.audit.proofs.Totals.{open_counted, few_packets}
use Rattle.audit.proofs.columns.open_on.Goals as goal

pub returns : goal.returns
returns g c =
    let w = view g.L.Ledger.meaning g.F.Book.meaning g.S.Book.meaning c.args.world.now in
    let sent = ap (map packet_view) c.as_slice.ensures ∙ ap (λ (t : Tables). packets_in t.packets) c.tables.ensures in
    record {
      sum = c.add_up.ensures.sum ∙ open_counted w (on_lane_with c.args.lane (denom_view c.args.denomination.now)) c.as_slice.result.now sent;
      within = omega (arith, c.add_up.ensures.within, few_packets c.args.world.now.tables.packets c.as_slice.result.now sent);
    }

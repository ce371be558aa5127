use Rattle.std.proofs.Common.{sym, ◌∙◌}
use Rattle.protocol.specs.Calls.{no_packet}
use Rattle.tables.specs.Packets.{is_packet}
use Rattle.tables.specs.Rows.{rows_of}
use Rattle.tables.specs.View.{packet_view}
use Rattle.tables.proofs.Kept.{found_row}
use Rattle.world.specs.View.{view}
use Rattle.world.proofs.Looks.{looked}
use Rattle.world.proofs.Verdicts.{there_was}
use Rattle.world.proofs.world.World.sent.Goals as goal

pub returns : goal.returns
returns g c =
    let w = view g.L.Ledger.meaning g.F.Book.meaning g.S.Book.meaning c.args.self.now in
    let q = c.in_ok-route.route in
    let n = c.in_ok-place.place in
    let p = c.at-packet.result in
    let leads = rw (there_was _ _ _ c.in_ok-route.ensures.value) at c.route.ensures in
    let found = sym (there_was _ _ _ c.in_ok-place.ensures.value) ∙ c.find.ensures in
    let read = found_row packet_view (is_packet q.lane c.args.id.sequence) (rows_of c.args.self.now.tables.packets) n p no_packet found c.at-packet.ensures in
    record { leads = leads; look = looked w c.args.id.link c.args.id.direction c.args.id.sequence q leads n p found read }

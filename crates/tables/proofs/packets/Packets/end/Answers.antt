use Rattle.std.proofs.Common.{◌<◌, length, map, set, sym, ap, ◌∙◌, arith}
use Rattle.std.proofs.lemmas.List.{map-set, get_or-map}
use lib.ListN.{length-map}
use Rattle.protocol.specs.Calls.{no_packet, no_more_standing}
use Rattle.tables.specs.Rows.{rows_of}
use Rattle.tables.specs.View.{packet_view}
use Rattle.tables.proofs.packets.Packets.end.Goals as goal

pub returns : goal.returns
returns c =
    let rows = rows_of c.args.self.now in
    let i = c.args.place in
    let within : i < length rows = omega (arith, c.requires, length-map rows packet_view) in
    ap (map packet_view) c.put.ensures
    ∙ map-set packet_view rows i _
    ∙ ap (λ p. set (map packet_view rows) i (no_more_standing p)) (ap packet_view c.at-packet.ensures ∙ sym (get_or-map packet_view rows i c.at-packet.result no_packet within))

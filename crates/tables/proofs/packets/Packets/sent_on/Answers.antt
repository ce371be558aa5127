use Rattle.std.proofs.Common.{◌≡◌, Bool, eqb, map, ◌∙◌, rules, arith}
use borrow.Author.Tests.{tests}
use Rattle.std.specs.Int.{from_bool}
use Rattle.std.specs.List.{sum_by}
use Rattle.std.proofs.lemmas.Iterator.{YieldsList-from_slice, YieldsList-from_map}
use Rattle.std.proofs.lemmas.Iterator.Consumers.{sum_by_from_yields_List, fits_by_from_yields_list}
use lib.ListN.{length-map}
use Rattle.protocol.specs.World.{Packet}
use Rattle.tables.specs.Rows.{rows_of}
use Rattle.tables.specs.View.{packet_view}
use Rattle.tables.proofs.Counts.{count_seen, count_le}
use Rattle.tables.proofs.Taken.{few_rows}
use Rattle.tables.proofs.packets.Packets.sent_on.Goals as goal

pub sum-requires-clause-fits : goal.sum-requires-clause-fits
sum-requires-clause-fits c =
    let test : Packet → Bool = λ p. eqb p.lane c.args.lane in
    let rows = rows_of c.args.self.now in
    let least = count_le test (map packet_view rows) in
    fits_by_from_yields_list (λ p. from_bool (test (packet_view p))) rows c.map.result 18446744073709551616
    (YieldsList-from_map _ (λ p. from_bool (test (packet_view p)))
    (YieldsList-from_slice rows (rw c.map.ensures.source (c.iter.ensures.rest ∙ c.as_slice.ensures)))
    c.map.ensures.closure
    (λ x b q k. search (rules, tests)))
    (rw (count_seen packet_view test rows) (omega (arith, least, few_rows c.args.self.now, length-map rows packet_view)))

pub returns : goal.returns
returns c =
    let test : Packet → Bool = λ p. eqb p.lane c.args.lane in
    let rows = rows_of c.args.self.now in
    let sent : c.sum.result ≡ sum_by (λ p. from_bool (test (packet_view p))) rows =
    sum_by_from_yields_List (λ p. from_bool (test (packet_view p))) rows c.map.result c.sum.result c.sum.ensures.ran
    (YieldsList-from_map _ (λ p. from_bool (test (packet_view p)))
    (YieldsList-from_slice rows (rw c.map.ensures.source (c.iter.ensures.rest ∙ c.as_slice.ensures)))
    c.map.ensures.closure
    (λ x b q k. search (rules, tests)))
    in
    sent ∙ count_seen packet_view test rows

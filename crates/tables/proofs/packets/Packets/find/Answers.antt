use Rattle.std.proofs.Common.{◌≡◌, ◌∙◌, rules}
use borrow.Author.Tests.{tests}
use Rattle.std.specs.List.{position}
use Rattle.std.proofs.lemmas.Iterator.{YieldsList-from_slice}
use Rattle.std.proofs.lemmas.Iterator.Search.{position_from_yields_List}
use Rattle.tables.specs.Packets.{is_packet}
use Rattle.tables.specs.Rows.{rows_of}
use Rattle.tables.specs.View.{packet_view}
use Rattle.tables.proofs.Kept.{position_seen}
use Rattle.tables.proofs.packets.Packets.find.Goals as goal

pub returns : goal.returns
returns c =
    let test = is_packet c.args.lane c.args.sequence in
    let rows = rows_of c.args.self.now in
    let found : c.position.result ≡ position (λ p. test (packet_view p)) rows =
    position_from_yields_List (λ p. test (packet_view p)) _ _ c.position.result c.position.ensures.ran (YieldsList-from_slice rows (c.iter.ensures.rest ∙ c.as_slice.ensures)) (λ x b q k. search (rules, tests))
    in
    found ∙ position_seen packet_view test rows

use Rattle.std.proofs.Common.{◌≡◌, ◌∙◌, rules}
use borrow.Author.Tests.{tests}
use Rattle.std.specs.List.{list_any}
use Rattle.std.proofs.lemmas.Iterator.{YieldsList-from_slice}
use Rattle.std.proofs.lemmas.Iterator.Search.{any_from_yields_List}
use Rattle.tables.specs.Packets.{stands_below}
use Rattle.tables.specs.Rows.{rows_of}
use Rattle.tables.specs.View.{packet_view}
use Rattle.tables.proofs.Kept.{any_seen}
use Rattle.tables.proofs.packets.Packets.lower_stands.Goals as goal

pub returns : goal.returns
returns c =
    let test = stands_below c.args.lane c.args.sequence in
    let rows = rows_of c.args.self.now in
    let some : c.any.result ≡ list_any (λ p. test (packet_view p)) rows =
    any_from_yields_List (λ p. test (packet_view p)) _ _ c.any.result c.any.ensures.ran (YieldsList-from_slice rows (c.iter.ensures.rest ∙ c.as_slice.ensures)) (λ x b q k. search (rules, tests))
    in
    some ∙ any_seen packet_view test rows

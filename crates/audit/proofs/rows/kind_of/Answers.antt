use Rattle.std.proofs.Common.{◌≤◌, map, length, sym, ap, arith}
use lib.ListN.{length-map}
use Rattle.std.proofs.lemmas.List.{get_or-map, get_or_past}
use Rattle.protocol.specs.World as protocol
use Rattle.protocol.specs.World.{no_link}
use Rattle.tables.specs.View.{link_view}
use Rattle.audit.proofs.rows.kind_of.Goals as goal

pub returns-then-link-links : goal.returns-then-link-links
returns-then-link-links c =
    sym (ap (λ (l : protocol.Link). l.kind) (get_or-map link_view c.args.links.now c.args.link _ no_link c.if-link-links.true))

pub returns-else-link-links : goal.returns-else-link-links
returns-else-link-links c =
    let past : length (map link_view c.args.links.now) ≤ c.args.link = simp length-map (omega arith) in
    sym (ap (λ (l : protocol.Link). l.kind) (get_or_past (map link_view c.args.links.now) c.args.link no_link past))

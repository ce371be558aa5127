use Rattle.std.proofs.Common.{map, refl, ap, ◌∙◌, arith}
use Rattle.std.proofs.Math.Seq.{map-set_same}
use lib.ListN.{length-map}
use Rattle.tables.specs.Rows.{rows_of}
use Rattle.tables.specs.View.{link_view}
use Rattle.tables.proofs.Taken.{one_closed}
use Rattle.tables.proofs.lanes.Links.close.Goals as goal

pub returns : goal.returns
returns c =
    let rows = rows_of c.args.self.now in
    let l = c.args.link in
    let row = c.at-row.result in
    record {
      links = ap (map link_view) c.put.ensures ∙ map-set_same link_view rows l _ row (ap link_view c.at-row.ensures);
      closed = rw c.put.ensures (one_closed rows l _ (omega (arith, c.requires, length-map rows link_view)) refl);
    }

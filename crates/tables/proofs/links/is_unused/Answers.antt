use Rattle.std.proofs.Common.{◌≡◌, Bool, not, map, is_some, sym, ap, ◌∙◌, rules}
use Rattle.register.proofs.Places.{some_found}
use Rattle.protocol.specs.World.{same_end, end_at, ends}
use Rattle.tables.specs.View.{link_view}
use Rattle.tables.proofs.links.is_unused.Goals as goal

pub returns : goal.returns
returns c =
    let used = some_found (same_end (end_at c.args.chain c.args.channel)) (ends (map link_view c.args.links.now)) in
    not_other (sym (ap is_some c.lane_out.ensures ∙ used) ∙ c.is_none.ensures)
  where
    not_other : {a b : Bool} → a ≡ not b → b ≡ not a
    not_other e = search rules

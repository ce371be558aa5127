use Rattle.std.proofs.Common.{◌≡◌, drop}
use Rattle.protocol.specs.World.{home_by}
use Rattle.tables.specs.View.{links_in}
use Rattle.tables.proofs.walk.Links.walk_home.Given as goal

abbrev pub invariant-loop-hop : goal.invariant-loop-hop
invariant-loop-hop l =
    home_by (links_in l.self) (drop l.hop-index l.hops) l.here ≡ home_by (links_in l.self) l.hops l.chain

use Rattle.std.proofs.Common.{ℕ, ◌+◌, List, drop, sym, refl, ap, ◌∙◌}
use Rattle.std.proofs.lemmas.List.{at_drop_all}
use Rattle.protocol.specs.World.{home_by}
use Rattle.tables.specs.View.{links_in}
use Rattle.tables.proofs.Walks.{walk_one}
use Rattle.tables.proofs.walk.Links.walk_home.Goals as goal

pub loop-hop-preserved : goal.loop-hop-preserved
loop-hop-preserved c =
    let ls = links_in c.args.self.now in
    let hops = c.as_slice-hops.result.now in
    ap (home_by ls (drop (c.loop-hop.hop-index + 1) hops)) c.far_chain-here.ensures
    ∙ sym (walk_one ls hops c.loop-hop.here c.loop-hop.hop-index c.loop-hop-test.true)
    ∙ c.loop-hop.invariant

pub returns : goal.returns
returns c =
    let ls = links_in c.args.self.now in
    let hops = c.as_slice-hops.result.now in
    record {
      chain =
          sym (at_drop_all (λ (l : List ℕ). home_by ls l c.loop-hop.here) hops c.loop-hop.hop-index c.loop-hop-test.false)
          ∙ c.loop-hop.invariant
          ∙ ap (λ (l : List ℕ). home_by ls l c.args.chain) c.as_slice-hops.ensures;
      symbol = refl;
    }

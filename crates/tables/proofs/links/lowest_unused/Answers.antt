use Rattle.std.proofs.Common.{◌≡◌, ℕ, Bool, not, map, refl, rules}
use borrow.Author.Tests.{tests}
use Rattle.std.specs.List.{find, range_with_len}
use Rattle.std.specs.Option.{option_map}
use Rattle.std.proofs.lemmas.Iterator.{YieldsList-from_range}
use Rattle.std.proofs.lemmas.Iterator.Search.{find_from_yields_List}
use Rattle.protocol.specs.World.{in_use, lowest_unused}
use Rattle.tables.specs.View.{link_view}
use Rattle.tables.proofs.Ends.{first_below}
use Rattle.tables.proofs.links.lowest_unused.Goals as goal

pub returns : goal.returns
unfolding lowest_unused
returns c =
    let links = map link_view c.args.links.now in
    let free : ℕ → Bool = λ k. not (in_use links c.args.chain k) in
    let found : option_map (λ k. k) c.find.result ≡ find free (range_with_len 0 8) =
    find_from_yields_List free _ _ c.find.result c.find.ensures.ran (YieldsList-from_range 0 8 8 refl refl) (λ x b q k. search (rules, tests))
    in
    first_below free 8 c.find.result found

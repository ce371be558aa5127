use Rattle.std.proofs.Common.{◌≡◌, ℕ, length, map, filter, ap, ◌∙◌, arith, rules}
use borrow.Author.Tests.{tests}
use Rattle.std.specs.List.{range_with_len, slice_get}
use Rattle.std.specs.Option.{option_map}
use Rattle.std.specs.Iterator.Adapters.{map_source, map_callee}
use Rattle.std.proofs.lemmas.Iterator.{YieldsList-from_range, YieldsList-from_map}
use Rattle.std.proofs.lemmas.Iterator.Consumers.{YieldsList-from_filter, nth_from_yields_List}
use Rattle.tables.proofs.Taken.{few_denoms}
use Rattle.world.specs.View.{view}
use Rattle.audit.specs.Slots.{slot_at, has_line, slots}
use Rattle.audit.proofs.Gathered.{nth_slot}
use Rattle.audit.proofs.report.find_line.Goals as goal

pub returns : goal.returns
returns g c =
    let w = view g.L.Ledger.meaning g.F.Book.meaning g.S.Book.meaning c.args.world.now in
    let t = length w.tokens in
    let places = ap map_source c.filter.ensures.source ∙ c.map.ensures.source ∙ ap (λ (n : ℕ). record { start = 0; end = n }) c.count_slots.ensures in
    let nth : option_map (λ s. s) c.nth.result ≡ slice_get (filter (has_line w) (map (slot_at t) (range_with_len 0 (slots w)))) c.args.n =
    nth_from_yields_List c.nth.result _ c.args.n c.nth.ensures.ran
    (YieldsList-from_filter _ (has_line w)
    (YieldsList-from_map _ (slot_at t)
    (YieldsList-from_range 0 (slots w) (slots w) places (omega arith))
    (ap map_callee c.filter.ensures.source ∙ c.map.ensures.closure)
    (λ x r q k. search (rules, tests)))
    c.filter.ensures.closure
    (λ x b q k. search (rules, tests)))
    in
    nth_slot w (few_denoms c.args.world.now.tables.denominations) c.args.n c.nth.result nth

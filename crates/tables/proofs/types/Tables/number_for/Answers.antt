use Rattle.std.proofs.Common.{◌≡◌, ltb, length, sym, ap, ◌∙◌}
use Rattle.std.specs.Option.{option_or}
use Rattle.std.specs.Bool.{then_some}
use lib.ListN.{length-map}
use Rattle.denom.specs.Denomination.{same_denom}
use Rattle.denom.specs.Views.{denom_view}
use Rattle.tables.specs.View.{denoms_of}
use Rattle.tables.proofs.Kept.{number_or_next}
use Rattle.tables.proofs.types.Tables.number_for.Goals as goal

pub returns : goal.returns
returns c =
    let known = denoms_of c.args.self.now.denominations c.args.chain in
    let next : length c.denominations_on-next.result.now ≡ length known = sym (length-map _ denom_view) ∙ ap length c.denominations_on-next.ensures.known in
    c.or.ensures
    ∙ (λ i. option_or (c.number_of.ensures.number i) ((c.then_some.ensures ∙ (λ j. then_some (ltb (next j) 32) (next j))) i))
    ∙ number_or_next (same_denom (denom_view c.args.denomination.now)) known 32

use Rattle.std.proofs.Common.{◌≡◌, ℕ, ◌<◌, Bool, List, length, Some, None, Option, IfSome, sym, ap, ◌∙◌, arith, ltb-true}
use lib.ListN.{length-map}
use Rattle.register.specs.Keys.{place, number_of}
use Rattle.register.proofs.Places.{number_below}
use Rattle.denom.specs.Denomination.{Denom, same_denom}
use Rattle.denom.specs.Views.{denom_view}
use Rattle.tables.specs.View.{denoms_of}
use Rattle.tables.proofs.Kept.{number_map, number_some}
use Rattle.tables.proofs.Taken.{few_denoms}
use Rattle.tables.proofs.types.Tables.number_of.Goals as goal

pub returns : goal.returns
returns c =
    let rows = c.args.self.now.denominations in
    let same = same_denom (denom_view c.args.denomination.now) in
    let found : c.find_in.result ≡ number_of same (denoms_of rows c.args.chain) =
    c.find_in.ensures ∙ sym (number_map denom_view same _) ∙ ap (number_of same) c.denominations_on.ensures.known
    in
    record {
      number = found;
      small = number_below same (denoms_of rows c.args.chain) 32 (few_denoms rows c.args.chain) c.find_in.result found;
      chain = served c.find_in.result found;
    }
  where
    known : List Denom
    known = denoms_of c.args.self.now.denominations c.args.chain

    test : Denom → Bool
    test = same_denom (denom_view c.args.denomination.now)

    -- where one is known there are some
    served : (o : Option ℕ) → o ≡ number_of test known → IfSome o (λ n. c.args.chain < 8)
    served None e = tt
    served (Some n) e =
        let at = number_some test known n (sym e) in
        c.denominations_on.ensures.chain
        (omega (arith, ltb-true (place test known) (length known) at.0, ap length c.denominations_on.ensures.known, length-map c.denominations_on.result.now denom_view))

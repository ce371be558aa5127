use Rattle.std.proofs.Common.{◌≡◌, Bool, false, cond, ◌||◌, leb, length, take, Some, None, sym, refl, ap, ◌∙◌, arith, length-take-le}
use Rattle.std.proofs.lemmas.Bool.Decides.{nat_tests}
use Rattle.denom.specs.Denomination.{behind}
use Rattle.denom.specs.Views.{denom_view}
use Rattle.denom.proofs.Shifts.{six_channels, hop_in_front}
use Rattle.denom.proofs.types.Denomination.behind.Goals as goal

pub invariant_of-hops : goal.invariant_of-hops
invariant_of-hops c =
    let all = c.args.self.now.hops.channels in
    record { six = refl; few = omega arith; channels = six_channels _ _ _ _ _ _ (omega arith) (all 0) (all 1) (all 2) (all 3) (all 4) }

pub returns : goal.returns
returns c =
    let e = c.args.self.now in
    let trace = hop_in_front e.hops.at e.hops.count c.args.channel e.hops.six (omega arith) in
    let hops : length (take e.hops.count e.hops.at) ≡ e.hops.count = length-take-le e.hops.count e.hops.at (omega (arith, e.hops.six)) in
    let fits : (leb 6 (length (take e.hops.count e.hops.at)) || leb 8 c.args.channel) ≡ false = grind (arith, nat_tests) in
    (λ i. Some (record { hops = trace i; symbol = (denom_view e).symbol }))
    ∙ sym (ap (λ (b : Bool). cond b None (Some (behind c.args.channel (denom_view e)))) fits)

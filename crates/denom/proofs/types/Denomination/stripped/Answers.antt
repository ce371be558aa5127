use Rattle.denom.specs.Views.{denom_view}
use Rattle.denom.proofs.Shifts.{hop_taken_off}
use Rattle.denom.proofs.types.Denomination.stripped.Goals as goal

pub returns : goal.returns
returns c =
    let e = c.args.self.now in
    let trace = hop_taken_off e.hops.at e.hops.count c.saturating_sub.result e.hops.six e.hops.few c.saturating_sub.ensures in
    λ i. record { hops = trace i; symbol = (denom_view e).symbol }

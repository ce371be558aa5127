-- Each by computing it.
use Rattle.std.proofs.Common.{refl}
use Rattle.sums.specs.Sums.{sum_below}
use Rattle.protocol.specs.World.{lowest_unused}
use Rattle.protocol.proofs.laws.known_outcomes.Goals as goal

pub returns : goal.returns
unfolding sum_below lowest_unused
returns c = λ l. record {
  timeout_height = refl;
  expiry_before = refl;
  expiry_after = refl;
  strict_order = refl;
  strict_closes = refl;
  longer_trace = refl;
  longer_text = refl;
  its_home = refl;
  six_hops_marked = refl;
  six_hops_refunded = refl;
  example_answers = refl;
  example_audit = refl;
}

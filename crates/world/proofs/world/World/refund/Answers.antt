use Rattle.std.proofs.Common.{Bool, [], ◌∷◌, ap, ◌∙◌}
use Rattle.protocol.specs.Refusals.{first, unless_refused, ◌when◌}
use Rattle.protocol.specs.Calls.{with_packets, ended}
use Rattle.world.specs.View.{view}
use Rattle.world.proofs.world.World.refund.Goals as goal

pub returns-in-Ok : goal.returns-in-Ok
returns-in-Ok g c =
    let told = c.in-Ok.ensures in
    let v = view g.L.Ledger.meaning g.F.Book.meaning g.S.Book.meaning c.pay_back.new.self in
    record {
      answer = ap (λ (b : Bool). unless_refused {X = Unit {0}} (first (34 when b ∷ [])) tt) told.answer;
      after = (λ i. with_packets v (c.end.ensures i)) ∙ ap (λ x. ended x c.args.sent.now.place) told.after;
    }

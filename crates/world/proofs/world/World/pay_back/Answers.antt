use Rattle.std.proofs.Common.{sym, ◌∙◌}
use Rattle.tables.specs.View.{end_view, packet_view}
use Rattle.world.specs.View.{view}
use Rattle.world.proofs.Verdicts.{there_was}
use Rattle.world.proofs.Refunds.{back_refused, back_left}
use Rattle.world.proofs.world.World.pay_back.Goals as goal

pub returns : goal.returns
returns g c =
    let w = view g.L.Ledger.meaning g.F.Book.meaning g.S.Book.meaning c.args.self.now in
    let n = end_view c.args.near in
    let p = packet_view c.args.packet.now in
    let d = c.in_ok-number.number in
    let known = sym c.number_of.ensures.number ∙ there_was _ _ _ c.in_ok-number.ensures.value in
    record {
      answer = back_refused w n p d known c.give_back.result c.give_back.ensures.answer;
      after = back_left w n p d known c.give_back.result _ c.give_back.ensures.after;
    }

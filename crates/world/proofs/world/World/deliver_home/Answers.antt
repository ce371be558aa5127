use Rattle.std.proofs.Common.{sym, ◌∙◌}
use Rattle.protocol.specs.Calls.{with_ledger}
use Rattle.ledger.proofs.Answers.{free_from_ok}
use Rattle.tables.specs.View.{end_view, packet_view}
use Rattle.world.specs.View.{view}
use Rattle.world.proofs.Deliveries.{home_good, home_refused, home_left}
use Rattle.world.proofs.Verdicts.{refused_from_err}
use Rattle.world.proofs.world.World.deliver_home.Goals as goal

pub returns-in-Ok : goal.returns-in-Ok
returns-in-Ok g c =
    let w = view g.L.Ledger.meaning g.F.Book.meaning g.S.Book.meaning c.args.self.now in
    let f = end_view c.args.far in
    let p = packet_view c.args.packet.now in
    let told = c.in-Ok.ensures in
    let known = sym c.in-Some.ensures.number in
    record {
      answer = home_good w f p _ c.in-Some.number _ c.escrow_account.ensures c.stripped-freed.ensures known (free_from_ok _ tt tt (sym told.answer));
      after =
          (λ i. with_ledger w (told.after i))
          ∙ home_left w f p _ c.in-Some.number _ c.escrow_account.ensures c.stripped-freed.ensures known;
    }

pub returns-in-Err : goal.returns-in-Err
returns-in-Err g c =
    let w = view g.L.Ledger.meaning g.F.Book.meaning g.S.Book.meaning c.args.self.now in
    let f = end_view c.args.far in
    let p = packet_view c.args.packet.now in
    let told = c.in-Err.ensures in
    let known = sym c.in-Some.ensures.number in
    record {
      answer = home_refused w f p _ c.in-Some.number _ c.escrow_account.ensures c.stripped-freed.ensures known _ (refused_from_err _ tt _ (sym told.answer));
      after = λ i. with_ledger w (told.after i);
    }

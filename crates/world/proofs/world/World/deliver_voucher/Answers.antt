use Rattle.std.proofs.Common.{sym, refl, ◌∙◌}
use borrow.Author.Tests.{lt-leb}
use Rattle.denom.specs.Views.{denom_view}
use Rattle.protocol.specs.Calls.{with_ledger, enrolled}
use Rattle.ledger.proofs.Answers.{free_from_ok}
use Rattle.tables.specs.View.{end_view, packet_view}
use Rattle.world.specs.View.{view}
use Rattle.world.proofs.Deliveries.{voucher_too_long, voucher_full, voucher_good, voucher_refused, voucher_left}
use Rattle.world.proofs.Verdicts.{refused_from_err}
use Rattle.world.proofs.world.World.deliver_voucher.Goals as goal

pub returns-in_default : goal.returns-in_default
returns-in_default g c =
    let w = view g.L.Ledger.meaning g.F.Book.meaning g.S.Book.meaning c.args.self.now in
    record {
      answer = voucher_too_long w (end_view c.args.far) (packet_view c.args.packet.now) _ c.in_default.ensures (lt-leb 8 c.args.far.channel c.args.far.channels);
      after = refl;
    }

pub returns-in_default-number_for : goal.returns-in_default-number_for
returns-in_default-number_for g c =
    let w = view g.L.Ledger.meaning g.F.Book.meaning g.S.Book.meaning c.args.self.now in
    record {
      answer = voucher_full w (end_view c.args.far) (packet_view c.args.packet.now) _ c.in-Some.ensures c.in_default-number_for.ensures;
      after = refl;
    }

pub returns-in-Ok : goal.returns-in-Ok
returns-in-Ok g c =
    let w = view g.L.Ledger.meaning g.F.Book.meaning g.S.Book.meaning c.args.self.now in
    let f = end_view c.args.far in
    let p = packet_view c.args.packet.now in
    let told = c.in-Ok.ensures in
    let made = c.in-Some.ensures in
    let known = c.in-Some-number_for.ensures in
    record {
      answer = voucher_good w f p c.in-Some-number_for.number _ made known (free_from_ok _ tt tt (sym told.answer));
      after =
          c.enrol.ensures
          ∙ (λ i. enrolled (with_ledger w (told.after i)) c.args.far.chain (denom_view c.in-Some.voucher))
          ∙ voucher_left w f p c.in-Some-number_for.number _ made known;
    }

pub returns-in-Err : goal.returns-in-Err
returns-in-Err g c =
    let w = view g.L.Ledger.meaning g.F.Book.meaning g.S.Book.meaning c.args.self.now in
    let f = end_view c.args.far in
    let p = packet_view c.args.packet.now in
    let told = c.in-Err.ensures in
    let made = c.in-Some.ensures in
    let known = c.in-Some-number_for.ensures in
    record {
      answer = voucher_refused w f p c.in-Some-number_for.number _ made known _ (refused_from_err _ tt _ (sym told.answer));
      after = λ i. with_ledger w (told.after i);
    }

use Rattle.std.proofs.Common.{◌≡◌, [], ◌∷◌, Some, None, Result, sym, ap, ◌∙◌}
use Rattle.std.proofs.lemmas.Result.{err_from_is_err_and}
use Rattle.ledger.proofs.Answers.{free_from_ok}
use Rattle.protocol.specs.declared.faults.WorldFault.{WorldFault}
use Rattle.protocol.specs.Faults.{world_number}
use Rattle.protocol.specs.Refusals.{first, ◌when◌}
use Rattle.protocol.specs.World.{World}
use Rattle.protocol.specs.Calls.{Answer, timeout, done, no, said, refusals}
use Rattle.world.specs.View.{view}
use Rattle.world.proofs.Settlements.{refund_same, closed_same, link_listed}
use Rattle.world.proofs.Verdicts.{refused_by, accepted, refused_from_err, stopped}
use Rattle.world.proofs.world.World.timeout.Goals as goal

pub returns-in_err-sent : goal.returns-in_err-sent
returns-in_err-sent g c =
    let w = view g.L.Ledger.meaning g.F.Book.meaning g.S.Book.meaning c.args.self.now in
    let n = world_number c.in_err-sent.field-0.0 in
    let r = err_from_is_err_and c.from_residual.result c.from_residual.ensures.1 in
    let stop = stopped w (timeout c.args.id.link c.args.id.direction c.args.id.sequence) n c.in_err-sent.ensures in
    record {
      answer = ap (said (λ (x : Unit {0}). done) world_number) r.1 ∙ ap (λ (f : WorldFault). no (world_number f)) r.2 ∙ stop.0;
      after = stop.1;
    }

pub returns-in_err-refund : goal.returns-in_err-refund
returns-in_err-refund g c =
    let w = view g.L.Ledger.meaning g.F.Book.meaning g.S.Book.meaning c.args.self.now in
    let l = c.args.id.link in
    let d = c.args.id.direction in
    let s = c.args.id.sequence in
    let q = c.in_ok-sent.sent.route in
    let n = c.in_ok-sent.sent.place in
    let p = c.in_ok-sent.sent.packet in
    let a = c.in_ok-sent.ensures in
    let told = c.in_err-refund.ensures in
    let f = c.in_err-refund.field-0.0 in
    let by : first (refusals w (timeout l d s)) ≡ Some (world_number f) =
    a.left
    ∙ (λ i. first (34 when sym (refund_same w l d s q n p a.on) i ∷ []))
    ∙ refused_from_err _ tt (world_number f) (sym told.answer)
    in
    let stopped = refused_by w (timeout l d s) (world_number f) by in
    let r = err_from_is_err_and c.from_residual-in_err-refund.result c.from_residual-in_err-refund.ensures.1 in
    record {
      answer =
          ap (λ (x : Result (Unit {0}) WorldFault). said (λ (y : Unit {0}). done) world_number x) r.1
          ∙ ap (λ (x : WorldFault). no (world_number x)) r.2
          ∙ sym (ap (λ (x : World × Answer). x.1) stopped);
      after = told.after ∙ sym (ap (λ (x : World × Answer). x.0) stopped);
    }

pub close_if_strict-requires : goal.close_if_strict-requires
close_if_strict-requires g c =
    let w = view g.L.Ledger.meaning g.F.Book.meaning g.S.Book.meaning c.args.self.now in
    let l = c.args.id.link in
    let d = c.args.id.direction in
    let s = c.args.id.sequence in
    let q = c.in_ok-sent.sent.route in
    let n = c.in_ok-sent.sent.place in
    let p = c.in_ok-sent.sent.packet in
    let a = c.in_ok-sent.ensures in
    let v = view g.L.Ledger.meaning g.F.Book.meaning g.S.Book.meaning c.refund.new.self in
    link_listed w l d s q n p a.on v c.in_ok-refund.ensures.after

pub returns : goal.returns
returns g c =
    let w = view g.L.Ledger.meaning g.F.Book.meaning g.S.Book.meaning c.args.self.now in
    let l = c.args.id.link in
    let d = c.args.id.direction in
    let s = c.args.id.sequence in
    let q = c.in_ok-sent.sent.route in
    let n = c.in_ok-sent.sent.place in
    let p = c.in_ok-sent.sent.packet in
    let a = c.in_ok-sent.ensures in
    let v = view g.L.Ledger.meaning g.F.Book.meaning g.S.Book.meaning c.refund.new.self in
    let told = c.in_ok-refund.ensures in
    let by : first (refusals w (timeout l d s)) ≡ None =
    a.left
    ∙ (λ i. first (34 when sym (refund_same w l d s q n p a.on) i ∷ []))
    ∙ free_from_ok _ tt tt (sym told.answer)
    in
    let ok = accepted w (timeout l d s) by in
    record {
      answer = sym (ap (λ (x : World × Answer). x.1) ok);
      after =
          c.close_if_strict.ensures
          ∙ closed_same w l d s q n p a.on v told.after
          ∙ sym (ap (λ (x : World × Answer). x.0) ok);
    }

use Rattle.protocol.specs.Faults.{world_number}
use Rattle.protocol.specs.declared.faults.WorldFault.{WorldFault}
use Rattle.std.proofs.lemmas.Result.{err_from_is_err_and}
use Rattle.std.proofs.Common.{◌≡◌, true, false, cond, not, ◌&&◌, [], ◌∷◌, None, sym, ap, ◌∙◌}
use Rattle.protocol.specs.Refusals.{first, ◌when◌, left_by}
use Rattle.protocol.specs.World.{World, lane}
use Rattle.protocol.specs.Calls.{Answer, ack, done, refusals, packet_at, packet_place, refund_refused, refunded, ended, with_packets, no, said}
use Rattle.world.specs.Settling.{goes_back, refund_refusals}
use Rattle.tables.specs.View.{end_view, packet_view}
use Rattle.world.specs.View.{view}
use Rattle.world.proofs.Settlements.{refund_same, refunded_same, not_back, verdict}
use Rattle.world.proofs.Verdicts.{accepted, stopped}
use Rattle.world.proofs.world.World.ack.Goals as goal

pub returns-in_err-sent : goal.returns-in_err-sent
returns-in_err-sent g c =
    let w = view g.L.Ledger.meaning g.F.Book.meaning g.S.Book.meaning c.args.self.now in
    let n = world_number c.in_err-sent.field-0.0 in
    let r = err_from_is_err_and c.from_residual.result c.from_residual.ensures.1 in
    let stop = stopped w (ack c.args.id.link c.args.id.direction c.args.id.sequence) n c.in_err-sent.ensures in
    record {
      answer = ap (said (λ (x : Unit {0}). done) world_number) r.1 ∙ ap (λ (f : WorldFault). no (world_number f)) r.2 ∙ stop.0;
      after = stop.1;
    }

pub returns-in-EndsWithRefund : goal.returns-in-EndsWithRefund
returns-in-EndsWithRefund g c =
    let w = view g.L.Ledger.meaning g.F.Book.meaning g.S.Book.meaning c.args.self.now in
    let l = c.args.id.link in
    let d = c.args.id.direction in
    let s = c.args.id.sequence in
    let q = c.in_ok-sent.sent.route in
    let n = c.in_ok-sent.sent.place in
    let p = c.in_ok-sent.sent.packet in
    let a = c.in_ok-sent.ensures in
    let pk = packet_at w (lane l d) s in
    let back : goes_back c.in_ok-sent.effect ≡ true = ap goes_back c.in-EndsWithRefund.is in
    let left = a.left ∙ (λ i. first (34 when (back i && sym (refund_same w l d s q n p a.on) i) ∷ [])) in
    let kept = a.good ∙ ap not back in
    let v =
    verdict w (ack l d s) c.refund.result (first (refund_refusals w (end_view q.near) (packet_view p))) _ _ left c.refund.ensures.answer
    (λ i. (ended (cond (kept i) w (refunded w pk)) (packet_place w (lane l d) s), done))
    (c.refund.ensures.after ∙ ap (λ x. left_by c.refund.result w x) (refunded_same w l d s q n p a.on))
    in
    record { answer = v.0; after = v.1 }

pub returns : goal.returns
returns g c =
    let w = view g.L.Ledger.meaning g.F.Book.meaning g.S.Book.meaning c.args.self.now in
    let l = c.args.id.link in
    let d = c.args.id.direction in
    let s = c.args.id.sequence in
    let q = c.in_ok-sent.sent.route in
    let n = c.in_ok-sent.sent.place in
    let p = c.in_ok-sent.sent.packet in
    let a = c.in_ok-sent.ensures in
    let pk = packet_at w (lane l d) s in
    let stays : goes_back c.in_ok-sent.effect ≡ false = not_back c.in_ok-sent.effect c.in_default.not-EndsWithRefund in
    let by : first (refusals w (ack l d s)) ≡ None = a.left ∙ (λ i. first (34 when (stays i && refund_refused w pk) ∷ [])) in
    let kept = a.good ∙ ap not stays in
    let ok = accepted w (ack l d s) by in
    record {
      answer = sym (ap (λ (x : World × Answer). x.1) ok);
      after =
          (λ i. with_packets w (c.end.ensures i))
          ∙ (λ i. ended (cond (sym kept i) w (refunded w pk)) (a.on.look.place_is i))
          ∙ sym (ap (λ (x : World × Answer). x.0) ok);
    }

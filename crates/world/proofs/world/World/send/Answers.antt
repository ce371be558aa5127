use Rattle.std.proofs.Common.{◌≡◌, ℕ, ◌+◌, ◌<◌, true, eqb, List, map, length, Some, None, Result, sym, ap, ◌∙◌, arith, rules}
use Rattle.std.proofs.lemmas.Result.{err_from_is_err_and}
use Rattle.std.proofs.lemmas.List.{map_push}
use Rattle.sums.specs.Sums.{count}
use Rattle.denom.specs.Denomination.{Denom}
use Rattle.denom.specs.Views.{denom_view}
use Rattle.ledger.proofs.Answers.{free_from_ok}
use Rattle.protocol.specs.declared.faults.WorldFault.{WorldFault}
use Rattle.protocol.specs.Faults.{world_number, ledger_number}
use Rattle.protocol.specs.Refusals.{first}
use Rattle.protocol.specs.World.{World, Packet, lane_out}
use Rattle.protocol.specs.Calls.{send, says, no, said, refusals, with_bal, with_packets, recorded, sent_off, next_sequence}
use Rattle.world.specs.View.{view}
use Rattle.tables.specs.View.{packet_view}
use Rattle.tables.specs.declared.types.Route.{Route}
use Rattle.world.specs.Sending.{Sendable, off_refusals, off_balances, taking_refusals}
use Rattle.tables.proofs.Counts.{count_le}
use Rattle.world.proofs.Sendings.{off_left}
use Rattle.world.proofs.Verdicts.{refused_by, accepted, refused_from_err, stopped}
use Rattle.world.proofs.world.World.send.Goals as goal

-- the refusals of a send that the world lets pass are those of the ledger
at-ledger :
    (w : World) (c k u v : ℕ) (e : Denom) (n t : ℕ) (r : Route) (d : ℕ) → Sendable w c k u v e n t r d →
    first (refusals w (send c k u v e n t)) ≡ first (off_refusals w.ledger c k u e d n)
at-ledger w c k u v e n t r d q =
    q.left
    ∙ ap (λ m. first (taking_refusals w.ledger c u m n)) (sym q.number_is)
    ∙ sym (off_left w.ledger c k u e d n q.chain q.channel q.sender q.amount q.low)

-- what the ledger left, by the denomination's number
by_number :
    (w : World) (c k u v : ℕ) (e : Denom) (n t : ℕ) (r : Route) (d : ℕ) → Sendable w c k u v e n t r d →
    with_bal w (off_balances w.ledger.balance c k u e d n) ≡ with_bal w (sent_off w c k u e n)
by_number w c k u v e n t r d q = ap (λ m. with_bal w (off_balances w.ledger.balance c k u e m n)) q.number_is

-- the next sequence, counted on the route's lane among packets that are as they were
sequence-is :
    (w : World) (c k u v : ℕ) (e : Denom) (n t : ℕ) (r : Route) (d : ℕ) → Sendable w c k u v e n t r d → (ps : List Packet) (sent : ℕ) →
    ps ≡ w.packets → sent ≡ count (λ p. eqb p.lane r.lane) ps → sent + 1 ≡ next_sequence w (lane_out w.links c k)
sequence-is w c k u v e n t r d q ps sent same is =
    let there : sent ≡ count (λ p. eqb p.lane (lane_out w.links c k)) w.packets =
    is ∙ (λ i. count (λ p. eqb p.lane (q.lane_is i)) (same i))
    in
    omega (arith, there)

-- and there is room for it
sequence-low :
    (w : World) (c k u v : ℕ) (e : Denom) (n t : ℕ) (r : Route) (d : ℕ) → Sendable w c k u v e n t r d → (ps : List Packet) (sent : ℕ) →
    ps ≡ w.packets → sent ≡ count (λ p. eqb p.lane r.lane) ps → sent < 512
sequence-low w c k u v e n t r d q ps sent same is =
    omega (arith, is, count_le (λ (p : Packet). eqb p.lane r.lane) ps, ap length same, q.room)

pub returns-in_err-route : goal.returns-in_err-route
returns-in_err-route g c =
    let w = view g.L.Ledger.meaning g.F.Book.meaning g.S.Book.meaning c.args.self.now in
    let n = world_number c.in_err-route.field-0.0 in
    let r = err_from_is_err_and c.from_residual.result c.from_residual.ensures.1 in
    let stop = stopped w (send c.args.transfer.now.chain c.args.transfer.now.channel c.args.transfer.now.sender c.args.transfer.now.receiver (denom_view c.args.transfer.now.denomination) c.args.transfer.now.amount c.args.transfer.now.timeout) n c.in_err-route.ensures in
    record {
      answer = ap (said says world_number) r.1 ∙ ap (λ (f : WorldFault). no (world_number f)) r.2 ∙ stop.0;
      after = stop.1;
    }

pub returns-in_err-send_off : goal.returns-in_err-send_off
returns-in_err-send_off g c =
    let w = view g.L.Ledger.meaning g.F.Book.meaning g.S.Book.meaning c.args.self.now in
    let e = denom_view c.args.transfer.now.denomination in
    let k = send c.args.transfer.now.chain c.args.transfer.now.channel c.args.transfer.now.sender c.args.transfer.now.receiver e c.args.transfer.now.amount c.args.transfer.now.timeout in
    let q = c.in_ok-route.ensures in
    let told = c.in_err-send_off.ensures in
    let p = err_from_is_err_and c.from_residual-in_err-send_off.result c.from_residual-in_err-send_off.ensures.1 in
    let n = ledger_number c.in_err-send_off.field-0.0 in
    let by : first (refusals w k) ≡ Some n =
    at-ledger w c.args.transfer.now.chain c.args.transfer.now.channel c.args.transfer.now.sender c.args.transfer.now.receiver e c.args.transfer.now.amount c.args.transfer.now.timeout c.in_ok-route.route c.in_ok-route.number q
    ∙ refused_from_err _ tt n (sym told.answer)
    in
    let s = refused_by w k n by in
    record {
      answer =
          ap (λ (r : Result ℕ WorldFault). said says world_number r) p.1
          ∙ ap (λ (f : WorldFault). no (world_number f)) p.2
          ∙ sym (ap (λ p. p.1) s);
      after = told.after ∙ sym (ap (λ p. p.0) s);
    }

pub overflow_add-sequence : goal.overflow_add-sequence
overflow_add-sequence g c =
    let w = view g.L.Ledger.meaning g.F.Book.meaning g.S.Book.meaning c.args.self.now in
    let e = denom_view c.args.transfer.now.denomination in
    let q = c.in_ok-route.ensures in
    let off = c.in_ok-send_off.ensures.after in
    let low : c.sent_on-sequence.result < 512 =
    sequence-low w c.args.transfer.now.chain c.args.transfer.now.channel c.args.transfer.now.sender c.args.transfer.now.receiver e c.args.transfer.now.amount c.args.transfer.now.timeout c.in_ok-route.route c.in_ok-route.number q _ _ (ap (λ (v : World). v.packets) off) c.sent_on-sequence.ensures
    in
    search rules

pub invariant_of-push : goal.invariant_of-push
invariant_of-push g c =
    let w = view g.L.Ledger.meaning g.F.Book.meaning g.S.Book.meaning c.args.self.now in
    let e = denom_view c.args.transfer.now.denomination in
    let q = c.in_ok-route.ensures in
    let off = c.in_ok-send_off.ensures.after in
    let low : c.sent_on-sequence.result < 512 =
    sequence-low w c.args.transfer.now.chain c.args.transfer.now.channel c.args.transfer.now.sender c.args.transfer.now.receiver e c.args.transfer.now.amount c.args.transfer.now.timeout c.in_ok-route.route c.in_ok-route.number q _ _ (ap (λ (v : World). v.packets) off) c.sent_on-sequence.ensures
    in
    record { first = omega arith; last = omega arith }

pub returns : goal.returns
returns g c =
    let w = view g.L.Ledger.meaning g.F.Book.meaning g.S.Book.meaning c.args.self.now in
    let e = denom_view c.args.transfer.now.denomination in
    let k = send c.args.transfer.now.chain c.args.transfer.now.channel c.args.transfer.now.sender c.args.transfer.now.receiver e c.args.transfer.now.amount c.args.transfer.now.timeout in
    let q = c.in_ok-route.ensures in
    let left = view g.L.Ledger.meaning g.F.Book.meaning g.S.Book.meaning c.send_off.new.self in
    let told = c.in_ok-send_off.ensures in
    let off : left ≡ with_bal w (sent_off w c.args.transfer.now.chain c.args.transfer.now.channel c.args.transfer.now.sender e c.args.transfer.now.amount) =
    told.after
    ∙ by_number w c.args.transfer.now.chain c.args.transfer.now.channel c.args.transfer.now.sender c.args.transfer.now.receiver e c.args.transfer.now.amount c.args.transfer.now.timeout c.in_ok-route.route c.in_ok-route.number q
    in
    let seq =
    sequence-is w c.args.transfer.now.chain c.args.transfer.now.channel c.args.transfer.now.sender c.args.transfer.now.receiver e c.args.transfer.now.amount c.args.transfer.now.timeout c.in_ok-route.route c.in_ok-route.number q left.packets c.sent_on-sequence.result (ap (λ (v : World). v.packets) off) c.sent_on-sequence.ensures
    in
    let by : first (refusals w k) ≡ None =
    at-ledger w c.args.transfer.now.chain c.args.transfer.now.channel c.args.transfer.now.sender c.args.transfer.now.receiver e c.args.transfer.now.amount c.args.transfer.now.timeout c.in_ok-route.route c.in_ok-route.number q
    ∙ free_from_ok _ tt tt (sym told.answer)
    in
    let s = accepted w k by in
    let pushed = ap (map packet_view) c.push.ensures ∙ map_push packet_view _ _ in
    record {
      answer = ap says seq ∙ sym (ap (λ p. p.1) s);
      after =
          (λ i. with_packets left (pushed i))
          ∙ (λ i.
          recorded (off i) (record {
            lane = q.lane_is i;
            sequence = seq i;
            sender = c.args.transfer.now.sender;
            receiver = c.args.transfer.now.receiver;
            denom = e;
            amount = c.args.transfer.now.amount;
            timeout = c.args.transfer.now.timeout;
            standing = true;
          }))
          ∙ sym (ap (λ p. p.0) s);
    }

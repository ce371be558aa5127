use Rattle.protocol.specs.declared.marks.Mark.{Mark}
use Rattle.protocol.specs.Faults.{world_number}
use Rattle.protocol.specs.declared.faults.WorldFault.{WorldFault}
use Rattle.std.proofs.lemmas.Result.{err_from_is_err_and}
use Rattle.std.proofs.Common.{◌≡◌, ℕ, Some, None, Option, sym, ap, ◌∙◌, arith}
use Rattle.protocol.specs.Book.{mark_number}
use Rattle.protocol.specs.Calls.{receive, says, no, said}
use Rattle.world.specs.View.{view}
use Rattle.world.proofs.Arrivals.{mark_is, taken_free, written_is}
use Rattle.world.proofs.Verdicts.{accepted, refused_from_err, stopped}
use Rattle.world.proofs.world.World.receive.Goals as goal

-- one answer cannot be both
never : (o : Option ℕ) (n : ℕ) → o ≡ None → o ≡ Some n → ⊥
never o n e f = let z : ◌≡◌ {A = ℕ} 0 1 = cc in omega arith

-- the book cannot refuse the mark any more
pub returns-in_err-route : goal.returns-in_err-route
returns-in_err-route g c =
    let w = view g.L.Ledger.meaning g.F.Book.meaning g.S.Book.meaning c.args.self.now in
    let n = world_number c.in_err-route.field-0.0 in
    let r = err_from_is_err_and c.from_residual.result c.from_residual.ensures.1 in
    let stop = stopped w (receive c.args.id.link c.args.id.direction c.args.id.sequence) n c.in_err-route.ensures in
    record {
      answer = ap (said (λ (m : Mark). says (mark_number m)) world_number) r.1 ∙ ap (λ (f : WorldFault). no (world_number f)) r.2 ∙ stop.0;
      after = stop.1;
    }

pub returns-in_err-take : goal.returns-in_err-take
returns-in_err-take g c =
    let w = view g.L.Ledger.meaning g.F.Book.meaning g.S.Book.meaning c.args.self.now in
    let v = view g.L.Ledger.meaning g.F.Book.meaning g.S.Book.meaning c.deliver-mark.new.self in
    let q = c.in_ok-route.route in
    let p = c.in_ok-route.packet in
    let r = c.in_ok-route.ensures in
    let m = mark_number c.deliver-mark.result in
    let mark = mark_is w c.args.id.link c.args.id.direction c.args.id.sequence q p r m c.deliver-mark.ensures.answer in
    let free = taken_free w c.args.id.link c.args.id.direction c.args.id.sequence q p r v m mark c.deliver-mark.ensures.after in
    absurd (never _ _ free (refused_from_err _ tt _ (sym c.in_err-take.ensures.answer)))

pub returns : goal.returns
returns g c =
    let w = view g.L.Ledger.meaning g.F.Book.meaning g.S.Book.meaning c.args.self.now in
    let v = view g.L.Ledger.meaning g.F.Book.meaning g.S.Book.meaning c.deliver-mark.new.self in
    let q = c.in_ok-route.route in
    let p = c.in_ok-route.packet in
    let r = c.in_ok-route.ensures in
    let m = mark_number c.deliver-mark.result in
    let mark = mark_is w c.args.id.link c.args.id.direction c.args.id.sequence q p r m c.deliver-mark.ensures.answer in
    let s = accepted w (receive c.args.id.link c.args.id.direction c.args.id.sequence) r.clear in
    record {
      answer = ap says mark ∙ sym (ap (λ x. x.1) s);
      after =
          c.in_ok-take.ensures.after
          ∙ written_is w c.args.id.link c.args.id.direction c.args.id.sequence q p r v m mark c.deliver-mark.ensures.after
          ∙ sym (ap (λ x. x.0) s);
    }

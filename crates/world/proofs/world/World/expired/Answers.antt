use Rattle.std.proofs.Common.{◌||◌, sym}
use Rattle.std.proofs.lemmas.Result.{err_from_is_err_and}
use Rattle.world.specs.View.{view}
use Rattle.world.proofs.Looks.{marked_same, height_passed}
use Rattle.world.proofs.Settlements.{timeout_rest, timeout_stopped, timeout_expired}
use Rattle.world.proofs.world.World.expired.Goals as goal

pub returns-in_err-sent : goal.returns-in_err-sent
returns-in_err-sent g c =
    let w = view g.L.Ledger.meaning g.F.Book.meaning g.S.Book.meaning c.args.self.now in
    let p = err_from_is_err_and c.from_residual.result c.from_residual.ensures.1 in
    rw (p.1, p.2) (c.in_err-sent.ensures (timeout_rest w c.args.id.link c.args.id.direction c.args.id.sequence))

pub returns-in_err-step : goal.returns-in_err-step
returns-in_err-step g c =
    let w = view g.L.Ledger.meaning g.F.Book.meaning g.S.Book.meaning c.args.self.now in
    let l = c.args.id.link in
    let d = c.args.id.direction in
    let s = c.args.id.sequence in
    let q = c.in_ok-sent.sent.route in
    let n = c.in_ok-sent.sent.place in
    let p = c.in_ok-sent.sent.packet in
    let on = c.in_ok-sent.ensures in
    let closed = sym on.leads.closed_is in
    let late = height_passed w l d s q on.leads p.timeout _ c.has_passed.ensures in
    let mark = marked_same w l d s q on.leads c.look-mark.result c.look-mark.ensures in
    let r = err_from_is_err_and c.from_residual-in_err-step.result c.from_residual-in_err-step.ensures.1 in
    rw (r.1, r.2)
    (timeout_stopped w l d s q n p on _ c.look-mark.result _ mark (λ i. closed i || late i) c.in_err-step.ensures)

pub returns : goal.returns
returns g c =
    let w = view g.L.Ledger.meaning g.F.Book.meaning g.S.Book.meaning c.args.self.now in
    let l = c.args.id.link in
    let d = c.args.id.direction in
    let s = c.args.id.sequence in
    let q = c.in_ok-sent.sent.route in
    let n = c.in_ok-sent.sent.place in
    let p = c.in_ok-sent.sent.packet in
    let on = c.in_ok-sent.ensures in
    let closed = sym on.leads.closed_is in
    let late = height_passed w l d s q on.leads p.timeout _ c.has_passed.ensures in
    let mark = marked_same w l d s q on.leads c.look-mark.result c.look-mark.ensures in
    timeout_expired w l d s q n p on _ c.look-mark.result _ mark (λ i. closed i || late i) c.in_ok-step.ensures

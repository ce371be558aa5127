use Rattle.std.proofs.Common.{◌&&◌}
use Rattle.std.proofs.lemmas.Result.{err_from_is_err_and}
use Rattle.world.specs.View.{view}
use Rattle.world.proofs.Looks.{mark_same, marked_same, strict_same, lower_same}
use Rattle.world.proofs.Settlements.{ack_rest, ack_stopped, ack_known}
use Rattle.world.proofs.world.World.acknowledgeable.Goals as goal

pub returns-in_err-sent : goal.returns-in_err-sent
returns-in_err-sent g c =
    let w = view g.L.Ledger.meaning g.F.Book.meaning g.S.Book.meaning c.args.self.now in
    let p = err_from_is_err_and c.from_residual.result c.from_residual.ensures.1 in
    rw (p.1, p.2) (c.in_err-sent.ensures (ack_rest w c.args.id.link c.args.id.direction c.args.id.sequence))

pub returns-in_err-effect : goal.returns-in_err-effect
returns-in_err-effect g c =
    let w = view g.L.Ledger.meaning g.F.Book.meaning g.S.Book.meaning c.args.self.now in
    let l = c.args.id.link in
    let d = c.args.id.direction in
    let s = c.args.id.sequence in
    let q = c.in_ok-sent.sent.route in
    let n = c.in_ok-sent.sent.place in
    let p = c.in_ok-sent.sent.packet in
    let on = c.in_ok-sent.ensures in
    let strict = strict_same w l d s q on.leads _ c.keeps_order.ensures in
    let lower = lower_same w l d s q on.leads _ c.lower_stands.ensures in
    let mark = marked_same w l d s q on.leads c.look-mark.result c.look-mark.ensures in
    let r = err_from_is_err_and c.from_residual-in_err-effect.result c.from_residual-in_err-effect.ensures.1 in
    rw (r.1, r.2)
    (ack_stopped w l d s q n p on _ c.look-mark.result _ mark (λ i. strict i && lower i) c.in_err-effect.ensures)

pub returns : goal.returns
returns g c =
    let w = view g.L.Ledger.meaning g.F.Book.meaning g.S.Book.meaning c.args.self.now in
    let l = c.args.id.link in
    let d = c.args.id.direction in
    let s = c.args.id.sequence in
    let q = c.in_ok-sent.sent.route in
    let n = c.in_ok-sent.sent.place in
    let p = c.in_ok-sent.sent.packet in
    let on = c.in_ok-sent.ensures in
    let strict = strict_same w l d s q on.leads _ c.keeps_order.ensures in
    let lower = lower_same w l d s q on.leads _ c.lower_stands.ensures in
    let mark = marked_same w l d s q on.leads c.look-mark.result c.look-mark.ensures in
    let is = mark_same w l d s q on.leads c.look-mark.result c.look-mark.ensures in
    ack_known w l d s q n p on _ c.look-mark.result _ is mark (λ i. strict i && lower i) c.in_ok-effect.ensures

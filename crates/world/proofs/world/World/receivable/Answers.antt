use Rattle.std.proofs.Common.{sym, ◌∙◌}
use Rattle.std.proofs.lemmas.Result.{err_from_is_err_and}
use Rattle.protocol.specs.Calls.{no_packet}
use Rattle.tables.specs.Packets.{is_packet}
use Rattle.tables.specs.Rows.{rows_of}
use Rattle.tables.specs.View.{packet_view}
use Rattle.tables.proofs.Kept.{found_row}
use Rattle.world.specs.View.{view}
use Rattle.world.proofs.Verdicts.{there_was}
use Rattle.world.proofs.Looks.{looked, height_passed, marked_same, waits_same, receipt_stopped, receipt_waits, receivable}
use Rattle.world.proofs.world.World.receivable.Goals as goal

pub returns-in_err-step : goal.returns-in_err-step
returns-in_err-step g c =
    let w = view g.L.Ledger.meaning g.F.Book.meaning g.S.Book.meaning c.args.self.now in
    let l = c.args.id.link in
    let d = c.args.id.direction in
    let s = c.args.id.sequence in
    let q = c.in_ok-route.route in
    let n = c.in_ok-place.place in
    let p = c.at-packet.result in
    let leads = rw (there_was _ _ _ c.in_ok-route.ensures.value) at c.route.ensures in
    let found = sym (there_was _ _ _ c.in_ok-place.ensures.value) ∙ c.find.ensures in
    let read = found_row packet_view (is_packet q.lane s) (rows_of c.args.self.now.tables.packets) n p no_packet found c.at-packet.ensures in
    let at = looked w l d s q leads n p found read in
    let alive = sym leads.closed_is ∙ c.if-route.false in
    let early = height_passed w l d s q leads p.timeout _ c.has_passed-expired.ensures in
    let mark = marked_same w l d s q leads _ c.look-mark.ensures in
    let r = err_from_is_err_and c.from_residual-in_err-step.result c.from_residual-in_err-step.ensures.1 in
    rw (r.1, r.2)
    (receipt_stopped w l d s q leads n p c.has_passed-expired.result c.look-mark.result _ at alive early mark c.in_err-step.ensures)

pub returns-then-awaits_lower : goal.returns-then-awaits_lower
returns-then-awaits_lower g c =
    let w = view g.L.Ledger.meaning g.F.Book.meaning g.S.Book.meaning c.args.self.now in
    let l = c.args.id.link in
    let d = c.args.id.direction in
    let s = c.args.id.sequence in
    let q = c.in_ok-route.route in
    let n = c.in_ok-place.place in
    let p = c.at-packet.result in
    let leads = rw (there_was _ _ _ c.in_ok-route.ensures.value) at c.route.ensures in
    let found = sym (there_was _ _ _ c.in_ok-place.ensures.value) ∙ c.find.ensures in
    let read = found_row packet_view (is_packet q.lane s) (rows_of c.args.self.now.tables.packets) n p no_packet found c.at-packet.ensures in
    let at = looked w l d s q leads n p found read in
    let alive = sym leads.closed_is ∙ c.if-route.false in
    let early = height_passed w l d s q leads p.timeout _ c.has_passed-expired.ensures in
    let mark = marked_same w l d s q leads _ c.look-mark.ensures in
    receipt_waits w l d s q leads n p c.has_passed-expired.result c.look-mark.result _ at alive early mark
    c.in_ok-step.ensures (waits_same w l d s q leads _ c.if-awaits_lower.ensures)

pub returns : goal.returns
returns g c =
    let w = view g.L.Ledger.meaning g.F.Book.meaning g.S.Book.meaning c.args.self.now in
    let l = c.args.id.link in
    let d = c.args.id.direction in
    let s = c.args.id.sequence in
    let q = c.in_ok-route.route in
    let n = c.in_ok-place.place in
    let p = c.at-packet.result in
    let leads = rw (there_was _ _ _ c.in_ok-route.ensures.value) at c.route.ensures in
    let found = sym (there_was _ _ _ c.in_ok-place.ensures.value) ∙ c.find.ensures in
    let read = found_row packet_view (is_packet q.lane s) (rows_of c.args.self.now.tables.packets) n p no_packet found c.at-packet.ensures in
    let at = looked w l d s q leads n p found read in
    let alive = sym leads.closed_is ∙ c.if-route.false in
    let early = height_passed w l d s q leads p.timeout _ c.has_passed-expired.ensures in
    let mark = marked_same w l d s q leads _ c.look-mark.ensures in
    receivable w l d s q leads n p c.has_passed-expired.result c.look-mark.result _ at alive early mark
    c.in_ok-step.ensures (waits_same w l d s q leads _ c.if-awaits_lower.ensures)

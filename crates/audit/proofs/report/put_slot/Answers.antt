use Rattle.std.proofs.Common.{◌≡◌, ℕ, ◌-◌, ◌≤◌, take, ap, ◌∙◌, arith}
use Rattle.std.proofs.lemmas.Result.{IfOk-weaker}
use Rattle.figures.proofs.Parts.{laid_front}
use Rattle.tables.proofs.Taken.{few_denoms}
use Rattle.world.specs.View.{view}
use Rattle.audit.specs.Slots.{has_line, line_in}
use Rattle.audit.proofs.Gathered.{slot_handed}
use Rattle.audit.proofs.Written.{has_one, fits_front}
use Rattle.audit.proofs.report.put_slot.Goals as goal

pub slice_bounds-put-end : goal.slice_bounds-put-end
slice_bounds-put-end g c =
    let w = view g.L.Ledger.meaning g.F.Book.meaning g.S.Book.meaning c.args.world.now in
    let told = c.in-Some.ensures in
    let one = has_one (has_line w c.slot_of-slot.result) c.in-Some.len (line_in w c.slot_of-slot.result) c.args.buffer.now _ told.answer told.buffer in
    let fits : c.in-Some.len ≤ 256 = omega (arith, one.1, fits_front (line_in w c.slot_of-slot.result) c.args.buffer.now c.write_slot.new.buffer 256 one.2 (omega arith) told.size) in
    fits

pub returns-in-Some : goal.returns-in-Some
returns-in-Some g c =
    let w = view g.L.Ledger.meaning g.F.Book.meaning g.S.Book.meaning c.args.world.now in
    let slot = c.slot_of-slot.result in
    let told = c.in-Some.ensures in
    let line = line_in w slot in
    let whole : c.in-Some.len - 0 ≡ c.in-Some.len = omega arith in
    let one = has_one (has_line w slot) c.in-Some.len line c.args.buffer.now _ told.answer told.buffer in
    let text = ap (λ (n : ℕ). take n c.write_slot.new.buffer) whole ∙ laid_front c.in-Some.len line c.args.buffer.now _ one.1 one.2 in
    IfOk-weaker c.put.result _ _
    (λ _ took. slot_handed w (few_denoms c.args.world.now.tables.denominations) g.O.Sink.takes _ _ c.args.place slot _ c.slot_of-slot.ensures one.0 text took)
    c.put.ensures

use Rattle.std.proofs.Common.{◌≡◌, ◌++◌, length, take, drop, refl, ap, ◌∙◌, length-take-le}
use Rattle.std.proofs.lemmas.List.{take-append-drop}
use Rattle.figures.specs.Figures.{over}
use Rattle.world.specs.View.{view}
use Rattle.audit.specs.Slots.{has_line, line_in}
use Rattle.audit.proofs.AddUp.{adds_up}
use Rattle.audit.proofs.Refused.{too_little_room, no_such_line, answered}
use Rattle.audit.proofs.Written.{has_one, over_front, fits_front}
use Rattle.audit.proofs.report.write_line.Goals as goal

pub returns-in_default : goal.returns-in_default
returns-in_default g c =
    let w = view g.L.Ledger.meaning g.F.Book.meaning g.S.Book.meaning c.args.world.now in
    record { answer = too_little_room w (length c.args.buffer.now) c.args.n _ c.in_default.ensures.cases; buffer = refl; accounts = adds_up w }

pub returns-in_default-find_line : goal.returns-in_default-find_line
returns-in_default-find_line g c =
    let w = view g.L.Ledger.meaning g.F.Book.meaning g.S.Book.meaning c.args.world.now in
    let chunk = c.in-Some.ensures.cases in
    record {
      answer = no_such_line w (length c.args.buffer.now) c.args.n _ chunk.enough c.in_default-find_line.ensures;
      buffer = ap (λ l. l ++ drop 256 c.args.buffer.now) chunk.same ∙ take-append-drop 256 c.args.buffer.now;
      accounts = adds_up w;
    }

pub returns-in-Some-write_slot : goal.returns-in-Some-write_slot
returns-in-Some-write_slot g c =
    let w = view g.L.Ledger.meaning g.F.Book.meaning g.S.Book.meaning c.args.world.now in
    let chunk = c.in-Some.ensures.cases in
    let slot = c.in-Some-find_line.slot in
    let nth = c.in-Some-find_line.ensures in
    let told = c.in-Some-write_slot.ensures in
    let room = c.in-Some.room.now in
    let after = c.write_slot.new.buffer in
    let line = line_in w slot in
    let one = has_one (has_line w slot) c.in-Some-write_slot.len line room after told.answer told.buffer in
    let front : after ≡ over line (take 256 c.args.buffer.now) = one.2 ∙ ap (over line) chunk.same in
    record {
      answer = answered w (length c.args.buffer.now) c.args.n c.in-Some-write_slot.len _ chunk.enough nth.within (one.1 ∙ ap length nth.line);
      buffer = over_front line c.args.buffer.now after 256 front (fits_front line room after 256 one.2 (ap length chunk.same ∙ length-take-le 256 c.args.buffer.now chunk.enough) told.size) ∙ ap (λ l. over l c.args.buffer.now) nth.line;
      accounts = adds_up w;
    }

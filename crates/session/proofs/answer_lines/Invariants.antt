use Rattle.std.proofs.Common.{◌≡◌, Bool}
use Rattle.protocol.specs.Book.{Book}
use Rattle.protocol.specs.Ledger.{Ledger}
use Rattle.script.specs.Lines.{pieces, lines}
use Rattle.script.specs.Readers.{left}
use Rattle.world.specs.View.{view}
use Rattle.session.specs.Conservation.{Reached}
use Rattle.session.specs.Session.{script_after}
use Rattle.session.proofs.answer_lines.Given as goal

abbrev pub invariant-loop-number : goal.invariant-loop-number
invariant-loop-number g l =
    ((m : Ledger) (bs : Bool → Book) →
    Reached m bs (view g.L.Ledger.meaning g.F.Book.meaning g.S.Book.meaning l.initial.world) →
    Reached m bs (view g.L.Ledger.meaning g.F.Book.meaning g.S.Book.meaning l.world))
    × (l.number-iterator.lines.end ≡ 10)
    × (script_after (view g.L.Ledger.meaning g.F.Book.meaning g.S.Book.meaning l.world) (pieces 10 (left l.number-iterator.lines)) ≡
    script_after (view g.L.Ledger.meaning g.F.Book.meaning g.S.Book.meaning l.initial.world) (lines l.text))

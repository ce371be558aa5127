use Rattle.std.proofs.Common.{◌≡◌, length}
use Rattle.figures.specs.Sinks.{Handed}
use Rattle.protocol.specs.Audit.{gathered}
use Rattle.protocol.specs.World.{numbers_from}
use Rattle.world.specs.View.{view}
use Rattle.audit.specs.Slots.{at_place}
use Rattle.audit.proofs.report.write_audit.Given as goal

-- the lines of the slots below have been handed on
abbrev pub invariant-loop-place : goal.invariant-loop-place
invariant-loop-place g l =
    (length l.buffer ≡ 256)
    × Handed g.O.Sink.takes l.initial.out (gathered (at_place (view g.L.Ledger.meaning g.F.Book.meaning g.S.Book.meaning l.world)) (numbers_from 0 l.place)) l.out

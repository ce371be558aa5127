use Rattle.std.proofs.Common.{◌≡◌, ◌++◌, map, take, drop}
use Rattle.note_bank.specs.Notes.{released}
use Rattle.note_bank.proofs.pairs.release.Given as goal

-- the places passed are freed of the notes, the others as they were
abbrev pub invariant-loop-place : goal.invariant-loop-place
invariant-loop-place l =
    l.places ≡ map (released l.holding.account l.holding.denomination) (take l.place-index l.initial.places) ++ drop l.place-index l.initial.places

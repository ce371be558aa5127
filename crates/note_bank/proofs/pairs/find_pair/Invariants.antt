use Rattle.std.proofs.Common.{◌≡◌, length, is_some}
use Rattle.sums.specs.Sums.{count}
use Rattle.note_bank.proofs.Seen.{Noted}
use Rattle.note_bank.proofs.pairs.find_pair.Given as goal

-- as many pairs were seen as places were passed, each at the place that is noted for it
abbrev pub invariant-loop-index : goal.invariant-loop-index
invariant-loop-index l =
    (count is_some l.seen ≡ l.index) × Noted l.places l.seen l.index × (length l.seen ≡ 768)

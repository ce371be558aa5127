use Rattle.std.proofs.Common.{◌≡◌, ◌+◌, ◌*◌, ◌≤◌, drop}
use Rattle.sums.specs.Sums.{counted, counted_from}
use Rattle.sums.proofs.add_up.Given as goal

-- the sum so far is within its bound, and with what is left to add gives the whole
abbrev pub invariant-loop-place : goal.invariant-loop-place
invariant-loop-place g l =
    (l.sum ≤ l.place * 18446744073709551615)
    × (l.sum + counted_from (g.R.Row.amount l.which) (g.R.Row.counts l.which) l.place (drop l.place l.rows) ≡ counted (g.R.Row.amount l.which) (g.R.Row.counts l.which) l.rows)

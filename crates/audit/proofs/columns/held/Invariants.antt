use Rattle.std.proofs.Common.{◌≡◌, ◌*◌, ◌≤◌}
use Rattle.sums.specs.Sums.{sum_below}
use Rattle.denom.specs.Views.{token_view}
use Rattle.world.specs.View.{view}
use Rattle.audit.specs.Figures.{held_on}
use Rattle.audit.proofs.columns.held.Given as goal

-- the sum so far is within its bound, and is that of the chains below
abbrev pub invariant-loop-chain : goal.invariant-loop-chain
invariant-loop-chain g l =
    (l.sum ≤ l.chain * 590295810358705651680)
    × (l.sum ≡ sum_below l.chain (held_on (view g.L.Ledger.meaning g.F.Book.meaning g.S.Book.meaning l.world) (token_view l.token)))

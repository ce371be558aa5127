use Rattle.std.proofs.Common.{false, replicate}
use Rattle.ledger.proofs.Filled.{filled}
use Rattle.layers.proofs.Bars.{barring_cleared}
use Rattle.layers.proofs.barring.Barring.forget.Goals as goal

pub returns-clause-after : goal.returns-clause-after
returns-clause-after g c =
    barring_cleared c.args.self.now.flags (replicate 128 false) (g.L.Ledger.meaning c.args.self.now.ledger) (filled false 128)

-- Every line of the audit of a world that calls have reached adds up.
use Rattle.std.proofs.Common.{subst}
use Rattle.protocol.specs.World.{World}
use Rattle.protocol.proofs.Whole.{supply_accounted}
use Rattle.audit.specs.Accounts.{LinesAddUp, AddsUp}

pub adds_up : (w : World) → AddsUp w
adds_up w l bs past e =
    subst LinesAddUp e (record { tokens = (supply_accounted l bs).token_adds_up past; escrows = (supply_accounted l bs).escrow_adds_up past })

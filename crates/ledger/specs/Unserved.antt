-- What a ledger has on chains that it does not serve.
use Rattle.std.specs.Prelude.{◌≡◌, ℕ, ◌<◌, ◌≤◌}
use Rattle.protocol.specs.House.{chains_most}
use Rattle.protocol.specs.Ledger.{Ledger}

-- a chain 0 to 7 that a ledger does not serve has no balance
abbrev pub Unserved : Ledger → Type 0
Unserved m = (c a d : ℕ) → c < chains_most → m.chains ≤ c → m.balance c a d ≡ 0

-- Ledgers without bars, and empty ones among them.
use Rattle.std.specs.Prelude.{ℕ, false}
use Rattle.protocol.specs.Ledger.{Balances, Ledger}

-- a ledger of n chains none of which serves bars
abbrev pub without_bars : ℕ → Balances → Ledger
without_bars n b = record { chains = n; serves_bars = λ _. false; balance = b; barred = λ _ _. false }

-- such a ledger that holds nothing
abbrev pub empty : ℕ → Ledger
empty n = without_bars n (λ _ _ _. 0)

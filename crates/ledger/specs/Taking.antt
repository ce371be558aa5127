-- Taking from a balance, where chain, account, amount and denomination are known to be good and nobody is barred.
use Rattle.std.specs.Prelude.{ℕ, List, [], ◌∷◌}
use Rattle.protocol.specs.Ledger.{Balances, too_small}
use Rattle.protocol.specs.Refusals.{Refusal, ◌when◌}

-- it is refused only where the balance is too small
abbrev pub take_refusals : Balances → ℕ → ℕ → ℕ → ℕ → List Refusal
take_refusals b c a d n = 32 when too_small b c a d n ∷ []

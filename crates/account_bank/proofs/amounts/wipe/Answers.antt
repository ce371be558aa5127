use Rattle.std.proofs.Common.{◌≡◌, ℕ, get_or}
use Rattle.ledger.proofs.Filled.{filled}
use Rattle.account_bank.proofs.Tables.{zero_balances, zero_supplies}
use Rattle.account_bank.proofs.amounts.wipe.Goals as goal

-- every amount is 0 then
zero : (c : goal.After-fill) → (k : ℕ) → get_or c.fill.new.self.items k 0 ≡ 0
zero c k = rw (c.fill.ensures.items (λ y e. e)) (filled 0 _ k)

pub returns-clause-empty : goal.returns-clause-empty
returns-clause-empty c = zero_balances _ (zero c)

pub returns-clause-supplies : goal.returns-clause-supplies
returns-clause-supplies c = zero_supplies _ (zero c)

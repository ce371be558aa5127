use Rattle.std.proofs.Common.{◌≡◌, ℕ, get_or, None, rules}
use Rattle.ledger.proofs.Filled.{filled}
use Rattle.note_bank.proofs.Shares.{free_balances, freed_supplies}
use Rattle.note_bank.proofs.notes.wipe.Goals as goal

-- every place is free then
free : (c : goal.After-fill) → (k : ℕ) → get_or c.fill.new.self.items k None ≡ None
free c k = rw (c.fill.ensures.items (λ y e. search rules)) (filled None _ k)

pub returns-clause-empty : goal.returns-clause-empty
returns-clause-empty c = free_balances _ (free c)

pub returns-clause-supplies : goal.returns-clause-supplies
returns-clause-supplies c = freed_supplies _ (free c)

use Rattle.std.proofs.Common.{◌≡◌, ◌+◌, vec_items, refl, ◌∙◌, arith}
use Rattle.ledger.proofs.Supplies.{balance_in_supply}
use Rattle.note_bank.specs.Notes.{note_balances}
use Rattle.note_bank.proofs.Shares.{account_counted}
use Rattle.note_bank.proofs.notes.NotesStore.at.Goals as goal

-- what `add_up` gives is the balance
balance-is : (c : goal.After-add_up) → c.add_up.result ≡ note_balances (vec_items c.args.self.now.places) 0 c.args.holding.account c.args.holding.denomination
balance-is c =
    let bank = c.args.self.now in
    let l = bank.places.ok.0 in
    (rw c.front.ensures at c.add_up.ensures.sum)
    ∙ account_counted (record { denomination = c.args.holding.denomination; from = c.args.holding.account; to = c.args.holding.account + 1 }) bank.used (vec_items bank.places) bank.rest (omega (arith, c.args.self.now.large)) c.args.holding.denomination_known c.args.holding.account refl refl c.args.holding.account_known

-- it is at most the supply
pub overflow_cast-result : goal.overflow_cast-result
overflow_cast-result c =
    let b = note_balances (vec_items c.args.self.now.places) in
    omega (arith, balance-is c, balance_in_supply b 0 c.args.holding.account c.args.holding.denomination c.args.holding.account_known, c.args.self.now.supplies 0 c.args.holding.denomination)

pub returns : goal.returns
returns c = balance-is c

use Rattle.std.proofs.Common.{vec_items, arith}
use Rattle.ledger.proofs.Supplies.{balance_in_supply}
use Rattle.account_bank.specs.Table.{table_balances}
use Rattle.account_bank.proofs.amounts.AmountsStore.give.Goals as goal

-- a balance is at most its supply, so the new one fits as the new supply does
pub overflow_add-old : goal.overflow_add-old
overflow_add-old c =
    let b = table_balances (vec_items c.args.self.now.amounts) in
    omega (arith, balance_in_supply b 0 c.args.holding.account c.args.holding.denomination c.args.holding.account_known, c.at-old.ensures)

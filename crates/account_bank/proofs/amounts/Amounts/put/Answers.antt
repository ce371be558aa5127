use Rattle.std.proofs.Common.{vec_items, arith}
use Rattle.ledger.proofs.Supplies.{supplies_left}
use Rattle.account_bank.proofs.Tables.{balances_set}
use Rattle.account_bank.proofs.amounts.Amounts.put.Goals as goal

pub invariant_of-self-clause-supplies : goal.invariant_of-self-clause-supplies
invariant_of-self-clause-supplies c =
    let xs = vec_items c.args.self.now.amounts in
    let l = c.args.self.now.amounts.ok.0 in
    let at = c.args.holding in
    let e = balances_set xs at.account at.denomination c.args.amount (omega (arith, c.args.self.now.large)) at.account_known at.denomination_known in
    rw c.place.ensures (supplies_left _ _ 0 at.account at.denomination c.args.amount e at.account_known c.args.self.now.supplies c.requires)

pub returns : goal.returns
returns c =
    let l = c.args.self.now.amounts.ok.0 in
    let at = c.args.holding in
    rw c.place.ensures (balances_set (vec_items c.args.self.now.amounts) at.account at.denomination c.args.amount (omega (arith, c.args.self.now.large)) at.account_known at.denomination_known)

use Rattle.std.proofs.Common.{vec_items, arith}
use Rattle.std.proofs.lemmas.List.{get_or_read}
use Rattle.std.proofs.lemmas.Bool.Decides.{nat_tests}
use Rattle.account_bank.specs.Table.{table_balances}
use Rattle.account_bank.proofs.amounts.AmountsStore.at.Goals as goal

pub returns : goal.returns
unfolding table_balances
returns c =
    let l = c.args.self.now.amounts.ok.0 in
    let large = c.args.self.now.large in
    let read = get_or_read (vec_items c.args.self.now.amounts) c.place.result c.index.result.now (omega (arith, large, c.args.holding.account_known, c.args.holding.denomination_known)) c.index.ensures 0 in
    let here = rw c.place.ensures at read in
    grind (arith, nat_tests)

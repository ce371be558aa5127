use Rattle.std.proofs.Common.{◌≡◌, ℕ, vec_items, refl, ◌∙◌, arith}
use Rattle.std.proofs.lemmas.Bool.Decides.{nat_tests}
use Rattle.sums.specs.Sums.{sum_below}
use Rattle.sums.proofs.Below.{sum_front}
use Rattle.account_bank.specs.Table.{table_balances}
use Rattle.account_bank.proofs.Tables.{column_sum}
use Rattle.account_bank.proofs.amounts.AmountsStore.sum_of.Goals as goal

-- what `add_up` gives is the sum over the accounts
sum_is : (c : goal.After-add_up) → c.add_up.result ≡ sum_below c.args.accounts (λ a. table_balances (vec_items c.args.self.now.amounts) 0 a c.args.denomination)
sum_is c =
    let l = c.args.self.now.amounts.ok.0 in
    (rw c.deref.ensures.value at c.add_up.ensures.sum)
    ∙ column_sum (vec_items c.args.self.now.amounts) (record { denomination = c.args.denomination; from = 0; to = c.args.accounts }) (grind (arith, nat_tests)) c.requires.accounts refl c.requires.denomination

-- it is at most the supply
pub overflow_cast-result : goal.overflow_cast-result
overflow_cast-result c =
    let f = λ (a : ℕ). table_balances (vec_items c.args.self.now.amounts) 0 a c.args.denomination in
    omega (arith, sum_is c, sum_front 24 c.args.accounts f c.requires.accounts, c.args.self.now.supplies 0 c.args.denomination)

pub returns : goal.returns
returns c = sum_is c

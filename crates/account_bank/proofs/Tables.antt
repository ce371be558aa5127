-- A write to one amount of a table, its columns, and an empty table, as the ledger sees them.
use Rattle.std.proofs.Common.{◌≡◌, ℕ, ◌+◌, ◌*◌, ◌<◌, ◌≤◌, List, length, get_or, set, ◌∙◌, ⊎_elim, arith, length-set, get_or-set_other, get_or-set_same}
use mathlib.Core.Path.{fun_ext}
use Rattle.std.proofs.lemmas.Bool.{cases_eq}
use Rattle.std.proofs.lemmas.Bool.Decides.{nat_tests}
use Rattle.sums.specs.Sums.{sum_below, counted}
use Rattle.sums.specs.Columns.{in_column}
use Rattle.sums.specs.declared.Column.{Column}
use Rattle.sums.proofs.Below.{sum_same, sum_zero}
use Rattle.sums.proofs.Columns.{column_counted}
use Rattle.protocol.specs.House.{most}
use Rattle.protocol.specs.Ledger.{supply, put}
use Rattle.account_bank.specs.Table.{table_balances}

module _ (xs : List ℕ) (a d v : ℕ) (long : 768 ≤ length xs) (ha : a < 24) (hd : d < 32) where
  set_each : (c' a' d' : ℕ) → table_balances (set xs (a * 32 + d) v) c' a' d' ≡ put (table_balances xs) 0 a d v c' a' d'
  unfolding table_balances
  set_each c' a' d' =
      let len : length (set xs (a * 32 + d) v) ≡ length xs = length-set xs (a * 32 + d) v in
      ⊎_elim
      (λ (e : a' * 32 + d' ≡ a * 32 + d).
      let here : get_or (set xs (a * 32 + d) v) (a' * 32 + d') 0 ≡ v = rw e (get_or-set_same xs (a * 32 + d) v 0 (omega arith)) in
      grind (arith, nat_tests))
      (λ (e : a' * 32 + d' ≡ a * 32 + d → ⊥).
      let there : get_or (set xs (a * 32 + d) v) (a' * 32 + d') 0 ≡ get_or xs (a' * 32 + d') 0 = get_or-set_other xs (a * 32 + d) (a' * 32 + d') v 0 e in
      grind (arith, nat_tests))
      (cases_eq (a' * 32 + d') (a * 32 + d))

  -- a write sets one balance
  pub balances_set : table_balances (set xs (a * 32 + d) v) ≡ put (table_balances xs) 0 a d v
  balances_set = fun_ext λ c'. fun_ext λ a'. fun_ext λ d'. set_each c' a' d'

-- a column of the first n accounts, added up
pub column_sum : (xs : List ℕ) (w : Column) → 768 ≤ length xs → w.to ≤ 24 → w.from ≡ 0 → w.denomination < 32 → counted (λ x i. x) (in_column w) xs ≡ sum_below w.to (λ a. table_balances xs 0 a w.denomination)
unfolding table_balances
column_sum xs w long few all known =
    column_counted w xs (omega arith) known
    ∙ sum_same w.to _ _ (λ a h. grind (arith, nat_tests))

-- a table of noughts
module _ (xs : List ℕ) (none : (k : ℕ) → get_or xs k 0 ≡ 0) where
  zero_each : (c a d : ℕ) → table_balances xs c a d ≡ 0
  unfolding table_balances
  zero_each c a d = let h = none (a * 32 + d) in grind (arith, nat_tests)

  pub zero_balances : table_balances xs ≡ (λ _ _ _. 0)
  zero_balances = fun_ext λ c. fun_ext λ a. fun_ext λ d. zero_each c a d

  pub zero_supplies : (c d : ℕ) → supply (table_balances xs) c d ≤ most
  zero_supplies c d = omega (arith, sum_same 24 _ (λ _. 0) (λ a h. zero_each c a d), sum_zero 24)

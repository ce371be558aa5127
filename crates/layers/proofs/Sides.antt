-- A call to one of two ledgers side by side, seen from both.
use Rattle.std.proofs.Common.{◌≡◌, ℕ, ◌-◌, ◌<◌, ◌≤◌, refl, ap, arith}
use mathlib.Core.Path.{fun_ext}
use Rattle.std.proofs.lemmas.Bool.{lt-ltb}
use Rattle.std.proofs.lemmas.Bool.Decides.{nat_tests}
use Rattle.protocol.specs.Ledger.{Ledger, supply, with_balances, credited, debited, moved, credit_refusals}
use Rattle.protocol.specs.Refusals.{first}
use Rattle.layers.specs.Layers.{beside}

-- on the first side: why a credit is refused
module _ (m k : Ledger) (c : ℕ) (few : c < 256) (first-side : c < m.chains) (a d n : ℕ) where
  first_supply : supply (beside m k).balance c d ≡ supply m.balance c d
  first_supply = rw (lt-ltb c m.chains first-side) refl

  pub first_credit : first (credit_refusals m c a d n) ≡ first (credit_refusals (beside m k) c a d n)
  first_credit = grind (arith, nat_tests, first_supply)

-- on the second side: what is made of the balances
module _ (m k : Ledger) (c : ℕ) (few : c < 256) (second-side : m.chains ≤ c) (a d n : ℕ) where
  pub second_credited : beside m (with_balances k (credited k.balance (c - m.chains) a d n)) ≡ with_balances (beside m k) (credited (beside m k).balance c a d n)
  second_credited = ap (with_balances (beside m k)) (fun_ext λ c'. fun_ext λ a'. fun_ext λ d'. grind (arith, nat_tests))

  pub second_debited : beside m (with_balances k (debited k.balance (c - m.chains) a d n)) ≡ with_balances (beside m k) (debited (beside m k).balance c a d n)
  second_debited = ap (with_balances (beside m k)) (fun_ext λ c'. fun_ext λ a'. fun_ext λ d'. grind (arith, nat_tests))

  pub second_moved : (a' : ℕ) → beside m (with_balances k (moved k.balance (c - m.chains) a a' d n)) ≡ with_balances (beside m k) (moved (beside m k).balance c a a' d n)
  second_moved a' = ap (with_balances (beside m k)) (fun_ext λ c'. fun_ext λ b. fun_ext λ d'. grind (arith, nat_tests))

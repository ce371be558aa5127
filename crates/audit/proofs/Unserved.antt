-- A question about a total that a ledger refuses is about a chain that it does not serve, where there is nothing.
use Rattle.std.proofs.Common.{◌≡◌, ℕ, ◌<◌, ◌≤◌, true, false, leb, Ok, Err, Some, None, Option, Result, sym, ◌∙◌, ⊎_elim, arith, leb-true}
use Rattle.std.proofs.lemmas.Bool.{cases_Bool, lt-leb}
use Rattle.sums.specs.Sums.{sum_below}
use Rattle.sums.proofs.Below.{sum_same, sum_zero}
use Rattle.protocol.specs.House.{chains_most, denoms_most}
use Rattle.protocol.specs.Ledger.{Ledger, supply_refusals}
use Rattle.protocol.specs.declared.faults.LedgerFault.{LedgerFault}
use Rattle.protocol.specs.Faults.{told_by, ledger_number}
use Rattle.protocol.specs.Refusals.{first, answer_unless, unless_refused}
use Rattle.std.specs.Result.{result_unwrap_or}

-- the refusal is for the chain
not_served : (l : Ledger) (c d v k : ℕ) → d < denoms_most → Err k ≡ answer_unless (supply_refusals l c d) v → l.chains ≤ c
not_served l c d v k h e =
    ⊎_elim
    (λ (yes' : leb l.chains c ≡ true). leb-true l.chains c yes')
    (λ (no' : leb l.chains c ≡ false).
    let known : leb denoms_most d ≡ false = lt-leb denoms_most d h in
    let answered : Err k ≡ Ok v = rw (no', known) at e in
    let z : ◌≡◌ {A = ℕ} 0 1 = cc in
    absurd (omega arith))
    (cases_Bool (leb l.chains c))

-- so the sum over its accounts is 0
pub nothing_there :
    (l : Ledger) (n c d v k : ℕ) → ((c a d : ℕ) → c < chains_most → l.chains ≤ c → l.balance c a d ≡ 0) → c < chains_most → d < denoms_most →
    Err k ≡ answer_unless (supply_refusals l c d) v → 0 ≡ sum_below n (λ a. l.balance c a d)
nothing_there l n c d v k none few h e =
    let past = not_served l c d v k h e in
    sym (sum_same n (λ a. l.balance c a d) (λ a. 0) (λ a _. none c a d few past) ∙ sum_zero n)

-- what a ledger answers for such a sum, or nothing where it refuses
pub sum_or_nothing :
    (l : Ledger) (n c d : ℕ) (r : Result ℕ LedgerFault) → ((c a d : ℕ) → c < chains_most → l.chains ≤ c → l.balance c a d ≡ 0) → c < chains_most → d < denoms_most →
    told_by ledger_number r ≡ answer_unless (supply_refusals l c d) (sum_below n (λ a. l.balance c a d)) → result_unwrap_or r 0 ≡ sum_below n (λ a. l.balance c a d)
sum_or_nothing l n c d (Err f) none few h e = nothing_there l n c d _ (ledger_number f) none few h e
sum_or_nothing l n c d (Ok x) none few h e = go (first (supply_refusals l c d)) e
  where
    go : (o : Option ℕ) → Ok x ≡ unless_refused o (sum_below n (λ a. l.balance c a d)) → x ≡ sum_below n (λ a. l.balance c a d)
    go None e = cc
    go (Some m) e = let z : ◌≡◌ {A = ℕ} 0 1 = cc in absurd (omega arith)

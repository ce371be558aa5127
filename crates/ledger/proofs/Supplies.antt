-- What one balance set, a credit, a debit and a move do to the supplies.
use Rattle.std.proofs.Common.{◌≡◌, ℕ, ◌+◌, ◌-◌, ◌<◌, ◌≤◌, cond, eqb, None, ⊎_elim, arith}
use Rattle.std.proofs.lemmas.Bool.{cases_eq}
use Rattle.std.proofs.lemmas.Bool.Decides.{nat_tests}
use Rattle.sums.specs.Sums.{sum_below}
use Rattle.sums.proofs.Below.{sum_same, sum_put, sum_at}
use Rattle.protocol.specs.House.{most}
use Rattle.protocol.specs.Refusals.{first}
use Rattle.protocol.specs.Ledger.{Balances, Ledger, Lawful, supply, put, with_balances, debited, credit_refusals, debit_refusals, move_refusals}

-- the supply of the balance that is set
pub supply_put : (b : Balances) (c a d x : ℕ) → a < 24 → supply (put b c a d x) c d + b c a d ≡ supply b c d + x
supply_put b c a d x h =
    let same : sum_below 24 (λ k. put b c a d x c k d) ≡ sum_below 24 (λ k. cond (eqb k a) x (b c k d)) =
    sum_same 24 _ _ (λ k l. grind (arith, nat_tests)) in
    omega (arith, same, sum_put 24 a x (λ k. b c k d) h)

-- every other supply
pub supply_elsewhere : (b : Balances) (c a d x c' d' : ℕ) → (c' ≡ c → d' ≡ d → ⊥) → supply (put b c a d x) c' d' ≡ supply b c' d'
supply_elsewhere b c a d x c' d' h = sum_same 24 _ _ (λ k l. grind (arith, nat_tests))

-- if the supply of the balance that is set stays in bounds, all supplies do
supplies_kept : (b : Balances) (c a d x : ℕ) → a < 24 → ((c' d' : ℕ) → supply b c' d' ≤ most) → supply b c d + x ≤ most + b c a d → (c' d' : ℕ) → supply (put b c a d x) c' d' ≤ most
supplies_kept b c a d x h law fits c' d' =
    ⊎_elim
    (λ (e : c' ≡ c). ⊎_elim
    (λ (f : d' ≡ d). rw (e, f) (omega (arith, supply_put b c a d x h)))
    (λ (f : d' ≡ d → ⊥). rw (supply_elsewhere b c a d x c' d' (λ p q. f q)) (law c' d'))
    (cases_eq d' d))
    (λ (e : c' ≡ c → ⊥). rw (supply_elsewhere b c a d x c' d' (λ p q. e p)) (law c' d'))
    (cases_eq c' c)

-- said of the balances that are left
pub supplies_left : (b b' : Balances) (c a d x : ℕ) → b' ≡ put b c a d x → a < 24 → ((c' d' : ℕ) → supply b c' d' ≤ most) → supply b c d + x ≤ most + b c a d → (c' d' : ℕ) → supply b' c' d' ≤ most
supplies_left b b' c a d x e h law fits c' d' = rw e (supplies_kept b c a d x h law fits c' d')

-- a balance is at most its supply
pub balance_in_supply : (b : Balances) (c a d : ℕ) → a < 24 → b c a d ≤ supply b c d
balance_in_supply b c a d h = sum_at 24 a (λ k. b c k d) h

-- what is taken from a balance leaves room for as much
pub room_left : (b : Balances) (c a d n : ℕ) → a < 24 → n ≤ b c a d → supply b c d ≤ most → supply (debited b c a d n) c d + n ≤ most
room_left b c a d n h enough fits = omega (arith, supply_put b c a d (b c a d - n) h)

-- What a debit that is not refused leaves can be credited to any account of the chain, so a move is refused as a debit is.
module _ (m : Ledger) (law : Lawful m) (c a a' d n : ℕ) (h : a < 24) (h' : a' < 24) (free : first (debit_refusals m c a d n) ≡ None) where
  enough : n ≤ m.balance c a d
  enough = grind (arith, nat_tests)

  pub move_free : first (move_refusals m c a a' d n) ≡ None
  move_free = grind (arith, nat_tests)

  pub credit_free : first (credit_refusals (with_balances m (debited m.balance c a d n)) c a' d n) ≡ None
  credit_free =
      let room = room_left m.balance c a d n h enough (law.supplies c d) in
      grind (arith, nat_tests)

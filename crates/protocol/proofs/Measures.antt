-- Double entry: a measure is a total of balances. A change of one balance moves it by that change where the balance counts.
use Rattle.std.proofs.Common.{◌≡◌, ℕ, ◌+◌, ◌-◌, ◌<◌, ◌≤◌, Bool, true, false, cond, ◌&&◌, eqb, ltb, ◌≢◌, sym, refl, ap, ◌∙◌, ⊎_elim, arith}
use Rattle.std.proofs.lemmas.Bool.{cases_lt, ne_eqb, eq-eqb, lt-ltb, le-ltb, eqb-true}
use Rattle.sums.specs.Sums.{sum_below, gate}
use Rattle.protocol.specs.House.{accounts}
use Rattle.protocol.specs.Ledger.{Balances, put, supply, credited, debited, moved}
use Rattle.protocol.proofs.Bools.{and_swap}
use Rattle.protocol.proofs.Sums.{sum_same, sum_at}

-- whether the balance of a chain, an account and a denomination counts
abbrev pub Weight : Type 0
Weight = ℕ → ℕ → ℕ → Bool

-- where one balance changes to x, the total changes by as much if that balance counts
abbrev pub Measure : (Balances → ℕ) → Weight → Type 0
Measure m wt =
    (b : Balances) (c a d x : ℕ) → m (put b c a d x) + gate (wt c a d) (b c a d) ≡ m b + gate (wt c a d) x

-- the three operations, at any measure
module _ (m : Balances → ℕ) (wt : Weight) (ok : Measure m wt) (b : Balances) (c a d n : ℕ) where
  -- a sum counts or not as a whole
  gate_add : (t : Bool) (x y : ℕ) → gate t (x + y) ≡ gate t x + gate t y
  gate_add true x y = refl
  gate_add false x y = refl

  -- a credit adds where it counts
  pub credit_moves : m (credited b c a d n) ≡ m b + gate (wt c a d) n
  credit_moves = omega (arith, ok b c a d (b c a d + n), gate_add (wt c a d) (b c a d) n)

  -- a debit takes away where it counts
  pub debit_moves : n ≤ b c a d → m (debited b c a d n) + gate (wt c a d) n ≡ m b
  debit_moves h =
      let e : b c a d - n + n ≡ b c a d = omega arith in
      let g : gate (wt c a d) (b c a d) ≡ gate (wt c a d) (b c a d - n) + gate (wt c a d) n =
      ap (gate (wt c a d)) (sym e) ∙ gate_add (wt c a d) (b c a d - n) n in
      omega (arith, ok b c a d (b c a d - n))

-- a move does both
pub move_moves :
    (m : Balances → ℕ) (wt : Weight) → Measure m wt → (b : Balances) (c a a' d n : ℕ) → n ≤ b c a d →
    m (moved b c a a' d n) + gate (wt c a d) n ≡ m b + gate (wt c a' d) n
move_moves m wt ok b c a a' d n h =
    omega (arith, credit_moves m wt ok (debited b c a d n) c a' d n, debit_moves m wt ok b c a d n h)

-- Measures: one balance, a sum of measures, a measure that counts or not.

-- a single balance is a measure
pub one_balance : (c₀ a₀ d₀ : ℕ) → Measure (λ b. b c₀ a₀ d₀) (λ c a d. eqb c₀ c && eqb a₀ a && eqb d₀ d)
one_balance c₀ a₀ d₀ b c a d x = go (eqb c₀ c) (eqb a₀ a) (eqb d₀ d) (eqb-true c₀ c) (eqb-true a₀ a) (eqb-true d₀ d)
  where
    go :
        (p q r : Bool) → (p ≡ true → c₀ ≡ c) → (q ≡ true → a₀ ≡ a) → (r ≡ true → d₀ ≡ d) →
        cond (p && q && r) x (b c₀ a₀ d₀) + gate (p && q && r) (b c a d) ≡ b c₀ a₀ d₀ + gate (p && q && r) x
    go true true true e f g =
        let s : b c₀ a₀ d₀ ≡ b c a d = cc (e refl, f refl, g refl) in
        omega arith
    go true true false e f g = refl
    go true false r e f g = refl
    go false q r e f g = refl

-- weights that agree
pub reweigh : (m : Balances → ℕ) (v w : Weight) → ((c a d : ℕ) → v c a d ≡ w c a d) → Measure m v → Measure m w
reweigh m v w same ok b c a d x = rw (same c a d) at (ok b c a d x)

-- a measure that counts or not
pub gated : (t : Bool) (m : Balances → ℕ) (w : Weight) → Measure m w → Measure (λ b. gate t (m b)) (λ c a d. t && w c a d)
gated true m w ok b c a d x = ok b c a d x
gated false m w ok b c a d x = refl

-- a sum of measures, each of its own part of the balances
pub summed :
    (n : ℕ) (m : ℕ → Balances → ℕ) (key : ℕ → ℕ → ℕ → ℕ) (w : ℕ → Weight) →
    ((k : ℕ) → Measure (m k) (λ c a d. eqb k (key c a d) && w k c a d)) →
    Measure (λ b. sum_below n (λ k. m k b)) (λ c a d. ltb (key c a d) n && w (key c a d) c a d)
summed n m key w ok b c a d x = ⊎_elim inside outside (cases_lt (key c a d) n)
  where
    Goal : Type 0
    Goal =
        sum_below n (λ k. m k (put b c a d x)) + gate (ltb (key c a d) n && w (key c a d) c a d) (b c a d) ≡
        sum_below n (λ k. m k b) + gate (ltb (key c a d) n && w (key c a d) c a d) x

    apart : (k : ℕ) → k ≢ key c a d → m k (put b c a d x) ≡ m k b
    apart k ne =
        let e : eqb k (key c a d) ≡ false = ne_eqb k (key c a d) ne in
        let f : m k (put b c a d x) + gate (false && w k c a d) (b c a d) ≡ m k b + gate (false && w k c a d) x =
        rw e at (ok k b c a d x) in
        omega arith

    at_key :
        m (key c a d) (put b c a d x) + gate (w (key c a d) c a d) (b c a d) ≡
        m (key c a d) b + gate (w (key c a d) c a d) x
    at_key = rw (eq-eqb (key c a d) (key c a d) refl) at (ok (key c a d) b c a d x)

    inside : key c a d < n → Goal
    inside l =
        rw (lt-ltb (key c a d) n l) (omega (arith, at_key, sum_at n (λ k. m k (put b c a d x)) (λ k. m k b) (key c a d) l apart))

    outside : n ≤ key c a d → Goal
    outside l =
        let s = sum_same n (λ k. m k (put b c a d x)) (λ k. m k b) (λ k h. apart k (omega arith)) in
        rw (le-ltb (key c a d) n l) (omega arith)

-- the supply of a denomination
pub supply_measure : (c₀ d₀ : ℕ) → Measure (λ b. supply b c₀ d₀) (λ c a d. ltb a accounts && (eqb c₀ c && eqb d₀ d))
supply_measure c₀ d₀ =
    summed accounts (λ k b. b c₀ k d₀) (λ c a d. a) (λ _ c a d. eqb c₀ c && eqb d₀ d) (λ k.
    reweigh (λ b. b c₀ k d₀) (λ c a d. eqb c₀ c && eqb k a && eqb d₀ d) (λ c a d. eqb k a && (eqb c₀ c && eqb d₀ d))
    (λ c a d. and_swap (eqb c₀ c) (eqb k a) (eqb d₀ d)) (one_balance c₀ k d₀))

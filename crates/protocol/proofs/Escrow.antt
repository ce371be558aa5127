-- Escrow and supply by denomination, as measures of balances.
use Rattle.std.proofs.Common.{◌≡◌, ℕ, ◌+◌, ◌<◌, ◌≤◌, Bool, true, false, cond, ◌&&◌, eqb, ltb, [], ◌∷◌, length, get_or, sym, ap, ◌∙◌, subst, ap₂, ⊎_elim, arith}
use Rattle.std.proofs.lemmas.Bool.{eqb-true, eq-eqb, and_parts, and_from, ltb-true, lt-ltb, le-ltb, cases_lt}
use Rattle.sums.specs.Sums.{gate}
use Rattle.register.specs.Keys.{place, found}
use Rattle.denom.specs.Denomination.{Denom, same_denom}
use Rattle.protocol.specs.House.{users, accounts, escrow_account}
use Rattle.protocol.specs.Ledger.{Balances, supply, credited, debited, moved}
use Rattle.protocol.specs.World.{no_denom}
use Rattle.protocol.proofs.Bools.{bool_same, bool_false}
use Rattle.protocol.proofs.Sums.{gate_zero, sum_zero}
use Rattle.protocol.proofs.Measures.{Weight, Measure, one_balance, gated, supply_measure, credit_moves, debit_moves, move_moves}
use Rattle.protocol.proofs.Places.{place_le, place_after, same_denom_true, same_denom_refl}
use Rattle.protocol.proofs.Good.{Registers, Blank, names_found, grown, grown_cases, grown_place, grown_length}

-- a figure under e's number on c, and 0 where e has none
abbrev pub named : Registers → ℕ → Denom → (ℕ → ℕ) → ℕ
named reg c e m = gate (found (same_denom e) (reg c)) (m (place (same_denom e) (reg c)))

-- the escrow of channel k of chain c in e
abbrev pub Esc : Registers → Balances → ℕ → ℕ → Denom → ℕ
Esc reg b c k e = named reg c e (λ d. b c (escrow_account k) d)

-- the supply of e on c
abbrev pub Sup : Registers → Balances → ℕ → Denom → ℕ
Sup reg b c e = named reg c e (λ d. supply b c d)

-- d is the number of f on c, found by its place
pub record Placed (reg : Registers) (c d : ℕ) (f : Denom) : Type 0 where
  pub is : place (same_denom f) (reg c) ≡ d
  pub in' : d < length (reg c)

module _ (reg : Registers) (c d : ℕ) (f : Denom) (at : Placed reg c d f) where
  -- another name has this number if it is the same name
  name_is : (C : ℕ) (e : Denom) → C ≡ c → found (same_denom e) (reg C) ≡ true → eqb (place (same_denom e) (reg C)) d ≡ true → same_denom e f ≡ true
  name_is C e x h t =
      let l = ltb-true (place (same_denom e) (reg C)) (length (reg C)) h in
      let a = (names_found reg C e l).1 in
      let l' : place (same_denom f) (reg c) < length (reg c) = omega (arith, at.is, at.in') in
      let b = (names_found reg c f l').1 in
      let n : place (same_denom e) (reg C) ≡ place (same_denom f) (reg c) =
      eqb-true (place (same_denom e) (reg C)) d t ∙ sym at.is in
      let s : e ≡ f = sym a ∙ ap₂ (λ y z. get_or (reg y) z no_denom) x n ∙ b in
      subst (λ (g : Denom). same_denom e g ≡ true) s (same_denom_refl e)

  -- and the same name has this number
  is_name : (C : ℕ) (e : Denom) → C ≡ c → same_denom e f ≡ true → (found (same_denom e) (reg C) ≡ true) × (eqb (place (same_denom e) (reg C)) d ≡ true)
  is_name C e x t =
      let s = same_denom_true e f t in
      let n : place (same_denom e) (reg C) ≡ d = ap₂ (λ (g : Denom) y. place (same_denom g) (reg y)) s x ∙ at.is in
      let l : length (reg C) ≡ length (reg c) = ap (λ y. length (reg y)) x in
      (lt-ltb (place (same_denom e) (reg C)) (length (reg C)) (omega (arith, at.in')), eq-eqb (place (same_denom e) (reg C)) d n)

  module _ (C K : ℕ) (e : Denom) where
    abbrev esc_raw : Weight
    esc_raw = λ c a d. found (same_denom e) (reg C) && (eqb C c && eqb (escrow_account K) a && eqb (place (same_denom e) (reg C)) d)

    -- escrow is one balance, where e is registered
    esc_measure : Measure (λ b. Esc reg b C K e) esc_raw
    esc_measure =
        gated (found (same_denom e) (reg C)) (λ b. b C (escrow_account K) (place (same_denom e) (reg C)))
        (λ c a d. eqb C c && eqb (escrow_account K) a && eqb (place (same_denom e) (reg C)) d) (one_balance C (escrow_account K) (place (same_denom e) (reg C)))

    -- whether a change at account a of c under f is a change of that escrow
    abbrev pub esc_hit : ℕ → Bool
    esc_hit a = eqb C c && eqb (escrow_account K) a && same_denom e f

    -- which is what the measure counts
    esc_weight : (a : ℕ) → esc_raw c a d ≡ esc_hit a
    esc_weight a =
        let F = found (same_denom e) (reg C) in
        let P = eqb C c in
        let Q = eqb (escrow_account K) a in
        let N = eqb (place (same_denom e) (reg C)) d in
        bool_same (F && (P && Q && N)) (P && Q && same_denom e f)
        (λ t.
        let x = and_parts F (P && Q && N) t in
        let y = and_parts (P && Q) N x.1 in
        let z = and_parts P Q y.0 in
        and_from (P && Q) (same_denom e f) y.0 (name_is C e (eqb-true C c z.0) x.0 y.1))
        (λ t.
        let y = and_parts (P && Q) (same_denom e f) t in
        let z = and_parts P Q y.0 in
        let r = is_name C e (eqb-true C c z.0) y.1 in
        and_from F (P && Q && N) r.0 (and_from (P && Q) N y.0 r.1))

    -- a user's account is no escrow
    pub esc_user : (u : ℕ) → u < users → esc_hit u ≡ false
    esc_user u l = bool_false (esc_hit u) (λ t.
        let y = and_parts (eqb C c && eqb (escrow_account K) u) (same_denom e f) t in
        let z = and_parts (eqb C c) (eqb (escrow_account K) u) y.0 in
        omega (arith, eqb-true (escrow_account K) u z.1))

    module _ (b : Balances) (n : ℕ) where
      pub esc_credit : (u : ℕ) → u < users → Esc reg (credited b c u d n) C K e ≡ Esc reg b C K e
      esc_credit u l =
          omega (arith, credit_moves (λ b. Esc reg b C K e) esc_raw esc_measure b c u d n, ap (λ x. gate x n) (esc_weight u ∙ esc_user u l))

      pub esc_debit : (u : ℕ) → u < users → n ≤ b c u d → Esc reg (debited b c u d n) C K e ≡ Esc reg b C K e
      esc_debit u l h =
          omega (arith, debit_moves (λ b. Esc reg b C K e) esc_raw esc_measure b c u d n h, ap (λ x. gate x n) (esc_weight u ∙ esc_user u l))

      pub esc_move :
          (a a' : ℕ) → n ≤ b c a d →
          Esc reg (moved b c a a' d n) C K e + gate (esc_hit a) n ≡ Esc reg b C K e + gate (esc_hit a') n
      esc_move a a' h =
          omega (arith, move_moves (λ b. Esc reg b C K e) esc_raw esc_measure b c a a' d n h, ap (λ x. gate x n) (esc_weight a), ap (λ x. gate x n) (esc_weight a'))

  module _ (C : ℕ) (e : Denom) where
    abbrev sup_raw : Weight
    sup_raw = λ c a d. found (same_denom e) (reg C) && (ltb a accounts && (eqb C c && eqb (place (same_denom e) (reg C)) d))

    -- a supply is a sum of balances, where e is registered
    sup_measure : Measure (λ b. Sup reg b C e) sup_raw
    sup_measure =
        gated (found (same_denom e) (reg C)) (λ b. supply b C (place (same_denom e) (reg C)))
        (λ c a d. ltb a accounts && (eqb C c && eqb (place (same_denom e) (reg C)) d)) (supply_measure C (place (same_denom e) (reg C)))

    -- whether a change on c under f is a change of that supply
    abbrev pub sup_hit : Bool
    sup_hit = eqb C c && same_denom e f

    -- which is what the measure counts, at every account of the chain
    sup_weight : (a : ℕ) → a < accounts → sup_raw c a d ≡ sup_hit
    sup_weight a l =
        let F = found (same_denom e) (reg C) in
        let P = eqb C c in
        let L = ltb a accounts in
        let N = eqb (place (same_denom e) (reg C)) d in
        bool_same (F && (L && (P && N))) (P && same_denom e f)
        (λ t.
        let x = and_parts F (L && (P && N)) t in
        let y = and_parts L (P && N) x.1 in
        let z = and_parts P N y.1 in
        and_from P (same_denom e f) z.0 (name_is C e (eqb-true C c z.0) x.0 z.1))
        (λ t.
        let y = and_parts P (same_denom e f) t in
        let r = is_name C e (eqb-true C c y.0) y.1 in
        and_from F (L && (P && N)) r.0 (and_from L (P && N) (lt-ltb a accounts l) (and_from P N y.0 r.1)))

    module _ (b : Balances) (n : ℕ) where
      pub sup_credit : (u : ℕ) → u < users → Sup reg (credited b c u d n) C e ≡ Sup reg b C e + gate sup_hit n
      sup_credit u l =
          omega (arith, credit_moves (λ b. Sup reg b C e) sup_raw sup_measure b c u d n, ap (λ x. gate x n) (sup_weight u (omega arith)))

      pub sup_debit : (u : ℕ) → u < users → n ≤ b c u d → Sup reg (debited b c u d n) C e + gate sup_hit n ≡ Sup reg b C e
      sup_debit u l h =
          omega (arith, debit_moves (λ b. Sup reg b C e) sup_raw sup_measure b c u d n h, ap (λ x. gate x n) (sup_weight u (omega arith)))

      pub sup_move : (a a' : ℕ) → a < accounts → a' < accounts → n ≤ b c a d → Sup reg (moved b c a a' d n) C e ≡ Sup reg b C e
      sup_move a a' l l' h =
          omega (arith, move_moves (λ b. Sup reg b C e) sup_raw sup_measure b c a a' d n h, ap (λ x. gate x n) (sup_weight a l), ap (λ x. gate x n) (sup_weight a' l'))

-- a denomination enrolled leaves every figure that is 0 under numbers not given out
pub named_grown :
    (reg : Registers) (c : ℕ) (f : Denom) (C : ℕ) (e : Denom) (m : ℕ → ℕ) → ((d : ℕ) → length (reg C) ≤ d → m d ≡ 0) →
    named (grown reg c f) C e m ≡ named reg C e m
named_grown reg c f C e m z = ⊎_elim old new (cases_lt (place (same_denom e) (reg C)) (length (reg C)))
  where
    old : place (same_denom e) (reg C) < length (reg C) → named (grown reg c f) C e m ≡ named reg C e m
    old l =
        let p = grown_place reg c f C e l in
        let a : found (same_denom e) (grown reg c f C) ≡ true =
        lt-ltb (place (same_denom e) (grown reg c f C)) (length (grown reg c f C)) (omega (arith, grown_length reg c f C)) in
        let b : found (same_denom e) (reg C) ≡ true = lt-ltb (place (same_denom e) (reg C)) (length (reg C)) l in
        ap₂ (λ x y. gate x (m y)) (a ∙ sym b) p

    new : length (reg C) ≤ place (same_denom e) (reg C) → named (grown reg c f) C e m ≡ named reg C e m
    new l =
        let b : found (same_denom e) (reg C) ≡ false = le-ltb (place (same_denom e) (reg C)) (length (reg C)) l in
        let later : length (reg C) ≤ place (same_denom e) (grown reg c f C) =
        ⊎_elim
        (λ h. omega (arith, ap (place (same_denom e)) h))
        (λ h. omega (arith, ap (place (same_denom e)) h.2, place_after (same_denom e) (reg C) (f ∷ []) l))
        (grown_cases reg c f C) in
        ap (gate (found (same_denom e) (grown reg c f C))) (z (place (same_denom e) (grown reg c f C)) later) ∙
        gate_zero (found (same_denom e) (grown reg c f C)) ∙
        ap (λ x. gate x (m (place (same_denom e) (reg C)))) (sym b)

-- an escrow stays when a denomination is enrolled
pub esc_grown : (reg : Registers) (b : Balances) (c : ℕ) (f : Denom) → Blank reg b → (C K : ℕ) (e : Denom) → Esc (grown reg c f) b C K e ≡ Esc reg b C K e
esc_grown reg b c f h C K e = named_grown reg c f C e (λ d. b C (escrow_account K) d) (λ d l. h C (escrow_account K) d l)

-- so does a supply
pub sup_grown : (reg : Registers) (b : Balances) (c : ℕ) (f : Denom) → Blank reg b → (C : ℕ) (e : Denom) → Sup (grown reg c f) b C e ≡ Sup reg b C e
sup_grown reg b c f h C e = named_grown reg c f C e (λ d. supply b C d) (λ d l. sum_zero accounts (λ a. b C a d) (λ a. h C a d l))

-- e enrolled is placed where it was looked for
pub placed_grown : (reg : Registers) (c : ℕ) (e : Denom) → (place (same_denom e) (reg c) < length (grown reg c e c)) → Placed (grown reg c e) c (place (same_denom e) (reg c)) e
placed_grown reg c e l = record { is = ⊎_elim old new (cases_lt (place (same_denom e) (reg c)) (length (reg c))); in' = l }
  where
    old : place (same_denom e) (reg c) < length (reg c) → place (same_denom e) (grown reg c e c) ≡ place (same_denom e) (reg c)
    old h = grown_place reg c e c e h

    new : length (reg c) ≤ place (same_denom e) (reg c) → place (same_denom e) (grown reg c e c) ≡ place (same_denom e) (reg c)
    new h =
        ⊎_elim
        (λ g. ap (place (same_denom e)) g)
        (λ g.
        let one : place (same_denom e) (e ∷ []) ≡ 0 = ap (λ x. cond x 0 1) (same_denom_refl e) in
        omega (arith, ap (place (same_denom e)) g.2, place_after (same_denom e) (reg c) (e ∷ []) h, place_le (same_denom e) (reg c)))
        (grown_cases reg c e c)

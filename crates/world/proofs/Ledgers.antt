-- Calls that end at the ledger: past the world's own checks their refusals are the ledger's.
use Rattle.std.proofs.Common.{◌≡◌, ℕ, ◌<◌, true, false, not, ◌||◌, eqb, leb, [], ◌∷◌, length, sym, ◌∙◌, arith, ltb-true, le-ltb, eqb-true}
use borrow.Author.Tests.{lt-leb}
use Rattle.std.proofs.lemmas.Bool.{and_parts}
use Rattle.denom.specs.Denomination.{Denom}
use Rattle.protocol.specs.Refusals.{first, ◌when◌}
use Rattle.protocol.specs.Ledger.{bar_refusals, debit_refusals, move_refusals}
use Rattle.protocol.specs.World.{World, number, registered}
use Rattle.protocol.specs.Calls.{served, retire, pay, bar, unbar, refusals}
use Rattle.world.specs.Sending.{taking_refusals}

-- a served chain is one of the ledger's
pub in_ledger : (w : World) (c : ℕ) → served w c ≡ true → leb w.ledger.chains c ≡ false
in_ledger w c s = lt-leb w.ledger.chains c (ltb-true c w.ledger.chains (and_parts _ _ s).0)

pub bar_left : (w : World) (c u : ℕ) → served w c ≡ true → first (refusals w (bar c u)) ≡ first (bar_refusals w.ledger c u)
bar_left w c u s =
    (λ i. first (6 when not (s i) ∷ 12 when leb 16 u ∷ 30 when not (w.ledger.serves_bars c) ∷ []))
    ∙ sym (λ i. first (6 when in_ledger w c s i ∷ 12 when leb 16 u ∷ 30 when not (w.ledger.serves_bars c) ∷ []))

pub unbar_left : (w : World) (c u : ℕ) → served w c ≡ true → first (refusals w (unbar c u)) ≡ first (bar_refusals w.ledger c u)
unbar_left w c u s = bar_left w c u s

-- within the bounds a ledger that is to take an amount refuses for its own two reasons alone
module _ (w : World) (c u d n : ℕ) (s : served w c ≡ true) (some : eqb n 0 ≡ false) (low : d < 32) where
  pub debit_left : u < 16 → first (debit_refusals w.ledger c u d n) ≡ first (taking_refusals w.ledger c u d n)
  debit_left user =
      let here = in_ledger w c s in
      let account = lt-leb 24 u (omega arith) in
      let known = lt-leb 32 d low in
      λ i. first (6 when here i ∷ 12 when account i ∷ 13 when some i ∷ 14 when known i ∷ taking_refusals w.ledger c u d n)

  pub move_left : (v : ℕ) → u < 16 → v < 16 → first (move_refusals w.ledger c u v d n) ≡ first (taking_refusals w.ledger c u d n)
  move_left v user payee =
      let here = in_ledger w c s in
      let payer = lt-leb 24 u (omega arith) in
      let taker = lt-leb 24 v (omega arith) in
      let known = lt-leb 32 d low in
      λ i. first (6 when here i ∷ 12 when (payer i || taker i) ∷ 13 when some i ∷ 14 when known i ∷ taking_refusals w.ledger c u d n)

pub retire_left :
    (w : World) (c u d n : ℕ) (e : Denom) → served w c ≡ true → u < 16 → eqb n 0 ≡ false → registered w c e ≡ true → number w c e ≡ d → d < 32 →
    eqb (length e.hops) 0 ≡ true → first (refusals w (retire c u e n)) ≡ first (debit_refusals w.ledger c u d n)
retire_left w c u d n e s user some known is low plain =
    let users = lt-leb 16 u user in
    let none = le-ltb 0 (length e.hops) (omega (arith, eqb-true _ _ plain)) in
    (λ i. first (6 when not (s i) ∷ 12 when users i ∷ 13 when some i ∷ 14 when not (known i) ∷ 15 when none i ∷ taking_refusals w.ledger c u (is i) n))
    ∙ sym (debit_left w c u d n s some low user)

pub pay_left :
    (w : World) (c u v d n : ℕ) (e : Denom) → served w c ≡ true → u < 16 → v < 16 → eqb n 0 ≡ false → registered w c e ≡ true → number w c e ≡ d → d < 32 →
    first (refusals w (pay c u v e n)) ≡ first (move_refusals w.ledger c u v d n)
pay_left w c u v d n e s user payee some known is low =
    let payer = lt-leb 16 u user in
    let taker = lt-leb 16 v payee in
    (λ i. first (6 when not (s i) ∷ 12 when (payer i || taker i) ∷ 13 when some i ∷ 14 when not (known i) ∷ taking_refusals w.ledger c u (is i) n))
    ∙ sym (move_left w c u d n s some low v user payee)

-- What a send comes to, once its checks are known.
use Rattle.std.proofs.Common.{◌≡◌, ℕ, ◌/◌, ◌<◌, Bool, true, false, cond, not, ◌||◌, eqb, leb, ◌∷◌, length, Some, arith}
use Rattle.std.proofs.lemmas.Bool.Decides.{nat_tests}
use Rattle.denom.specs.Denomination.{Denom, came_by}
use Rattle.protocol.specs.House.{users, packets_most, escrow_account}
use Rattle.protocol.specs.Refusals.{first, ◌when◌}
use Rattle.protocol.specs.Ledger.{Ledger, debit_refusals, move_refusals}
use Rattle.protocol.specs.World.{World, lane_out, in_use, registered, number}
use Rattle.protocol.specs.Calls.{send, refusals, served, passed}
use Rattle.world.specs.Sending.{taking_refusals, off_refusals}

-- none of the world's own refusals applies
pub send_left :
    (w : World) (c k u v : ℕ) (e : Denom) (n t : ℕ) →
    served w c ≡ true → in_use w.links c k ≡ true → (leb users u || leb users v) ≡ false → eqb n 0 ≡ false → registered w c e ≡ true →
    w.closed (lane_out w.links c k / 2) ≡ false → passed w (lane_out w.links c k) t ≡ false → leb packets_most (length w.packets) ≡ false →
    first (refusals w (send c k u v e n t)) ≡ first (taking_refusals w.ledger c u (number w c e) n)
send_left w c k u v e n t chain used user some known alive early room =
    λ i. first (
    6 when not (chain i) ∷ 10 when not (used i) ∷ 12 when user i ∷ 13 when some i ∷ 14 when not (known i)
    ∷ 16 when alive i ∷ 17 when early i ∷ 22 when room i ∷ taking_refusals w.ledger c u (number w c e) n)

-- and where but for the packets none would apply, they are what refuses
pub send_full :
    (w : World) (c k u v : ℕ) (e : Denom) (n t : ℕ) →
    served w c ≡ true → in_use w.links c k ≡ true → (leb users u || leb users v) ≡ false → eqb n 0 ≡ false → registered w c e ≡ true →
    w.closed (lane_out w.links c k / 2) ≡ false → passed w (lane_out w.links c k) t ≡ false → leb packets_most (length w.packets) ≡ true →
    first (refusals w (send c k u v e n t)) ≡ Some 22
send_full w c k u v e n t chain used user some known alive early full =
    λ i. first (
    6 when not (chain i) ∷ 10 when not (used i) ∷ 12 when user i ∷ 13 when some i ∷ 14 when not (known i)
    ∷ 16 when alive i ∷ 17 when early i ∷ 22 when full i ∷ taking_refusals w.ledger c u (number w c e) n)

-- within the bounds the ledger refuses for its own two reasons alone, whether it is to burn or to put into escrow
pub off_left :
    (l : Ledger) (c k u : ℕ) (e : Denom) (d n : ℕ) → c < l.chains → k < 8 → u < 16 → eqb n 0 ≡ false → d < 32 →
    first (off_refusals l c k u e d n) ≡ first (taking_refusals l c u d n)
off_left l c k u e d n chain channel user some low = go (came_by k e)
  where
    go : (b : Bool) → first (cond b (debit_refusals l c u d n) (move_refusals l c u (escrow_account k) d n)) ≡ first (taking_refusals l c u d n)
    go true = grind (arith, nat_tests)
    go false = grind (arith, nat_tests)

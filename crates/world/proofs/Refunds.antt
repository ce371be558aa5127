-- What a refund comes to, once it is known what register and ledger said.
use Rattle.std.proofs.Common.{◌≡◌, ℕ, Bool, true, false, cond, not, ◌||◌, List, is_some, is_err, Some, None, Ok, Err, Option, Result, sym, refl, ap, ◌∙◌, arith}
use Rattle.register.specs.Keys.{number_of}
use Rattle.denom.specs.Denomination.{came_by, same_denom}
use Rattle.protocol.specs.declared.faults.LedgerFault.{LedgerFault}
use Rattle.protocol.specs.Faults.{told_by, ledger_number}
use Rattle.protocol.specs.House.{escrow_account}
use Rattle.protocol.specs.Refusals.{Refusal, first, unless_refused, left_by}
use Rattle.protocol.specs.Ledger.{credit_refusals, move_refusals}
use Rattle.protocol.specs.World.{World, End, registered, number}
use Rattle.protocol.specs.World as protocol
use Rattle.protocol.specs.Calls.{with_bal}
use Rattle.world.specs.Settling.{back_refusals, back_balances, refund_refused_at, refunded_at}
use Rattle.tables.proofs.Kept.{number_some}

-- a part answers a fault just where one of its refusals applies
pub err_refused : {X F : Type 0} (number : F → ℕ) (r : Result X F) (o : Option ℕ) (x : X) → told_by number r ≡ unless_refused o x → is_err r ≡ is_some o
err_refused number (Ok y) None x e = refl
err_refused number (Ok y) (Some n) x e = let z : ◌≡◌ {A = ℕ} 0 1 = cc in absurd (omega arith)
err_refused number (Err f) None x e = let z : ◌≡◌ {A = ℕ} 0 1 = cc in absurd (omega arith)
err_refused number (Err f) (Some n) x e = refl

-- a test chooses the refusals, and whether one applies
chosen : (b : Bool) (xs ys : List Refusal) → is_some (first (cond b xs ys)) ≡ cond b (is_some (first xs)) (is_some (first ys))
chosen true xs ys = refl
chosen false xs ys = refl

module _ (w : World) (n : End) (p : protocol.Packet) (d : ℕ) (known : number_of (same_denom p.denom) (w.register n.chain) ≡ Some d) (r : Result (Unit {0}) LedgerFault) where
  numbered : (registered w n.chain p.denom ≡ true) × (number w n.chain p.denom ≡ d)
  numbered = number_some (same_denom p.denom) (w.register n.chain) d known

  pub back_refused : told_by ledger_number r ≡ unless_refused (first (back_refusals w.ledger n p d)) tt → is_err r ≡ refund_refused_at w n p
  back_refused e =
      err_refused ledger_number r _ tt e
      ∙ chosen (came_by n.channel p.denom) _ _
      ∙ sym (λ i.
      not (numbered.0 i)
      || cond
      (came_by n.channel p.denom)
      (is_some (first (credit_refusals w.ledger n.chain p.sender (numbered.1 i) p.amount)))
      (is_some (first (move_refusals w.ledger n.chain (escrow_account n.channel) p.sender (numbered.1 i) p.amount))))

  pub back_left : (v : World) → v ≡ left_by r w (with_bal w (back_balances w.ledger.balance n p d)) → v ≡ left_by r w (refunded_at w n p)
  back_left v e = e ∙ ap (λ m. left_by r w (with_bal w (back_balances w.ledger.balance n p m))) (sym numbered.1)

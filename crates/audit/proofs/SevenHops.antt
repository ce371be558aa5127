-- A voucher that would have seven hops is in no register and in no packet.
use Rattle.std.proofs.Common.{◌≡◌, ℕ, suc, ◌<◌, ◌≤◌, Bool, true, false, cond, ◌&&◌, ◌||◌, eqb, ltb, leb, List, [], ◌∷◌, map, length, Some, None, Option, sym, refl, ap, ⊎_elim, arith, length-take, le-ltb, leb-true}
use Rattle.std.proofs.lemmas.Bool.{cases_Bool, lt-leb}
use Rattle.sums.specs.Sums.{total, gate}
use Rattle.register.specs.Keys.{place, number_of}
use Rattle.denom.specs.Denomination.{Denom, same_denom, behind}
use Rattle.denom.specs.declared.types.Denomination.{Denomination}
use Rattle.denom.specs.Views.{denom_view}
use Rattle.protocol.specs.World as protocol
use Rattle.protocol.specs.World.{World, is_open, on_lane_with, open_packets}
use Rattle.protocol.proofs.Places.{same_denom_true}
use Rattle.tables.specs.declared.types.Packet.{Packet}
use Rattle.tables.specs.View.{packet_view}

-- where no voucher can be made, it would have seven hops
pub too_many : (k : ℕ) (e : Denom) → k < 8 → ◌≡◌ {A = Option Denom} None (cond (leb 6 (length e.hops) || leb 8 k) None (Some (behind k e))) → 7 ≤ length (behind k e).hops
too_many k e few none =
    ⊎_elim
    (λ (many : leb 6 (length e.hops) ≡ true). let h = leb-true 6 (length e.hops) many in omega arith)
    (λ (not-many : leb 6 (length e.hops) ≡ false).
    let low : leb 8 k ≡ false = lt-leb 8 k few in
    let made : ◌≡◌ {A = Option Denom} None (Some (behind k e)) = rw (not-many, low) at none in
    let z : ◌≡◌ {A = ℕ} 0 1 = cc in
    absurd (omega arith))
    (cases_Bool (leb 6 (length e.hops)))

module _ (f : Denom) (long : 7 ≤ length f.hops) where
  -- no denomination has so many
  few_hops : (x : Denomination) → f ≡ denom_view x → ⊥
  few_hops x e =
      omega (arith, long, ap (λ (d : Denom). length d.hops) e, length-take x.hops.count x.hops.at, x.hops.few)

  other : (x : Denomination) → same_denom f (denom_view x) ≡ false
  other x =
      ⊎_elim
      (λ (same : same_denom f (denom_view x) ≡ true). absurd (few_hops x (same_denom_true f (denom_view x) same)))
      (λ (differ : same_denom f (denom_view x) ≡ false). differ)
      (cases_Bool (same_denom f (denom_view x)))

  carried_other : (x : Denomination) → same_denom (denom_view x) f ≡ false
  carried_other x =
      ⊎_elim
      (λ (same : same_denom (denom_view x) f ≡ true). absurd (few_hops x (sym (same_denom_true (denom_view x) f same))))
      (λ (differ : same_denom (denom_view x) f ≡ false). differ)
      (cases_Bool (same_denom (denom_view x) f))

  nowhere : (xs : List Denomination) → place (same_denom f) (map denom_view xs) ≡ length (map denom_view xs)
  nowhere [] = refl
  nowhere (x ∷ xs) = rw (other x) (ap suc (nowhere xs))

  -- so it has no number
  pub unregistered : (xs : List Denomination) → number_of (same_denom f) (map denom_view xs) ≡ None
  unregistered xs =
      let es = map denom_view xs in
      let past : ltb (place (same_denom f) es) (length es) ≡ false = le-ltb (place (same_denom f) es) (length es) (omega (arith, nowhere xs)) in
      ap (λ (b : Bool). cond b (Some (place (same_denom f) es)) None) past

  -- and no packet carries it
  pub uncarried : (w : World) (i : ℕ) (ps : List Packet) → 0 ≡ total (λ (p : protocol.Packet). gate (is_open w p && on_lane_with i f p) p.amount) (map packet_view ps)
  uncarried w i [] = refl
  uncarried w i (p ∷ ps) =
      let here : gate (is_open w (packet_view p) && on_lane_with i f (packet_view p)) p.amount ≡ 0 =
      none (is_open w (packet_view p)) (eqb p.lane i) (same_denom (denom_view p.denomination) f) p.amount (carried_other p.denomination) in
      let rest : 0 ≡ total (λ (p : protocol.Packet). gate (is_open w p && on_lane_with i f p) p.amount) (map packet_view ps) = uncarried w i ps in
      omega arith
    where
      none : (a b c : Bool) (n : ℕ) → c ≡ false → gate (a && (b && c)) n ≡ 0
      none true true c n e = rw e refl
      none true false c n e = refl
      none false b c n e = refl

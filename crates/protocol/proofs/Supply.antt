-- The supply of a token's hopless denomination at home moves by issues and retirements alone, as what there is of it does.
use Rattle.std.proofs.Common.{◌≡◌, ℕ, ◌+◌, ◌<◌, Bool, true, false, cond, not, ◌&&◌, eqb, List, [], ◌∷◌, ◌++◌, length, sym, refl, ap, ◌∙◌, subst, arith}
use Rattle.std.proofs.lemmas.List.{append-nil}
use Rattle.std.proofs.lemmas.Bool.{eqb-true, eq-eqb, and_parts, and_from, both_ways}
use Rattle.sums.specs.Sums.{gate, sum_below}
use Rattle.denom.specs.Denomination.{Denom, Token, same_list, same_denom, same_token, hopless, behind, first_hop, came_by, stripped}
use Rattle.protocol.specs.House.{chains_most, channels_most, escrow_account}
use Rattle.protocol.specs.Ledger.{Ledger, users_hold}
use Rattle.protocol.specs.Book.{Book, is_one}
use Rattle.protocol.specs.World.{End, Packet, World, made, lane, number, back, home_of, held, supply_of, mark_at, lane_out, near, far}
use Rattle.protocol.specs.Calls.{Call, open_link, issue, retire, pay, send, receive, ack, timeout, tick, bar, unbar, home, Answer, done, says, refusals, outcome, with_bal, recorded, ended, mark_written, packet_place, packet_at, arrival_mark, refunded, refund_refused, sent_packet, next_sequence}
use Rattle.protocol.specs.Laws.{world, accepted, issues, retires, issued, retired}
use Rattle.protocol.proofs.Bools.{bool_same, and_false}
use Rattle.protocol.proofs.Sums.{sum_none, sum_zero}
use Rattle.protocol.proofs.Places.{same_list_true, same_list_refl}
use Rattle.protocol.proofs.Homes.{back_in}
use Rattle.protocol.proofs.Good.{Sound, Good, grown, grown_number}
use Rattle.protocol.proofs.Views.{Clear, step_by, issue_facts, retire_facts, pay_facts, send_facts, receive_facts, ack_facts, timeout_facts}
use Rattle.protocol.proofs.Moves.{homeward, outward, Homeward, arrival_by, refund_by, sent_by}
use Rattle.protocol.proofs.Kept.{good_world, sound_at}
use Rattle.protocol.proofs.Tokens.{amount_of, tokens_conserved}
use Rattle.protocol.proofs.Escrow.{Placed, sup_credit, sup_debit, sup_move, sup_grown, placed_grown}

-- the supply of a token at home
abbrev pub supplied : World → Token → ℕ
supplied w t = supply_of w t.chain (hopless t.symbol)

-- the statement for one call
abbrev SuppliesBy : World → Token → Call → World × Answer → Type 0
SuppliesBy w t c r =
    supplied r.0 t + gate (accepted r.1) (retires t c) ≡ supplied w t + gate (accepted r.1) (issues t c)

-- sameness of a token's chain and symbol, asked the other way round
asked_back :
    (t : Token) (c : ℕ) (s : List ℕ) →
    (eqb t.chain c && same_list t.symbol s) ≡ (eqb c t.chain && same_list s t.symbol)
asked_back t c s =
    bool_same (eqb t.chain c && same_list t.symbol s) (eqb c t.chain && same_list s t.symbol)
    (turn t.chain c t.symbol s)
    (turn c t.chain s t.symbol)
  where
    turn : (a b : ℕ) (x y : List ℕ) → (eqb a b && same_list x y) ≡ true → (eqb b a && same_list y x) ≡ true
    turn a b x y h =
        let p = and_parts (eqb a b) (same_list x y) h in
        and_from (eqb b a) (same_list y x) (eq-eqb b a (sym (eqb-true a b p.0)))
        (subst (λ (z : List ℕ). same_list z x ≡ true) (same_list_true x y p.1) (same_list_refl x))

-- what came in by a channel is not hopless
came_not_hopless : (k : ℕ) (s : List ℕ) (e : Denom) → came_by k e ≡ true → same_denom (hopless s) e ≡ false
came_not_hopless k s e h = go e.hops h
  where
    go : (hs : List ℕ) → first_hop hs k ≡ true → (same_list [] hs && same_list s e.symbol) ≡ false
    go [] f = absurd (both_ways false refl f)
    go (x ∷ xs) f = refl

module _ (w : World) (t : Token) (g : Good w) where
  -- a registered denomination has its place for a number
  placed : (c : ℕ) (f : Denom) → number w c f < length (w.register c) → Placed w.register c (number w c f) f
  placed c f l = record { is = refl; in' = l }

  -- a balance changes under a denomination with hops, here or on another chain: this supply stays
  other_denom : (c n : ℕ) (e : Denom) → same_denom (hopless t.symbol) e ≡ false → gate (eqb t.chain c && same_denom (hopless t.symbol) e) n ≡ 0
  other_denom c n e h =
      ap (λ x. gate (eqb t.chain c && x) n) h ∙ ap (λ x. gate x n) (and_false (eqb t.chain c))

  -- a refund leaves it
  supplied_refunded :
      (p : Packet) → Sound w.links w.register p → refund_refused w p ≡ false → supplied (refunded w p) t ≡ supplied w t
  supplied_refunded p s r =
      let b = w.ledger.balance in
      let c = (near w p).chain in
      let d = number w c p.denom in
      let pl = placed c p.denom s.named.0 in
      let k-in = g.wired.narrow p.lane s.lane_in in
      refund_by w p (λ x. supplied x t ≡ supplied w t) r
      (λ came _.
      omega (
        arith,
        sup_credit w.register c d p.denom pl t.chain (hopless t.symbol) b p.amount p.sender s.sender_in,
        other_denom c p.amount p.denom (came_not_hopless (near w p).channel t.symbol p.denom came),
      ))
      (λ _ enough.
      sup_move w.register c d p.denom pl t.chain (hopless t.symbol) b p.amount (escrow_account (near w p).channel) p.sender
      (omega (arith, k-in)) (omega (arith, s.sender_in)) enough)

  -- so does an arrival
  supplied_homeward : (p : Packet) → Sound w.links w.register p → Homeward w p → supplied (homeward w p) t ≡ supplied w t
  supplied_homeward p s h =
      let c = (far w p).chain in
      let e = stripped p.denom in
      let j-in = g.wired.narrow (back p.lane) (back_in w.links g.wired.apart p.lane s.lane_in) in
      sup_move w.register c (number w c e) e (placed c e h.named.0) t.chain (hopless t.symbol) w.ledger.balance p.amount
      (escrow_account (far w p).channel) p.receiver (omega (arith, j-in)) (omega (arith, s.receiver_in)) h.enough

  -- outward, since a voucher has hops
  supplied_outward : (p : Packet) → Sound w.links w.register p → supplied (outward w p) t ≡ supplied w t
  supplied_outward p s =
      let b = w.ledger.balance in
      let c = (far w p).chain in
      let e = behind (far w p).channel p.denom in
      let pl = placed_grown w.register c e (grown_number w.register c e).0 in
      omega (
        arith,
        sup_credit (grown w.register c e) c (number w c e) e pl t.chain (hopless t.symbol) b p.amount p.receiver s.receiver_in,
        sup_grown w.register b c e g.blank t.chain (hopless t.symbol),
        other_denom c p.amount e refl,
      )

  -- every call
  supplied_outcome : (c : Call) → Clear (refusals w c) → SuppliesBy w t c (outcome w c)
  supplied_outcome (open_link a b k) h = refl
  supplied_outcome (issue c u s n) h =
      let f = issue_facts w c u s n h in
      let b = w.ledger.balance in
      let e = hopless s in
      let pl = placed_grown w.register c e (grown_number w.register c e).0 in
      omega (
        arith,
        sup_credit (grown w.register c e) c (number w c e) e pl t.chain (hopless t.symbol) b n u f.u_in,
        sup_grown w.register b c e g.blank t.chain (hopless t.symbol),
        ap (λ x. gate x n) (asked_back t c s),
      )
  supplied_outcome (retire c u e n) h =
      let f = retire_facts w c u e n h in
      let pl = placed c e f.0.named.0 in
      let hit : gate (eqb t.chain c && same_denom (hopless t.symbol) e) n ≡ retires t (retire c u e n) =
      ap (λ (hs : List ℕ). gate (eqb t.chain c && (same_list [] hs && same_list t.symbol e.symbol)) n) f.1 ∙
      ap (λ x. gate x n) (asked_back t c e.symbol) in
      omega (
        arith,
        hit,
        sup_debit w.register c (number w c e) e pl t.chain (hopless t.symbol) w.ledger.balance n u f.0.u_in f.0.enough,
      )
  supplied_outcome (pay c u v e n) h =
      let f = pay_facts w c u v e n h in
      omega (
        arith,
        sup_move w.register c (number w c e) e (placed c e f.0.named.0) t.chain (hopless t.symbol) w.ledger.balance n u v
            (omega (arith, f.0.u_in)) (omega (arith, f.1)) f.0.enough,
      )
  supplied_outcome (send c k u v e n T) h =
      let f = send_facts w c k u v e n T h in
      let b = w.ledger.balance in
      let d = number w c e in
      let pl = placed c e f.has.named.0 in
      let i = lane_out w.links c k in
      let k-in : k < channels_most = subst (λ (x : End). x.channel < channels_most) f.end_is (g.wired.narrow i f.lane_in) in
      sent_by w c k u e n (λ b'. SuppliesBy w t (send c k u v e n T) (recorded (with_bal w b') (sent_packet w c k u v e n T), says (next_sequence w i)))
      (λ came.
      omega (
        arith,
        sup_debit w.register c d e pl t.chain (hopless t.symbol) b n u f.has.u_in f.has.enough,
        other_denom c n e (came_not_hopless k t.symbol e came),
      ))
      (λ _.
      omega (
        arith,
        sup_move w.register c d e pl t.chain (hopless t.symbol) b n u (escrow_account k) (omega (arith, f.has.u_in)) (omega arith) f.has.enough,
      ))
  supplied_outcome (receive l d s) h =
      let f = receive_facts w l d s h in
      let i = lane l d in
      let p = packet_at w i s in
      let m = arrival_mark w p in
      let so = sound_at w i s g f.0 in
      arrival_by w p (λ x. SuppliesBy w t (receive l d s) (mark_written x i s m, says m))
      (λ _. refl)
      (λ _ hm. omega (arith, supplied_homeward p so hm))
      (λ _ _. omega (arith, supplied_outward p so))
  supplied_outcome (ack l d s) h = go (is_one (mark_at w (lane l d) s)) (ack_facts w l d s h).2
    where
      go :
          (b : Bool) → (not b && refund_refused w (packet_at w (lane l d) s)) ≡ false →
          SuppliesBy w t (ack l d s) (ended (cond b w (refunded w (packet_at w (lane l d) s))) (packet_place w (lane l d) s), done)
      go true r = refl
      go false r =
          omega (arith, supplied_refunded (packet_at w (lane l d) s) (sound_at w (lane l d) s g (ack_facts w l d s h).0) r)
  supplied_outcome (timeout l d s) h =
      let f = timeout_facts w l d s h in
      omega (arith, supplied_refunded (packet_at w (lane l d) s) (sound_at w (lane l d) s g f.0) f.2)
  supplied_outcome (tick c n) h = refl
  supplied_outcome (bar c u) h = refl
  supplied_outcome (unbar c u) h = refl
  supplied_outcome (home c e) h = refl

-- from any moment to any later one
supply_moves :
    (l : Ledger) (bs : Bool → Book) (t : Token) (later past : List Call) →
    supplied (world l bs (later ++ past)) t + retired l bs t later past ≡
    supplied (world l bs past) t + issued l bs t later past
supply_moves l bs t [] past = refl
supply_moves l bs t (c ∷ later) past =
    let w = world l bs (later ++ past) in
    let r = supply_moves l bs t later past in
    let s = step_by w c (SuppliesBy w t c) (λ _. refl) (supplied_outcome w t (good_world l bs (later ++ past)) c) in
    omega arith

-- nobody holds anything of a world just made
held_made : (l : Ledger) (bs : Bool → Book) (t : Token) → held (made l bs) t ≡ 0
held_made l bs t =
    sum_zero chains_most (λ c. sum_below 0 (λ d. gate (same_token (home_of [] c (hopless [])) t) (users_hold (λ _ _ _. 0) c d))) (λ c. sum_none _)

-- at every moment the supply at home is what there is of the token
pub supply_is : (l : Ledger) (bs : Bool → Book) (past : List Call) (t : Token) → supplied (world l bs past) t ≡ amount_of (world l bs past) t
supply_is l bs past t =
    let whole : supplied (world l bs (past ++ [])) t ≡ amount_of (world l bs (past ++ [])) t =
    omega (arith, supply_moves l bs t past [], tokens_conserved l bs t past [], held_made l bs t) in
    subst (λ (p : List Call). supplied (world l bs p) t ≡ amount_of (world l bs p) t) (append-nil past) whole

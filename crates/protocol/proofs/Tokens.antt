-- Part b: what there is of a token moves by issues less retirements.
use Rattle.std.proofs.Common.{◌≡◌, ℕ, ◌+◌, ◌/◌, ◌<◌, ◌≤◌, Bool, true, false, cond, not, ◌&&◌, eqb, List, [], ◌∷◌, ◌++◌, length, get_or, None, sym, refl, ap, ◌∙◌, ap₂, arith}
use Rattle.std.proofs.ByRecursion.{All-get_or}
use Rattle.std.proofs.lemmas.List.{get_or_append_left}
use Rattle.sums.specs.Sums.{gate}
use Rattle.denom.specs.Denomination.{Denom, Token, hopless, behind, stripped, same_token}
use Rattle.protocol.specs.House.{chains_most, users, escrow_account}
use Rattle.protocol.specs.Ledger.{Balances, credited, debited, moved, Ledger}
use Rattle.protocol.specs.Book.{is_one, Book}
use Rattle.protocol.specs.World.{End, Link, Packet, World, back, end_at, lane_out, lowest_unused, number, mark_of, is_open, home_of, home_by, held, open_packets, of_token, lane, no_link, mark_at, near, far}
use Rattle.protocol.specs.Calls.{Answer, done, says, Call, open_link, issue, retire, pay, send, receive, ack, timeout, tick, bar, unbar, home, refusals, outcome, step, with_bal, with_links, recorded, ended, mark_written, no_packet, packet_place, packet_at, arrival_mark, refunded, refund_refused, sent_packet, next_sequence}
use Rattle.protocol.specs.Laws.{there_is, world, accepted, issues, retires, retired, issued}
use Rattle.protocol.proofs.Sums.{total_same}
use Rattle.protocol.proofs.Measures.{credit_moves, debit_moves, move_moves}
use Rattle.protocol.proofs.Homes.{length_ends, from_end_grows, home_behind, home_stripped, back_in}
use Rattle.protocol.proofs.Good.{Registers, Names, Sound, Good, grown, grown_number}
use Rattle.protocol.proofs.Grow.{on_lane_keys}
use Rattle.protocol.proofs.Amounts.{Held, held_weight, held_measure, weight_user, weight_escrow, held_grown, held_links, home_stays, open_push, open_ended, open_mark}
use Rattle.protocol.proofs.Views.{Clear, step_by, issue_facts, retire_facts, pay_facts, send_facts, Stands, marked_at, receive_facts, ack_facts, timeout_facts}
use Rattle.protocol.proofs.Moves.{homeward, outward, Homeward, arrival_by, refund_by, sent_by}
use Rattle.protocol.proofs.Kept.{good_world, sound_at, leads_near}

-- What users hold, where one balance changes under the number of e on c

module _ (ls : List Link) (reg : Registers) (b : Balances) (t : Token) (c d : ℕ) (e : Denom) (c_in : c < chains_most) (named : Names reg c d e) (n : ℕ) where
  -- a user is credited
  pub held_credit : (u : ℕ) → u < users → Held ls reg (credited b c u d n) t ≡ Held ls reg b t + gate (same_token (home_of ls c e) t) n
  held_credit u l =
      credit_moves (λ b. Held ls reg b t) (held_weight ls reg t) (held_measure ls reg t) b c u d n ∙
      ap (λ x. Held ls reg b t + gate x n) (weight_user ls reg t c u d e c_in named l)

  -- a user is debited
  pub held_debit : (u : ℕ) → u < users → n ≤ b c u d → Held ls reg (debited b c u d n) t + gate (same_token (home_of ls c e) t) n ≡ Held ls reg b t
  held_debit u l h =
      ap (λ x. Held ls reg (debited b c u d n) t + gate x n) (sym (weight_user ls reg t c u d e c_in named l)) ∙
      debit_moves (λ b. Held ls reg b t) (held_weight ls reg t) (held_measure ls reg t) b c u d n h

  -- a user pays another
  pub held_pay : (u v : ℕ) → u < users → v < users → n ≤ b c u d → Held ls reg (moved b c u v d n) t ≡ Held ls reg b t
  held_pay u v l m h =
      omega (
        arith,
        move_moves (λ b. Held ls reg b t) (held_weight ls reg t) (held_measure ls reg t) b c u v d n h,
        ap (λ x. gate x n) (weight_user ls reg t c u d e c_in named l),
        ap (λ x. gate x n) (weight_user ls reg t c v d e c_in named m),
      )

  -- a user's amount goes into escrow
  pub held_in : (u k : ℕ) → u < users → n ≤ b c u d → Held ls reg (moved b c u (escrow_account k) d n) t + gate (same_token (home_of ls c e) t) n ≡ Held ls reg b t
  held_in u k l h =
      omega (
        arith,
        move_moves (λ b. Held ls reg b t) (held_weight ls reg t) (held_measure ls reg t) b c u (escrow_account k) d n h,
        ap (λ x. gate x n) (weight_user ls reg t c u d e c_in named l),
        ap (λ x. gate x n) (weight_escrow ls reg t c k d),
      )

  -- an amount goes out of escrow to a user
  pub held_out : (k u : ℕ) → u < users → n ≤ b c (escrow_account k) d → Held ls reg (moved b c (escrow_account k) u d n) t ≡ Held ls reg b t + gate (same_token (home_of ls c e) t) n
  held_out k u l h =
      omega (
        arith,
        move_moves (λ b. Held ls reg b t) (held_weight ls reg t) (held_measure ls reg t) b c (escrow_account k) u d n h,
        ap (λ x. gate x n) (weight_user ls reg t c u d e c_in named l),
        ap (λ x. gate x n) (weight_escrow ls reg t c k d),
      )

-- what there is of a token, open packets told by standing and mark
abbrev pub amount_of : World → Token → ℕ
amount_of w t = there_is w (open_packets w) t

-- The statement for one call

-- accepted or not, what there is moves by what the call issues less what it retires
abbrev MovesBy : World → Token → Call → World × Answer → Type 0
MovesBy w t c r =
    amount_of r.0 t + gate (accepted r.1) (retires t c) ≡ amount_of w t + gate (accepted r.1) (issues t c)

module _ (w : World) (t : Token) (g : Good w) where
  -- a refund gives the sender back
  held_refunded :
      (p : Packet) → Sound w.links w.register p → refund_refused w p ≡ false →
      held (refunded w p) t ≡ held w t + gate (of_token w t p) p.amount
  held_refunded p s r =
      let c = (near w p).chain in
      let d = number w c p.denom in
      let c_in = g.wired.small p.lane s.lane_in in
      refund_by w p (λ x. held x t ≡ held w t + gate (of_token w t p) p.amount) r
      (λ _ _. held_credit w.links w.register w.ledger.balance t c d p.denom c_in s.named p.amount p.sender s.sender_in)
      (λ _ h. held_out w.links w.register w.ledger.balance t c d p.denom c_in s.named p.amount (near w p).channel p.sender s.sender_in h)

  -- what comes home is the receiver's
  held_homeward :
      (p : Packet) → Sound w.links w.register p → Homeward w p →
      held (homeward w p) t ≡ held w t + gate (of_token w t p) p.amount
  held_homeward p s h =
      let c = (far w p).chain in
      let e = stripped p.denom in
      let c_in = g.wired.small (back p.lane) (back_in w.links g.wired.apart p.lane s.lane_in) in
      held_out w.links w.register w.ledger.balance t c (number w c e) e c_in h.named p.amount (far w p).channel p.receiver s.receiver_in h.enough ∙
      ap (λ (y : Token). held w t + gate (same_token y t) p.amount) (sym (home_stripped w.links g.wired.apart p.lane s.lane_in p.denom h.came))

  -- what goes out is the receiver's, under a new trace of the same home
  held_outward :
      (p : Packet) → Sound w.links w.register p →
      held (outward w p) t ≡ held w t + gate (of_token w t p) p.amount
  held_outward p s =
      let c = (far w p).chain in
      let e = behind (far w p).channel p.denom in
      let c_in = g.wired.small (back p.lane) (back_in w.links g.wired.apart p.lane s.lane_in) in
      held_credit w.links (grown w.register c e) w.ledger.balance t c (number w c e) e c_in (grown_number w.register c e) p.amount p.receiver s.receiver_in ∙
      ap₂ (λ (x : ℕ) (y : Token). x + gate (same_token y t) p.amount) (held_grown w.links w.register w.ledger.balance t c e g.blank) (home_behind w.links g.wired.apart p.lane s.lane_in p.denom)

  -- what an ending packet was
  open_was :
      (i s : ℕ) → Stands w i s → is_one (mark_of w (packet_at w i s)) ≡ false → is_open w (packet_at w i s) ≡ true
  open_was i s h m = ap₂ (λ x y. x && not y) h.standing m

  -- a refund that ends a packet gives back what was open
  refund_ends :
      (i s : ℕ) → Stands w i s → is_one (mark_of w (packet_at w i s)) ≡ false → refund_refused w (packet_at w i s) ≡ false →
      amount_of (ended (refunded w (packet_at w i s)) (packet_place w i s)) t ≡ amount_of w t
  refund_ends i s h m r =
      let p = packet_at w i s in
      let q = packet_place w i s in
      let o = open_ended (refunded w p) q (of_token w t) h.place_in in
      let x : gate (is_open w p && of_token w t p) p.amount ≡ gate (of_token w t p) p.amount =
      ap (λ y. gate (y && of_token w t p) p.amount) (open_was i s h m) in
      omega (arith, o, x, held_refunded p (sound_at w i s g h) r)

  -- every call
  tokens_outcome : (c : Call) → Clear (refusals w c) → MovesBy w t c (outcome w c)
  tokens_outcome (open_link a b k) h =
      let ls = w.links in
      let ms : List Link = record { end₀ = end_at a (lowest_unused w.links a); end₁ = end_at b (lowest_unused w.links b); kind = k } ∷ [] in
      let x = held_links ls ms w.register w.ledger.balance t g.traced in
      let y : open_packets (with_links w (ls ++ ms)) (of_token (with_links w (ls ++ ms)) t) ≡ open_packets w (of_token w t) =
      total_same
      (λ p. gate (is_open (with_links w (ls ++ ms)) p && of_token (with_links w (ls ++ ms)) t p) p.amount)
      (λ p. gate (is_open w p && of_token w t p) p.amount)
      w.packets
      no_packet
      (λ j l.
      let p = get_or w.packets j no_packet in
      let s = All-get_or (Sound ls w.register) w.packets j no_packet l g.sound in
      let half : p.lane / 2 < length ls = omega (arith, s.lane_in, length_ends ls) in
      let kind_is : get_or (ls ++ ms) (p.lane / 2) no_link ≡ get_or ls (p.lane / 2) no_link =
      get_or_append_left ls ms no_link (p.lane / 2) half in
      let open_is : is_open (with_links w (ls ++ ms)) p ≡ is_open w p =
      ap (λ (y : Link). p.standing && not (is_one ((w.books y.kind).mark p.lane p.sequence))) kind_is in
      let home_is : of_token (with_links w (ls ++ ms)) t p ≡ of_token w t p =
      ap (λ (y : End). same_token (home_of (ls ++ ms) y.chain p.denom) t) (from_end_grows ls ms p.lane s.lane_in) ∙
      ap (λ (y : Token). same_token y t) (home_stays ls ms (near w p).chain p.denom (leads_near w p g s)) in
      ap₂ (λ y z. gate (y && z) p.amount) open_is home_is) in
      omega arith
  tokens_outcome (issue c u s n) h =
      let f = issue_facts w c u s n h in
      let e = hopless s in
      omega (
        arith,
        held_credit w.links (grown w.register c e) w.ledger.balance t c (number w c e) e f.c_in (grown_number w.register c e) n u f.u_in,
        held_grown w.links w.register w.ledger.balance t c e g.blank,
      )
  tokens_outcome (retire c u e n) h =
      let f = (retire_facts w c u e n h).0 in
      let x = held_debit w.links w.register w.ledger.balance t c (number w c e) e f.c_in f.named n u f.u_in f.enough in
      let y : gate (same_token (home_of w.links c e) t) n ≡ retires t (retire c u e n) =
      ap (λ (hs : List ℕ). gate (same_token (record { chain = home_by w.links hs c; symbol = e.symbol }) t) n) (retire_facts w c u e n h).1 in
      omega arith
  tokens_outcome (pay c u v e n) h =
      let f = pay_facts w c u v e n h in
      let x = held_pay w.links w.register w.ledger.balance t c (number w c e) e f.0.c_in f.0.named n u v f.0.u_in f.1 f.0.enough in
      omega arith
  tokens_outcome (send c k u v e n T) h =
      let f = send_facts w c k u v e n T h in
      let i = lane_out w.links c k in
      let p = sent_packet w c k u v e n T in
      let b = w.ledger.balance in
      let d = number w c e in
      let X = gate (same_token (home_of w.links c e) t) n in
      let fresh : (kd : Bool) → (w.books kd).mark i (next_sequence w i) ≡ None =
      λ kd. g.numbered.fresh kd i (next_sequence w i) (omega (arith, on_lane_keys i w.packets)) in
      let test-is : gate (of_token w t p) n ≡ X =
      ap (λ (y : End). gate (same_token (home_of w.links y.chain e) t) n) f.end_is in
      let o = λ (b' : Balances). open_push (with_bal w b') p (of_token w t) refl fresh in
      sent_by w c k u e n (λ b'. MovesBy w t (send c k u v e n T) (recorded (with_bal w b') p, says (next_sequence w i)))
      (λ _. omega (
        arith,
        test-is,
        o (debited b c u d n),
        held_debit w.links w.register b t c d e f.has.c_in f.has.named n u f.has.u_in f.has.enough,
      ))
      (λ _. omega (
        arith,
        test-is,
        o (moved b c u (escrow_account k) d n),
        held_in w.links w.register b t c d e f.has.c_in f.has.named n u k f.has.u_in f.has.enough,
      ))
  tokens_outcome (receive l d s) h =
      let f = receive_facts w l d s h in
      let i = lane l d in
      let p = packet_at w i s in
      let q = packet_place w i s in
      let m = arrival_mark w p in
      let so = sound_at w i s g f.0 in
      let o = open_mark w q i s m (of_token w t) f.0.place_in f.0.key_is f.0.standing f.1 g.numbered in
      arrival_by w p (λ x. MovesBy w t (receive l d s) (mark_written x i s m, says m))
      (λ e.
      let y : gate (not (eqb m 1) && of_token w t p) p.amount ≡ gate (of_token w t p) p.amount =
      ap (λ z. gate (not z && of_token w t p) p.amount) e in
      omega (arith, o))
      (λ e hm.
      let y : gate (not (eqb m 1) && of_token w t p) p.amount ≡ 0 = ap (λ z. gate (not z && of_token w t p) p.amount) e in
      omega (arith, o, held_homeward p so hm))
      (λ e _.
      let y : gate (not (eqb m 1) && of_token w t p) p.amount ≡ 0 = ap (λ z. gate (not z && of_token w t p) p.amount) e in
      omega (arith, o, held_outward p so))
  tokens_outcome (ack l d s) h =
      go (is_one (mark_at w (lane l d) s)) (ap is_one (marked_at w (lane l d) s (ack_facts w l d s h).0)) (ack_facts w l d s h).2
    where
      go :
          (b : Bool) → is_one (mark_of w (packet_at w (lane l d) s)) ≡ b →
          (not b && refund_refused w (packet_at w (lane l d) s)) ≡ false →
          MovesBy w t (ack l d s) (ended (cond b w (refunded w (packet_at w (lane l d) s))) (packet_place w (lane l d) s), done)
      go true e r =
          let p = packet_at w (lane l d) s in
          let q = packet_place w (lane l d) s in
          let x : gate (is_open w p && of_token w t p) p.amount ≡ 0 =
          ap₂ (λ y z. gate ((y && not z) && of_token w t p) p.amount) (ack_facts w l d s h).0.standing e in
          omega (arith, open_ended w q (of_token w t) (ack_facts w l d s h).0.place_in)
      go false e r = let x = refund_ends (lane l d) s (ack_facts w l d s h).0 e r in omega arith
  tokens_outcome (timeout l d s) h =
      let f = timeout_facts w l d s h in
      let i = lane l d in
      let e : is_one (mark_of w (packet_at w i s)) ≡ false = ap is_one (marked_at w i s f.0 ∙ f.1) in
      let x = refund_ends i s f.0 e f.2 in
      omega arith
  tokens_outcome (tick c n) h = refl
  tokens_outcome (bar c u) h = refl
  tokens_outcome (unbar c u) h = refl
  tokens_outcome (home c e) h = refl

  -- accepted or refused
  pub tokens_step : (c : Call) → MovesBy w t c (step w c)
  tokens_step c = step_by w c (MovesBy w t c) (λ _. refl) (tokens_outcome c)

-- from any moment to any later one
pub tokens_conserved :
    (l : Ledger) (bs : Bool → Book) (t : Token) (later past : List Call) →
    amount_of (world l bs (later ++ past)) t + retired l bs t later past ≡
    amount_of (world l bs past) t + issued l bs t later past
tokens_conserved l bs t [] past = refl
tokens_conserved l bs t (c ∷ later) past =
    let r = tokens_conserved l bs t later past in
    let s = tokens_step (world l bs (later ++ past)) t (good_world l bs (later ++ past)) c in
    omega arith

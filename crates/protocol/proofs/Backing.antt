-- Part a: the escrow at a link end backs the vouchers at the far end and the open packets.
use Rattle.std.proofs.Common.{◌≡◌, ℕ, suc, ◌+◌, ◌/◌, ◌<◌, ◌≤◌, Bool, true, false, cond, not, ◌&&◌, eqb, List, [], ◌∷◌, ◌++◌, length, get_or, None, sym, refl, ap, ◌∙◌, subst, ap₂, ⊎_elim, arith}
use Rattle.std.proofs.ByRecursion.{All-get_or}
use Rattle.std.proofs.lemmas.List.{get_or_append_left, length-append}
use Rattle.std.proofs.lemmas.Bool.{ne_eqb, cases_lt, le-ltb}
use Rattle.sums.specs.Sums.{gate, total}
use Rattle.register.specs.Keys.{found}
use Rattle.denom.specs.Denomination.{Denom, hopless, behind, stripped, came_by, same_denom}
use Rattle.protocol.specs.House.{channels_most, escrow_account}
use Rattle.protocol.specs.Ledger.{Ledger, supply, debited, moved}
use Rattle.protocol.specs.Book.{Book, is_one}
use Rattle.protocol.specs.World.{End, Link, Packet, World, ends, back, from_end, to_end, end_at, lane_out, lowest_unused, number, no_end, mark_of, is_open, same_end, escrow, supply_of, open_packets, on_lane_with, lane, no_link, mark_at, near, far}
use Rattle.protocol.specs.Calls.{Call, open_link, issue, retire, pay, send, receive, ack, timeout, tick, bar, unbar, home, refusals, outcome, with_bal, with_links, recorded, ended, mark_written, no_packet, packet_place, packet_at, arrival_mark, refunded, refund_refused, sent_packet, next_sequence}
use Rattle.protocol.specs.Laws.{world, Backed}
use Rattle.protocol.proofs.Bools.{and_false}
use Rattle.protocol.proofs.Sums.{total_same, gate_zero}
use Rattle.protocol.proofs.Places.{place_hit, same_end_true}
use Rattle.protocol.proofs.Homes.{Leads, length_ends, ends_append, from_end_grows, to_end_grows, back_in, back_below, back_back}
use Rattle.protocol.proofs.Good.{Sound, Good, grown, grown_number, names_found}
use Rattle.protocol.proofs.Grow.{on_lane_keys}
use Rattle.protocol.proofs.Amounts.{open_push, open_ended, open_mark}
use Rattle.protocol.proofs.Views.{Clear, step_by, issue_facts, retire_facts, pay_facts, send_facts, Stands, marked_at, receive_facts, ack_facts, timeout_facts}
use Rattle.protocol.proofs.Moves.{arrival_by, refund_by, sent_by}
use Rattle.protocol.proofs.Kept.{good_outcome, sound_at, good_world}
use Rattle.protocol.proofs.Lanes.{out_never, home_never, burn_is, lock_is, mint_is, free_is}
use Rattle.protocol.proofs.Escrow.{Placed, esc_user, esc_credit, esc_debit, esc_move, sup_credit, sup_debit, sup_move, esc_grown, sup_grown, placed_grown}

-- the law at one end and one denomination, open packets told by standing and mark
abbrev pub Backs : World → ℕ → Denom → Type 0
Backs w i e = Backed w (open_packets w) i e

-- the law at every end and every denomination that did not come by its channel
abbrev pub AllBacked : World → Type 0
AllBacked w =
    (i : ℕ) (e : Denom) → i < length (ends w.links) → came_by (from_end w.links i).channel e ≡ false → Backs w i e

-- a total of nothings
total_zero : {X : Type 0} (f : X → ℕ) (xs : List X) (d : X) → ((j : ℕ) → j < length xs → f (get_or xs j d) ≡ 0) → total f xs ≡ 0
total_zero f [] d h = refl
total_zero f (x ∷ xs) d h = omega (arith, h 0 (omega arith), total_zero f xs d (λ j l. h (suc j) (omega arith)))

-- At one end and one denomination, where the law holds before
module _ (w : World) (g : Good w) (i₀ : ℕ) (e₀ : Denom) (in₀ : i₀ < length (ends w.links))
    (not_back : came_by (from_end w.links i₀).channel e₀ ≡ false) (law : Backs w i₀ e₀) where
  -- the near chain, its channel, the far chain and the voucher of the law
  abbrev C : ℕ
  C = (from_end w.links i₀).chain

  abbrev K : ℕ
  K = (from_end w.links i₀).channel

  abbrev C' : ℕ
  C' = (to_end w.links i₀).chain

  abbrev V : Denom
  V = behind (to_end w.links i₀).channel e₀

  -- the packets of the law, outward and homeward
  abbrev out : Packet → Bool
  out = on_lane_with i₀ e₀

  abbrev hom : Packet → Bool
  hom = on_lane_with (back i₀) V

  -- a registered denomination has its place for a number
  placed : (c : ℕ) (f : Denom) → number w c f < length (w.register c) → Placed w.register c (number w c f) f
  placed c f l = record { is = refl; in' = l }

  -- a packet burnt or locked at its near end, at a lane with this denomination: n out of the supply, or into the escrow
  module _ (i : ℕ) (in' : i < length (ends w.links)) (f : Denom) (n : ℕ) where
    abbrev c : ℕ
    c = (from_end w.links i).chain

    abbrev k : ℕ
    k = (from_end w.links i).channel

    burnt_gates :
        came_by k f ≡ true →
        (gate (eqb i i₀ && same_denom f e₀) n ≡ 0) ×
        (gate (eqb C' c && same_denom V f) n ≡ gate (eqb i (back i₀) && same_denom f V) n)
    burnt_gates h = (
      ap (λ x. gate x n) (out_never w.links g.wired.apart i₀ in₀ e₀ not_back i in' f h),
      ap (λ x. gate x n) (burn_is w.links g.wired.apart i₀ in₀ e₀ not_back i in' f h),
    )

    locked_gates :
        came_by k f ≡ false →
        (gate (eqb i (back i₀) && same_denom f V) n ≡ 0) ×
        (gate (eqb C c && eqb (escrow_account K) (escrow_account k) && same_denom e₀ f) n ≡ gate (eqb i i₀ && same_denom f e₀) n)
    locked_gates h = (
      ap (λ x. gate x n) (home_never w.links g.wired.apart i₀ in₀ e₀ not_back i in' f h),
      ap (λ x. gate x n) (lock_is w.links g.wired.apart i₀ in₀ e₀ not_back i in' f),
    )

  -- a packet that leaves
  backs_send :
      (c k u v : ℕ) (e : Denom) (n T : ℕ) → Clear (refusals w (send c k u v e n T)) →
      Backs (outcome w (send c k u v e n T)).0 i₀ e₀
  backs_send c k u v e n T h =
      let f = send_facts w c k u v e n T h in
      let i = lane_out w.links c k in
      let p = sent_packet w c k u v e n T in
      let b = w.ledger.balance in
      let d = number w c e in
      let pl = placed c e f.has.named.0 in
      let fresh : (kd : Bool) → (w.books kd).mark i (next_sequence w i) ≡ None =
      λ kd. g.numbered.fresh kd i (next_sequence w i) (omega (arith, on_lane_keys i w.packets)) in
      let k-in : k < channels_most = subst (λ (x : End). x.channel < channels_most) f.end_is (g.wired.narrow i f.lane_in) in
      sent_by w c k u e n (λ b'. Backs (recorded (with_bal w b') p) i₀ e₀)
      (λ came.
      let b' = debited b c u d n in
      let gs = burnt_gates i f.lane_in e n (subst (λ (x : End). came_by x.channel e ≡ true) (sym f.end_is) came) in
      let x : gate (eqb C' c && same_denom V e) n ≡ gate (eqb i (back i₀) && same_denom e V) n =
      ap (λ (y : End). gate (eqb C' y.chain && same_denom V e) n) (sym f.end_is) ∙ gs.1 in
      omega (
        arith,
        law,
        gs.0,
        x,
        esc_debit w.register c d e pl C K e₀ b n u f.has.u_in f.has.enough,
        sup_debit w.register c d e pl C' V b n u f.has.u_in f.has.enough,
        open_push (with_bal w b') p out refl fresh,
        open_push (with_bal w b') p hom refl fresh,
      ))
      (λ came.
      let b' = moved b c u (escrow_account k) d n in
      let gs = locked_gates i f.lane_in e n (subst (λ (x : End). came_by x.channel e ≡ false) (sym f.end_is) came) in
      let x : gate (eqb C c && eqb (escrow_account K) (escrow_account k) && same_denom e₀ e) n ≡ gate (eqb i i₀ && same_denom e e₀) n =
      ap (λ (y : End). gate (eqb C y.chain && eqb (escrow_account K) (escrow_account y.channel) && same_denom e₀ e) n) (sym f.end_is) ∙ gs.1 in
      omega (
        arith,
        law,
        gs.0,
        x,
        esc_move w.register c d e pl C K e₀ b n u (escrow_account k) f.has.enough,
        ap (λ y. gate y n) (esc_user w.register c d e pl C K e₀ u f.has.u_in),
        sup_move w.register c d e pl C' V b n u (escrow_account k) (omega (arith, f.has.u_in)) (omega arith) f.has.enough,
        open_push (with_bal w b') p out refl fresh,
        open_push (with_bal w b') p hom refl fresh,
      ))

  -- a packet that arrives
  backs_receive :
      (l d s : ℕ) → Clear (refusals w (receive l d s)) → Backs (outcome w (receive l d s)).0 i₀ e₀
  backs_receive l d s h =
      let f = receive_facts w l d s h in
      let i = lane l d in
      let p = packet_at w i s in
      let n = p.amount in
      let q = packet_place w i s in
      let m = arrival_mark w p in
      let b = w.ledger.balance in
      let so = sound_at w i s g f.0 in
      let apart = g.wired.apart in
      let c = (far w p).chain in
      let j-in : (far w p).channel < channels_most = g.wired.narrow (back p.lane) (back_in w.links apart p.lane so.lane_in) in
      let o = open_mark w q i s m out f.0.place_in f.0.key_is f.0.standing f.1 g.numbered in
      let o' = open_mark w q i s m hom f.0.place_in f.0.key_is f.0.standing f.1 g.numbered in
      arrival_by w p (λ x. Backs (mark_written x i s m) i₀ e₀)
      (λ e.
      let y : gate (not (eqb m 1) && out p) n ≡ gate (out p) n = ap (λ z. gate (not z && out p) n) e in
      let y' : gate (not (eqb m 1) && hom p) n ≡ gate (hom p) n = ap (λ z. gate (not z && hom p) n) e in
      omega (arith, law, o, o'))
      (λ e hm.
      let y : gate (not (eqb m 1) && out p) n ≡ 0 = ap (λ z. gate (not z && out p) n) e in
      let y' : gate (not (eqb m 1) && hom p) n ≡ 0 = ap (λ z. gate (not z && hom p) n) e in
      let e₁ = stripped p.denom in
      let pl = placed c e₁ hm.named.0 in
      omega (
        arith,
        law,
        o,
        o',
        ap (λ x. gate x n) (out_never w.links apart i₀ in₀ e₀ not_back p.lane so.lane_in p.denom hm.came),
        ap (λ x. gate x n) (free_is w.links apart i₀ in₀ e₀ not_back p.lane so.lane_in p.denom hm.came),
        esc_move w.register c (number w c e₁) e₁ pl C K e₀ b n (escrow_account (far w p).channel) p.receiver hm.enough,
        ap (λ y. gate y n) (esc_user w.register c (number w c e₁) e₁ pl C K e₀ p.receiver so.receiver_in),
        sup_move w.register c (number w c e₁) e₁ pl C' V b n (escrow_account (far w p).channel) p.receiver (omega arith) (omega (arith, so.receiver_in)) hm.enough,
      ))
      (λ e ow.
      let y : gate (not (eqb m 1) && out p) n ≡ 0 = ap (λ z. gate (not z && out p) n) e in
      let y' : gate (not (eqb m 1) && hom p) n ≡ 0 = ap (λ z. gate (not z && hom p) n) e in
      let e₁ = behind (far w p).channel p.denom in
      let reg = grown w.register c e₁ in
      let pl = placed_grown w.register c e₁ (grown_number w.register c e₁).0 in
      omega (
        arith,
        law,
        o,
        o',
        ap (λ x. gate x n) (home_never w.links apart i₀ in₀ e₀ not_back p.lane so.lane_in p.denom ow.came),
        ap (λ x. gate x n) (mint_is w.links apart i₀ in₀ e₀ not_back p.lane so.lane_in p.denom),
        esc_credit reg c (number w c e₁) e₁ pl C K e₀ b n p.receiver so.receiver_in,
        sup_credit reg c (number w c e₁) e₁ pl C' V b n p.receiver so.receiver_in,
        esc_grown w.register b c e₁ g.blank C K e₀,
        sup_grown w.register b c e₁ g.blank C' V,
      ))

  -- a refund that ends a packet
  backs_refund :
      (i s : ℕ) → Stands w i s → is_one (mark_of w (packet_at w i s)) ≡ false → refund_refused w (packet_at w i s) ≡ false →
      Backs (ended (refunded w (packet_at w i s)) (packet_place w i s)) i₀ e₀
  backs_refund i s h m r =
      let p = packet_at w i s in
      let q = packet_place w i s in
      let n = p.amount in
      let b = w.ledger.balance in
      let so = sound_at w i s g h in
      let c = (near w p).chain in
      let d = number w c p.denom in
      let pl = placed c p.denom so.named.0 in
      let k-in : (near w p).channel < channels_most = g.wired.narrow p.lane so.lane_in in
      let was : is_open w p ≡ true = ap₂ (λ x y. x && not y) h.standing m in
      let x : gate (is_open w p && out p) n ≡ gate (out p) n = ap (λ y. gate (y && out p) n) was in
      let x' : gate (is_open w p && hom p) n ≡ gate (hom p) n = ap (λ y. gate (y && hom p) n) was in
      let o = open_ended w q out h.place_in in
      let o' = open_ended w q hom h.place_in in
      refund_by w p (λ y. Backs (ended y q) i₀ e₀) r
      (λ came _.
      let gs = burnt_gates p.lane so.lane_in p.denom n came in
      omega (
        arith,
        law,
        o,
        o',
        gs,
        esc_credit w.register c d p.denom pl C K e₀ b n p.sender so.sender_in,
        sup_credit w.register c d p.denom pl C' V b n p.sender so.sender_in,
      ))
      (λ came enough.
      let gs = locked_gates p.lane so.lane_in p.denom n came in
      omega (
        arith,
        law,
        o,
        o',
        gs,
        esc_move w.register c d p.denom pl C K e₀ b n (escrow_account (near w p).channel) p.sender enough,
        ap (λ y. gate y n) (esc_user w.register c d p.denom pl C K e₀ p.sender so.sender_in),
        sup_move w.register c d p.denom pl C' V b n (escrow_account (near w p).channel) p.sender (omega arith) (omega (arith, so.sender_in)) enough,
      ))

  -- an issue: a hopless denomination is no voucher, and a user's account no escrow
  backs_issue : (c u : ℕ) (s : List ℕ) (n : ℕ) → Clear (refusals w (issue c u s n)) → Backs (outcome w (issue c u s n)).0 i₀ e₀
  backs_issue c u s n h =
      let f = issue_facts w c u s n h in
      let e = hopless s in
      let b = w.ledger.balance in
      let reg = grown w.register c e in
      let pl = placed_grown w.register c e (grown_number w.register c e).0 in
      let z : gate (eqb C' c && same_denom V (hopless s)) n ≡ 0 = ap (λ x. gate x n) (and_false (eqb C' c)) in
      omega (
        arith,
        law,
        esc_credit reg c (number w c e) e pl C K e₀ b n u f.u_in,
        sup_credit reg c (number w c e) e pl C' V b n u f.u_in,
        esc_grown w.register b c e g.blank C K e₀,
        sup_grown w.register b c e g.blank C' V,
      )

  -- a retirement, likewise
  backs_retire : (c u : ℕ) (e : Denom) (n : ℕ) → Clear (refusals w (retire c u e n)) → Backs (outcome w (retire c u e n)).0 i₀ e₀
  backs_retire c u e n h =
      let f = (retire_facts w c u e n h).0 in
      let b = w.ledger.balance in
      let pl = placed c e f.named.0 in
      let hopless-is : e ≡ hopless e.symbol = ap (λ (hs : List ℕ). record { hops = hs; symbol = e.symbol }) (retire_facts w c u e n h).1 in
      let z : gate (eqb C' c && same_denom V e) n ≡ 0 =
      ap (λ (y : Denom). gate (eqb C' c && same_denom V y) n) hopless-is ∙ ap (λ x. gate x n) (and_false (eqb C' c)) in
      omega (
        arith,
        law,
        esc_debit w.register c (number w c e) e pl C K e₀ b n u f.u_in f.enough,
        sup_debit w.register c (number w c e) e pl C' V b n u f.u_in f.enough,
      )

  -- a payment between users
  backs_pay : (c u v : ℕ) (e : Denom) (n : ℕ) → Clear (refusals w (pay c u v e n)) → Backs (outcome w (pay c u v e n)).0 i₀ e₀
  backs_pay c u v e n h =
      let f = pay_facts w c u v e n h in
      let b = w.ledger.balance in
      let pl = placed c e f.0.named.0 in
      omega (
        arith,
        law,
        esc_move w.register c (number w c e) e pl C K e₀ b n u v f.0.enough,
        ap (λ y. gate y n) (esc_user w.register c (number w c e) e pl C K e₀ u f.0.u_in),
        ap (λ y. gate y n) (esc_user w.register c (number w c e) e pl C K e₀ v f.1),
        sup_move w.register c (number w c e) e pl C' V b n u v (omega (arith, f.0.u_in)) (omega (arith, f.1)) f.0.enough,
      )

  -- an ack: the packet was not open, or is refunded
  backs_ack : (l d s : ℕ) → Clear (refusals w (ack l d s)) → Backs (outcome w (ack l d s)).0 i₀ e₀
  backs_ack l d s h =
      go (is_one (mark_at w (lane l d) s)) (ap is_one (marked_at w (lane l d) s (ack_facts w l d s h).0)) (ack_facts w l d s h).2
    where
      go :
          (b : Bool) → is_one (mark_of w (packet_at w (lane l d) s)) ≡ b →
          (not b && refund_refused w (packet_at w (lane l d) s)) ≡ false →
          Backs (ended (cond b w (refunded w (packet_at w (lane l d) s))) (packet_place w (lane l d) s)) i₀ e₀
      go true e r =
          let p = packet_at w (lane l d) s in
          let q = packet_place w (lane l d) s in
          let st = (ack_facts w l d s h).0 in
          let x : gate (is_open w p && out p) p.amount ≡ 0 = ap₂ (λ y z. gate ((y && not z) && out p) p.amount) st.standing e in
          let x' : gate (is_open w p && hom p) p.amount ≡ 0 = ap₂ (λ y z. gate ((y && not z) && hom p) p.amount) st.standing e in
          omega (arith, law, open_ended w q out st.place_in, open_ended w q hom st.place_in)
      go false e r = backs_refund (lane l d) s (ack_facts w l d s h).0 e r

  -- a timeout refunds
  backs_timeout : (l d s : ℕ) → Clear (refusals w (timeout l d s)) → Backs (outcome w (timeout l d s)).0 i₀ e₀
  backs_timeout l d s h =
      let f = timeout_facts w l d s h in
      let i = lane l d in
      let e : is_one (mark_of w (packet_at w i s)) ≡ false =
      ap is_one (marked_at w i s f.0 ∙ f.1) in
      backs_refund i s f.0 e f.2

-- A link opened: at the ends that were there nothing changes, and at the new ones there is nothing yet.
module _ (w : World) (g : Good w) (a b : ℕ) (k : Bool) (clear : Clear (refusals w (open_link a b k))) (bk : AllBacked w) where
  -- the link that is opened
  abbrev ms : List Link
  ms = record { end₀ = end_at a (lowest_unused w.links a); end₁ = end_at b (lowest_unused w.links b); kind = k } ∷ []

  -- the world with it
  abbrev w' : World
  w' = with_links w (w.links ++ ms)

  -- what is known of a packet that was sent
  sound_of : (j : ℕ) → j < length w.packets → Sound w.links w.register (get_or w.packets j no_packet)
  sound_of j l = All-get_or (Sound w.links w.register) w.packets j no_packet l g.sound

  -- the same packets are open
  open_stays : (test : Packet → Bool) → open_packets w' test ≡ open_packets w test
  open_stays test =
      total_same (λ p. gate (is_open w' p && test p) p.amount) (λ p. gate (is_open w p && test p) p.amount) w.packets no_packet
      (λ j l.
      let p = get_or w.packets j no_packet in
      let half : p.lane / 2 < length w.links = omega (arith, (sound_of j l).lane_in, length_ends w.links) in
      ap
      (λ (y : Link). gate (p.standing && not (is_one ((w.books y.kind).mark p.lane p.sequence)) && test p) p.amount)
      (get_or_append_left w.links ms no_link (p.lane / 2) half))

  -- an end that is new was not in use
  new_unused : (i : ℕ) → length (ends w.links) ≤ i → i < length (ends w'.links) → length (ends w.links) ≤ lane_out w.links (from_end w'.links i).chain (from_end w'.links i).channel
  new_unused i l m =
      let e = from_end w'.links i in
      let x = lane_out w.links e.chain e.channel in
      ⊎_elim
      (λ lt.
      let hit : e ≡ from_end w.links x = same_end_true e (from_end w.links x) (place_hit (same_end e) (ends w.links) no_end lt) in
      let n : length (ends w'.links) ≡ length (ends w.links) + length (ends ms) =
      ap length (ends_append w.links ms) ∙ length-append (ends w.links) (ends ms) in
      let same : i ≡ x =
      (good_outcome w (open_link a b k) g clear).wired.apart i x m (omega (arith, lt)) (hit ∙ sym (from_end_grows w.links ms x lt)) in
      absurd (omega arith))
      (λ ge. ge)
      (cases_lt x (length (ends w.links)))

  -- no packet is on a lane that was not there
  nothing_on : (i : ℕ) (e : Denom) → length (ends w.links) ≤ i → open_packets w (on_lane_with i e) ≡ 0
  nothing_on i e l =
      total_zero (λ p. gate (is_open w p && on_lane_with i e p) p.amount) w.packets no_packet (λ j m.
      let p = get_or w.packets j no_packet in
      let ne : eqb p.lane i ≡ false = ne_eqb p.lane i (λ x. omega (arith, (sound_of j m).lane_in)) in
      ap (λ y. gate (is_open w p && (y && same_denom p.denom e)) p.amount) ne ∙ ap (λ y. gate y p.amount) (and_false (is_open w p)))

  -- the law at the ends that were there and at the new ones
  backs_open : AllBacked w'
  backs_open i e l h = ⊎_elim old new (cases_lt i (length (ends w.links)))
    where
      Law : End → End → Type 0
      Law x y =
          escrow w x.chain x.channel e ≡
          supply_of w y.chain (behind y.channel e) + open_packets w (on_lane_with i e) +
          open_packets w (on_lane_with (back i) (behind y.channel e))

      same : Law (from_end w'.links i) (to_end w'.links i) → Backs w' i e
      same r =
          omega (arith, r, open_stays (on_lane_with i e), open_stays (on_lane_with (back i) (behind (to_end w'.links i).channel e)))

      old : i < length (ends w.links) → Backs w' i e
      old m =
          let x = from_end_grows w.links ms i m in
          let y = to_end_grows w.links ms i m in
          let h' : came_by (from_end w.links i).channel e ≡ false = ap (λ (z : End). came_by z.channel e) (sym x) ∙ h in
          same (subst (λ (z : End). Law z (to_end w'.links i)) (sym x) (subst (λ (z : End). Law (from_end w.links i) z) (sym y) (bk i e m h')))

      new : length (ends w.links) ≤ i → Backs w' i e
      new m =
          let x = from_end w'.links i in
          let y = to_end w'.links i in
          let v = behind y.channel e in
          let i-back : back i < length (ends w'.links) =
          back_in w'.links (good_outcome w (open_link a b k) g clear).wired.apart i l in
          let new-back : length (ends w.links) ≤ back i =
          ⊎_elim
          (λ lt. absurd (omega (arith, length_ends w.links, back_back i, back_below (back i) (length w.links) (omega (arith, length_ends w.links, lt)))))
          (λ ge. ge)
          (cases_lt (back i) (length (ends w.links))) in
          let empty : escrow w x.chain x.channel e ≡ 0 =
          ap (gate (found (same_denom e) (w.register x.chain))) (g.idle x.chain x.channel (number w x.chain e) (new_unused i m l)) ∙
          gate_zero (found (same_denom e) (w.register x.chain)) in
          let unknown : length (w.register y.chain) ≤ number w y.chain v =
          ⊎_elim
          (λ lt.
          let nm = names_found w.register y.chain v lt in
          let lead : Leads w.links v.hops y.chain =
          subst (λ (z : Denom). Leads w.links z.hops y.chain) nm.1 (g.traced y.chain (number w y.chain v) lt) in
          absurd (omega (arith, lead.0, new_unused (back i) new-back i-back)))
          (λ ge. ge)
          (cases_lt (number w y.chain v) (length (w.register y.chain))) in
          let none : supply_of w y.chain v ≡ 0 =
          ap (λ z. gate z (supply w.ledger.balance y.chain (number w y.chain v))) (le-ltb (number w y.chain v) (length (w.register y.chain)) unknown) in
          same (omega (arith, empty, none, nothing_on i e m, nothing_on (back i) v new-back))

-- a receive opens no link
receive_links : (w : World) (l d s : ℕ) → (outcome w (receive l d s)).0.links ≡ w.links
receive_links w l d s =
    arrival_by w (packet_at w (lane l d) s) (λ x. x.links ≡ w.links) (λ _. refl) (λ _ _. refl) (λ _ _. refl)

-- nor does an ack
ack_links : (w : World) (l d s : ℕ) → (outcome w (ack l d s)).0.links ≡ w.links
ack_links w l d s = go (is_one (mark_at w (lane l d) s))
  where
    go : (b : Bool) → (cond b w (refunded w (packet_at w (lane l d) s))).links ≡ w.links
    go true = refl
    go false = refl

-- the law asked at a world's links is the law asked at the links before, where they are the same
same_links :
    (w v : World) → v.links ≡ w.links →
    ((i : ℕ) (e : Denom) → i < length (ends w.links) → came_by (from_end w.links i).channel e ≡ false → Backs v i e) →
    AllBacked v
same_links w v q f i e l nb =
    f i e (subst (λ (ls : List Link). i < length (ends ls)) q l) (subst (λ (ls : List Link). came_by (from_end ls i).channel e ≡ false) q nb)

-- every call keeps the law
pub backs_outcome : (w : World) (c : Call) → Good w → AllBacked w → Clear (refusals w c) → AllBacked (outcome w c).0
backs_outcome w (open_link a b k) g bk h = backs_open w g a b k h bk
backs_outcome w (issue c u s n) g bk h = λ i e l nb. backs_issue w g i e l nb (bk i e l nb) c u s n h
backs_outcome w (retire c u f n) g bk h = λ i e l nb. backs_retire w g i e l nb (bk i e l nb) c u f n h
backs_outcome w (pay c u v f n) g bk h = λ i e l nb. backs_pay w g i e l nb (bk i e l nb) c u v f n h
backs_outcome w (send c k u v f n t) g bk h = λ i e l nb. backs_send w g i e l nb (bk i e l nb) c k u v f n t h
backs_outcome w (receive l d s) g bk h =
    same_links w (outcome w (receive l d s)).0 (receive_links w l d s) (λ i e il nb. backs_receive w g i e il nb (bk i e il nb) l d s h)
backs_outcome w (ack l d s) g bk h =
    same_links w (outcome w (ack l d s)).0 (ack_links w l d s) (λ i e il nb. backs_ack w g i e il nb (bk i e il nb) l d s h)
backs_outcome w (timeout l d s) g bk h = λ i e il nb. backs_timeout w g i e il nb (bk i e il nb) l d s h
backs_outcome w (tick c n) g bk h = bk
backs_outcome w (bar c u) g bk h = bk
backs_outcome w (unbar c u) g bk h = bk
backs_outcome w (home c e) g bk h = bk

-- at every moment
pub backed_world : (l : Ledger) (bs : Bool → Book) (past : List Call) → AllBacked (world l bs past)
backed_world l bs [] = λ i e h nb. absurd (omega arith)
backed_world l bs (c ∷ past) =
    step_by (world l bs past) c (λ r. AllBacked r.0) (λ _. backed_world l bs past)
    (backs_outcome (world l bs past) c (good_world l bs past) (backed_world l bs past))

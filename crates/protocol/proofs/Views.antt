-- What is known of an accepted call: each call is refused and leaves the world, or these facts hold and it comes to its result.
use Rattle.std.proofs.Common.{◌≡◌, ℕ, suc, ◌<◌, ◌≤◌, Bool, true, false, cond, not, ◌&&◌, eqb, ltb, leb, List, [], ◌∷◌, length, is_some, Some, None, Option, sym, refl, ap, arith}
use Rattle.std.proofs.lemmas.Bool.{eqb-true, eqb-false, and_parts, or_parts, both_ways, ltb-true, ltb-false, leb-true, leb-false, not-false}
use Rattle.denom.specs.Denomination.{Denom}
use Rattle.protocol.specs.House.{chains_most, channels_most, users}
use Rattle.protocol.specs.Refusals.{Refusal, ◌when◌, first}
use Rattle.protocol.specs.Ledger.{too_small}
use Rattle.protocol.specs.Book.{is_one}
use Rattle.protocol.specs.World.{World, ends, from_end, end_at, lane_out, in_use, lowest_unused, number, registered, book_of, same_end, lane, mark_at, mark_of}
use Rattle.protocol.specs.Calls.{Answer, no, Call, open_link, issue, retire, pay, send, receive, ack, timeout, settled_by, refusals, outcome, step, packet_place, packet_at, refund_refused, served, opened, no_packet}
use Rattle.protocol.proofs.Places.{place_hit, same_end_true}
use Rattle.protocol.proofs.Homes.{length_ends}
use Rattle.protocol.proofs.Good.{Names, names_found, key, Key}

-- no refusal applies
abbrev pub Clear : List Refusal → Type 0
Clear [] = Unit {0}
Clear ((n when b) ∷ rs) = (b ≡ false) × Clear rs

-- where there is no first that applies, none does
pub clear_first : (rs : List Refusal) → first rs ≡ None → Clear rs
clear_first [] h = tt
clear_first ((n when b) ∷ rs) h = go b h (clear_first rs)
  where
    go : (c : Bool) → cond c (Some n) (first rs) ≡ None → (first rs ≡ None → Clear rs) → (c ≡ false) × Clear rs
    go true e r = absurd (let z : ◌≡◌ {A = ℕ} 0 1 = cc in omega arith)
    go false e r = (refl, r e)

-- what holds of the world with a refusal, and of the outcome where none applies, holds of the step
pub step_by :
    (w : World) (c : Call) (P : World × Answer → Type 0) → ((n : ℕ) → P (w, no n)) →
    (Clear (refusals w c) → P (outcome w c)) → P (step w c)
step_by w c P stays comes = go (first (refusals w c)) (clear_first (refusals w c))
  where
    go : (o : Option ℕ) → (o ≡ None → Clear (refusals w c)) → P (settled_by o w (outcome w c))
    go None f = comes (f refl)
    go (Some n) f = stays n

-- a served chain is one of the world's
served_in : (w : World) (c : ℕ) → not (served w c) ≡ false → c < chains_most
served_in w c h =
    ltb-true c chains_most (and_parts (ltb c w.ledger.chains) (ltb c chains_most) (not-false (served w c) h)).1

-- a user is not above 15
user_in : (u : ℕ) → leb users u ≡ false → u < users
user_in u h = leb-false users u h

-- no mark is none
pub is_none : (o : Option ℕ) → is_some o ≡ false → o ≡ None
is_none None h = refl
is_none (Some m) h = absurd (both_ways true h refl)

-- the calls

-- two chains with a channel left each
pub record Opens (w : World) (a b : ℕ) : Type 0 where
  pub a_in : a < chains_most
  pub b_in : b < chains_most
  pub differ : a ≡ b → ⊥
  pub a_free : lowest_unused w.links a < channels_most
  pub b_free : lowest_unused w.links b < channels_most

-- open
pub open_facts : (w : World) (a b : ℕ) (k : Bool) → Clear (refusals w (open_link a b k)) → Opens w a b
open_facts w a b k h =
    let s = or_parts (not (served w a)) (not (served w b)) h.0 in
    let f = or_parts (leb channels_most (lowest_unused w.links a)) (leb channels_most (lowest_unused w.links b)) h.1.1.1.0 in
    record {
      a_in = served_in w a s.0;
      b_in = served_in w b s.1;
      differ = eqb-false a b h.1.0;
      a_free = leb-false channels_most (lowest_unused w.links a) f.0;
      b_free = leb-false channels_most (lowest_unused w.links b) f.1;
    }

-- a chain and a user
pub record Issues (c u : ℕ) : Type 0 where
  pub c_in : c < chains_most
  pub u_in : u < users

-- issue
pub issue_facts : (w : World) (c u : ℕ) (s : List ℕ) (n : ℕ) → Clear (refusals w (issue c u s n)) → Issues c u
issue_facts w c u s n h = record { c_in = served_in w c h.1.0; u_in = user_in u h.1.1.0 }

-- a user's balance under a registered denomination, which suffices
pub record Has (w : World) (c u : ℕ) (e : Denom) (n : ℕ) : Type 0 where
  pub c_in : c < chains_most
  pub u_in : u < users
  pub named : Names w.register c (number w c e) e
  pub enough : n ≤ w.ledger.balance c u (number w c e)

-- from the refusals that retire, pay and send share
has_from :
    (w : World) (c u : ℕ) (e : Denom) (n : ℕ) → not (served w c) ≡ false → leb users u ≡ false →
    not (registered w c e) ≡ false → too_small w.ledger.balance c u (number w c e) n ≡ false → Has w c u e n
has_from w c u e n s l r b =
    record {
      c_in = served_in w c s;
      u_in = user_in u l;
      named = names_found w.register c e (ltb-true (number w c e) (length (w.register c)) (not-false (registered w c e) r));
      enough = ltb-false (w.ledger.balance c u (number w c e)) n b;
    }

-- a list of no length
no_hops : (hs : List ℕ) → ltb 0 (length hs) ≡ false → hs ≡ []
no_hops [] h = refl
no_hops (k ∷ ks) h = absurd (omega (arith, ltb-false 0 (suc (length ks)) h))

-- retire: besides, it is hopless
pub retire_facts :
    (w : World) (c u : ℕ) (e : Denom) (n : ℕ) → Clear (refusals w (retire c u e n)) → Has w c u e n × (e.hops ≡ [])
retire_facts w c u e n h = (
  has_from w c u e n h.0 h.1.0 h.1.1.1.0 h.1.1.1.1.1.1.0,
  no_hops e.hops h.1.1.1.1.0,
)

-- pay: besides, the payee is a user
pub pay_facts :
    (w : World) (c u v : ℕ) (e : Denom) (n : ℕ) → Clear (refusals w (pay c u v e n)) → Has w c u e n × (v < users)
pay_facts w c u v e n h =
    let a = or_parts (leb users u) (leb users v) h.1.0 in
    (has_from w c u e n h.0 a.0 h.1.1.1.0 h.1.1.1.1.1.0, user_in v a.1)

-- the sender has it, and the channel leads out by a lane
pub record Sends (w : World) (c k u v : ℕ) (e : Denom) (n : ℕ) : Type 0 where
  pub has : Has w c u e n
  pub v_in : v < users
  pub lane_in : lane_out w.links c k < length (ends w.links)
  pub end_is : from_end w.links (lane_out w.links c k) ≡ end_at c k

-- send
pub send_facts :
    (w : World) (c k u v : ℕ) (e : Denom) (n t : ℕ) → Clear (refusals w (send c k u v e n t)) → Sends w c k u v e n
send_facts w c k u v e n t h =
    let a = or_parts (leb users u) (leb users v) h.1.1.0 in
    let l = ltb-true (lane_out w.links c k) (length (ends w.links)) (not-false (in_use w.links c k) h.1.0) in
    record {
      has = has_from w c u e n h.0 a.0 h.1.1.1.1.0 h.1.1.1.1.1.1.1.1.1.0;
      v_in = user_in v a.1;
      lane_in = l;
      end_is =
          sym
          (same_end_true
          (end_at c k)
          (from_end w.links (lane_out w.links c k))
          (place_hit (same_end (end_at c k)) (ends w.links) (end_at 0 0) l));
    }

-- a packet of an open lane, which stands
pub record Stands (w : World) (i s : ℕ) : Type 0 where
  pub lane_in : i < length (ends w.links)
  pub place_in : packet_place w i s < length w.packets
  pub key_is : key (packet_at w i s) ≡ (i, s)
  pub standing : (packet_at w i s).standing ≡ true

-- its mark is that of its lane and sequence
pub marked_at : (w : World) (i s : ℕ) → Stands w i s → mark_of w (packet_at w i s) ≡ mark_at w i s
marked_at w i s h = ap (λ (k : Key). mark_at w k.0 k.1) h.key_is

-- from the refusals that receive, ack and timeout share
stands_from :
    (w : World) (l d s : ℕ) → not (opened w l d) ≡ false →
    not (ltb (packet_place w (lane l d) s) (length w.packets)) ≡ false →
    not (packet_at w (lane l d) s).standing ≡ false → Stands w (lane l d) s
stands_from w l d s o h st =
    let i = lane l d in
    let b = and_parts (ltb l (length w.links)) (leb d 1) (not-false (opened w l d) o) in
    let q = ltb-true (packet_place w i s) (length w.packets) (not-false (ltb (packet_place w i s) (length w.packets)) h) in
    let hit = place_hit (λ p. eqb p.lane i && eqb p.sequence s) w.packets no_packet q in
    let k = and_parts (eqb (packet_at w i s).lane i) (eqb (packet_at w i s).sequence s) hit in
    let x = eqb-true (packet_at w i s).lane i k.0 in
    let y = eqb-true (packet_at w i s).sequence s k.1 in
    record {
      lane_in = omega (arith, ltb-true l (length w.links) b.0, leb-true d 1 b.1, length_ends w.links);
      place_in = q;
      key_is = λ j. (x j, y j);
      standing = not-false (packet_at w i s).standing st;
    }

-- receive: besides, it has no mark
pub receive_facts :
    (w : World) (l d s : ℕ) → Clear (refusals w (receive l d s)) →
    Stands w (lane l d) s × ((book_of w (lane l d)).mark (lane l d) s ≡ None)
receive_facts w l d s h = (
  stands_from w l d s h.0 h.1.1.0 h.1.1.1.0,
  is_none ((book_of w (lane l d)).mark (lane l d) s) h.1.1.1.1.1.0,
)

-- ack: besides, it has a mark, and if that is not 1 the refund is not refused
pub ack_facts :
    (w : World) (l d s : ℕ) → Clear (refusals w (ack l d s)) →
    Stands w (lane l d) s ×
    (is_some ((book_of w (lane l d)).mark (lane l d) s) ≡ true) ×
    ((not (is_one (mark_at w (lane l d) s)) && refund_refused w (packet_at w (lane l d) s)) ≡ false)
ack_facts w l d s h = (
  stands_from w l d s h.0 h.1.0 h.1.1.0,
  not-false (is_some ((book_of w (lane l d)).mark (lane l d) s)) h.1.1.1.0,
  h.1.1.1.1.1.0,
)

-- timeout: besides, it has no mark, and the refund is not refused
pub timeout_facts :
    (w : World) (l d s : ℕ) → Clear (refusals w (timeout l d s)) →
    Stands w (lane l d) s ×
    ((book_of w (lane l d)).mark (lane l d) s ≡ None) ×
    (refund_refused w (packet_at w (lane l d) s) ≡ false)
timeout_facts w l d s h = (
  stands_from w l d s h.0 h.1.0 h.1.1.0,
  is_none ((book_of w (lane l d)).mark (lane l d) s) h.1.1.1.1.0,
  h.1.1.1.1.1.0,
)

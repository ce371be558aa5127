-- Every call keeps what is good.
use Rattle.std.proofs.Common.{◌≡◌, ℕ, suc, ◌+◌, ◌-◌, ◌<◌, Bool, true, false, cond, not, ◌&&◌, List, [], ◌∷◌, ◌++◌, map, length, get_or, sym, refl, ap, ◌∙◌, subst, arith}
use Rattle.std.proofs.ByRecursion.{All-push, All-set, All-get_or, All-weaker}
use Rattle.std.proofs.lemmas.List.{map_push, length-map, get_or-map}
use Rattle.register.specs.Keys.{place}
use Rattle.denom.specs.Denomination.{Denom, hopless, behind, stripped, same_denom}
use Rattle.protocol.specs.House.{escrow_account}
use Rattle.protocol.specs.Ledger.{Ledger, Balances, credited, debited, moved}
use Rattle.protocol.specs.Book.{Book, is_one}
use Rattle.protocol.specs.World.{End, Link, Packet, World, made, back, end_at, lane_out, lowest_unused, number, lane, link_kind, mark_at, near, far}
use Rattle.protocol.specs.Calls.{Call, open_link, issue, retire, pay, send, receive, ack, timeout, tick, bar, unbar, home, refusals, outcome, step, with_bal, ended, mark_written, no_packet, no_more_standing, packet_place, packet_at, arrival_mark, refunded, refund_refused, sent_packet}
use Rattle.protocol.specs.Laws.{world}
use Rattle.protocol.proofs.Homes.{Leads, leads_back, lane_of_end, back_in}
use Rattle.protocol.proofs.Good.{Registers, Blank, Names, Idle, Used, idle_put, used_user, used_escrow, Sound, Key, no_key, key, Numbered, Good, blank_put, grown, grown_number, blank_grown, traced_grown, sound_grown}
use Rattle.protocol.proofs.Grow.{wired_push, idle_links, lowest_is_unused, traced_links, sound_links, on_lane_keys, numbered_push, numbered_mark, keys_ended, sound_ended}
use Rattle.protocol.proofs.Views.{Clear, step_by, open_facts, issue_facts, retire_facts, pay_facts, send_facts, Stands, receive_facts, ack_facts, timeout_facts}
use Rattle.protocol.proofs.Moves.{homeward, outward, Homeward, arrival_by, refund_by, sent_by}

-- a world as it is made
pub good_made : (l : Ledger) (bs : Bool → Book) → Good (made l bs)
good_made l bs =
    record {
      blank = λ c a d h. refl;
      wired = record { apart = λ i j h. absurd (omega arith); small = λ i h. absurd (omega arith); narrow = λ i h. absurd (omega arith) };
      idle = λ c k d h. refl;
      traced = λ c d h. absurd (omega arith);
      sound = tt;
      numbered = record { distinct = λ q r h. absurd (omega arith); upto = λ q h. absurd (omega arith); fresh = λ k i s h. refl };
    }

-- the parts that a change of balances leaves
pub good_bal : (w : World) (b : Balances) → Good w → Blank w.register b → Idle w.links b → Good (with_bal w b)
good_bal w b g h i = record { blank = h; idle = i; wired = g.wired; traced = g.traced; sound = g.sound; numbered = g.numbered }

-- a move under a number that is given out
blank_moved :
    (reg : Registers) (b : Balances) (c a a' d n : ℕ) → d < length (reg c) → Blank reg b → Blank reg (moved b c a a' d n)
blank_moved reg b c a a' d n l h =
    blank_put reg (debited b c a d n) c a' d (debited b c a d n c a' d + n) l (blank_put reg b c a d (b c a d - n) l h)

-- a move between accounts that are used
idle_moved :
    (ls : List Link) (b : Balances) (c a a' d n : ℕ) → Used ls c a → Used ls c a' → Idle ls b → Idle ls (moved b c a a' d n)
idle_moved ls b c a a' d n u v h =
    idle_put ls (debited b c a d n) c a' d (debited b c a d n c a' d + n) v (idle_put ls b c a d (b c a d - n) u h)

-- what is known of a packet that stands
pub sound_at : (w : World) (i s : ℕ) → Good w → Stands w i s → Sound w.links w.register (packet_at w i s)
sound_at w i s g h =
    All-get_or (Sound w.links w.register) w.packets (packet_place w i s) no_packet h.place_in g.sound

-- its denomination leads home from the near end, and behind the far end's channel from the far end
pub leads_near :
    (w : World) (p : Packet) → Good w → Sound w.links w.register p → Leads w.links p.denom.hops (near w p).chain
leads_near w p g s =
    let c = (near w p).chain in
    let d = place (same_denom p.denom) (w.register c) in
    subst (λ (e : Denom). Leads w.links e.hops c) s.named.1 (g.traced c d s.named.0)

-- and from the far end, behind its channel
pub leads_behind :
    (w : World) (p : Packet) → Good w → Sound w.links w.register p →
    Leads w.links (behind (far w p).channel p.denom).hops (far w p).chain
leads_behind w p g s =
    let e = leads_back w.links g.wired.apart p.lane s.lane_in in
    let b = back_in w.links g.wired.apart p.lane s.lane_in in
    let j = lane_of_end w.links g.wired.apart (back p.lane) b in
    (omega (arith, j, b), subst (λ (x : End). Leads w.links p.denom.hops x.chain) (sym e) (leads_near w p g s))

-- a mark under a packet's key
pub good_mark :
    (w : World) (q i s m : ℕ) → q < length w.packets → key (get_or w.packets q no_packet) ≡ (i, s) → Good w →
    Good (mark_written w i s m)
good_mark w q i s m l e g =
    record {
      blank = g.blank;
      idle = g.idle;
      wired = g.wired;
      traced = g.traced;
      sound = g.sound;
      numbered =
          numbered_mark (map key w.packets) w.books (link_kind w i) q i s m (rw (length-map w.packets key) l)
          (get_or-map key w.packets q no_packet no_key l ∙ e) g.numbered;
    }

-- a packet that ends
pub good_ended : (w : World) (q : ℕ) → q < length w.packets → Good w → Good (ended w q)
good_ended w q l g =
    record {
      blank = g.blank;
      idle = g.idle;
      wired = g.wired;
      traced = g.traced;
      sound =
          All-set (Sound w.links w.register) w.packets q (no_more_standing (get_or w.packets q no_packet))
          (sound_ended w.links w.register (get_or w.packets q no_packet) (All-get_or (Sound w.links w.register) w.packets q no_packet l g.sound))
          g.sound;
      numbered = subst (λ (ks : List Key). Numbered ks w.books) (sym (keys_ended w.packets q l)) g.numbered;
    }

-- a denomination enrolled, and balances changed
pub good_enrolled :
    (w : World) (c : ℕ) (e : Denom) (b : Balances) → Leads w.links e.hops c → Good w → Blank (grown w.register c e) b → Idle w.links b →
    Good
    (record { ledger = record { chains = w.ledger.chains; serves_bars = w.ledger.serves_bars; balance = b; barred = w.ledger.barred }; books = w.books; register = grown w.register c e; tokens = w.tokens; links = w.links; closed = w.closed; packets = w.packets; height = w.height })
good_enrolled w c e b lead g h i =
    record {
      blank = h;
      idle = i;
      wired = g.wired;
      traced = traced_grown w.register c e w.links lead g.traced;
      sound =
          All-weaker (Sound w.links w.register) (Sound w.links (grown w.register c e)) (sound_grown w.register c e w.links) w.packets g.sound;
      numbered = g.numbered;
    }

-- both ends of a packet's way are in use
pub near_used : (w : World) (p : Packet) → Good w → Sound w.links w.register p → Used w.links (near w p).chain (escrow_account (near w p).channel)
near_used w p g s =
    used_escrow w.links (near w p).chain (near w p).channel
    (omega (arith, lane_of_end w.links g.wired.apart p.lane s.lane_in, s.lane_in))

-- the far end too
pub far_used : (w : World) (p : Packet) → Good w → Sound w.links w.register p → Used w.links (far w p).chain (escrow_account (far w p).channel)
far_used w p g s =
    let b = back_in w.links g.wired.apart p.lane s.lane_in in
    used_escrow w.links (far w p).chain (far w p).channel
    (omega (arith, lane_of_end w.links g.wired.apart (back p.lane) b, b))

-- a packet that comes home
pub good_homeward : (w : World) (p : Packet) → Good w → Sound w.links w.register p → Homeward w p → Good (homeward w p)
good_homeward w p g s h =
    good_bal w _ g
    (blank_moved w.register w.ledger.balance (far w p).chain (escrow_account (far w p).channel) p.receiver (number w (far w p).chain (stripped p.denom)) p.amount h.named.0 g.blank)
    (idle_moved w.links w.ledger.balance (far w p).chain (escrow_account (far w p).channel) p.receiver (number w (far w p).chain (stripped p.denom)) p.amount
    (far_used w p g s) (used_user w.links (far w p).chain p.receiver s.receiver_in) g.idle)

-- a packet that goes out
pub good_outward : (w : World) (p : Packet) → Good w → Sound w.links w.register p → Good (outward w p)
good_outward w p g s =
    let c = (far w p).chain in
    let e = behind (far w p).channel p.denom in
    let d = number w c e in
    good_enrolled w c e (credited w.ledger.balance c p.receiver d p.amount) (leads_behind w p g s) g
    (blank_put (grown w.register c e) w.ledger.balance c p.receiver d (w.ledger.balance c p.receiver d + p.amount)
    (grown_number w.register c e).0 (blank_grown w.register c e w.ledger.balance g.blank))
    (idle_put w.links w.ledger.balance c p.receiver d (w.ledger.balance c p.receiver d + p.amount)
    (used_user w.links c p.receiver s.receiver_in) g.idle)

-- a refund
pub good_refunded :
    (w : World) (p : Packet) → Good w → Sound w.links w.register p → refund_refused w p ≡ false → Good (refunded w p)
good_refunded w p g s r =
    let c = (near w p).chain in
    let d = number w c p.denom in
    refund_by w p Good r
    (λ _ _. good_bal w _ g (blank_put w.register w.ledger.balance c p.sender d (w.ledger.balance c p.sender d + p.amount) s.named.0 g.blank)
    (idle_put w.links w.ledger.balance c p.sender d (w.ledger.balance c p.sender d + p.amount) (used_user w.links c p.sender s.sender_in) g.idle))
    (λ _ _. good_bal w _ g (blank_moved w.register w.ledger.balance c (escrow_account (near w p).channel) p.sender d p.amount s.named.0 g.blank)
    (idle_moved w.links w.ledger.balance c (escrow_account (near w p).channel) p.sender d p.amount (near_used w p g s) (used_user w.links c p.sender s.sender_in) g.idle))

-- every call
pub good_outcome : (w : World) (c : Call) → Good w → Clear (refusals w c) → Good (outcome w c).0
good_outcome w (open_link a b k) g h =
    let f = open_facts w a b k h in
    let ls = w.links in
    let e₀ = end_at a (lowest_unused ls a) in
    let e₁ = end_at b (lowest_unused ls b) in
    let ms : List Link = record { end₀ = end_at a (lowest_unused w.links a); end₁ = end_at b (lowest_unused w.links b); kind = k } ∷ [] in
    record {
      blank = g.blank;
      idle = idle_links ls ms w.ledger.balance g.idle;
      wired =
          wired_push ls e₀ e₁ k g.wired f.a_in f.b_in f.a_free f.b_free f.differ (lowest_is_unused ls a f.a_free) (lowest_is_unused ls b f.b_free);
      traced = traced_links ls ms w.register g.traced;
      sound =
          All-weaker (Sound ls w.register) (Sound (ls ++ ms) w.register) (sound_links ls ms w.register) w.packets g.sound;
      numbered = g.numbered;
    }
good_outcome w (issue c u s n) g h =
    let e = hopless s in
    let d = number w c e in
    let r =
    good_enrolled w c e (credited w.ledger.balance c u d n) tt g
    (blank_put (grown w.register c e) w.ledger.balance c u d (w.ledger.balance c u d + n) (grown_number w.register c e).0
    (blank_grown w.register c e w.ledger.balance g.blank))
    (idle_put w.links w.ledger.balance c u d (w.ledger.balance c u d + n) (used_user w.links c u (issue_facts w c u s n h).u_in) g.idle) in
    record { idle = r.idle; blank = r.blank; wired = r.wired; traced = r.traced; sound = r.sound; numbered = r.numbered }
good_outcome w (retire c u e n) g h =
    let f = (retire_facts w c u e n h).0 in
    good_bal w _ g
    (blank_put w.register w.ledger.balance c u (number w c e) (w.ledger.balance c u (number w c e) - n) f.named.0 g.blank)
    (idle_put w.links w.ledger.balance c u (number w c e) (w.ledger.balance c u (number w c e) - n) (used_user w.links c u f.u_in) g.idle)
good_outcome w (pay c u v e n) g h =
    let f = (pay_facts w c u v e n h).0 in
    good_bal w _ g (blank_moved w.register w.ledger.balance c u v (number w c e) n f.named.0 g.blank)
    (idle_moved w.links w.ledger.balance c u v (number w c e) n (used_user w.links c u f.u_in) (used_user w.links c v (pay_facts w c u v e n h).1) g.idle)
good_outcome w (send c k u v e n t) g h =
    let f = send_facts w c k u v e n t h in
    let i = lane_out w.links c k in
    let named = f.has.named in
    let p = sent_packet w c k u v e n t in
    record {
      blank =
          sent_by w c k u e n (Blank w.register)
          (λ _. blank_put w.register w.ledger.balance c u (number w c e) (w.ledger.balance c u (number w c e) - n) named.0 g.blank)
          (λ _. blank_moved w.register w.ledger.balance c u (escrow_account k) (number w c e) n named.0 g.blank);
      idle =
          sent_by w c k u e n (Idle w.links)
          (λ _. idle_put w.links w.ledger.balance c u (number w c e) (w.ledger.balance c u (number w c e) - n) (used_user w.links c u f.has.u_in) g.idle)
          (λ _. idle_moved w.links w.ledger.balance c u (escrow_account k) (number w c e) n (used_user w.links c u f.has.u_in) (used_escrow w.links c k f.lane_in) g.idle);
      wired = g.wired;
      traced = g.traced;
      sound =
          All-push (Sound w.links w.register) w.packets p g.sound
          (record {
            lane_in = f.lane_in;
            sender_in = f.has.u_in;
            receiver_in = f.v_in;
            named =
                subst
                (λ (x : End). Names w.register x.chain (place (same_denom e) (w.register x.chain)) e)
                (sym f.end_is)
                named;
          });
      numbered =
          subst
          (λ (ks : List Key). Numbered ks w.books)
          (ap (λ n. map key w.packets ++ (i, suc n) ∷ []) (sym (on_lane_keys i w.packets)) ∙ sym (map_push key w.packets p))
          (numbered_push (map key w.packets) w.books i g.numbered);
    }
good_outcome w (receive l d s) g h =
    let f = receive_facts w l d s h in
    let i = lane l d in
    let p = packet_at w i s in
    let q = packet_place w i s in
    let so = sound_at w i s g f.0 in
    arrival_by w p (λ x. Good (mark_written x i s (arrival_mark w p)))
    (λ _. good_mark w q i s (arrival_mark w p) f.0.place_in f.0.key_is g)
    (λ _ hm. good_mark (homeward w p) q i s (arrival_mark w p) f.0.place_in f.0.key_is (good_homeward w p g so hm))
    (λ _ _. good_mark (outward w p) q i s (arrival_mark w p) f.0.place_in f.0.key_is (good_outward w p g so))
good_outcome w (ack l d s) g h =
    go (is_one (mark_at w (lane l d) s)) (ack_facts w l d s h).2
  where
    go :
        (b : Bool) → (not b && refund_refused w (packet_at w (lane l d) s)) ≡ false →
        Good (ended (cond b w (refunded w (packet_at w (lane l d) s))) (packet_place w (lane l d) s))
    go true _ = good_ended w (packet_place w (lane l d) s) (ack_facts w l d s h).0.place_in g
    go false r =
        good_ended (refunded w (packet_at w (lane l d) s)) (packet_place w (lane l d) s) (ack_facts w l d s h).0.place_in
        (good_refunded w (packet_at w (lane l d) s) g (sound_at w (lane l d) s g (ack_facts w l d s h).0) r)
good_outcome w (timeout l d s) g h =
    let f = timeout_facts w l d s h in
    let i = lane l d in
    let p = packet_at w i s in
    let r = good_ended (refunded w p) (packet_place w i s) f.0.place_in (good_refunded w p g (sound_at w i s g f.0) f.2) in
    record { idle = r.idle; blank = r.blank; wired = r.wired; traced = r.traced; sound = r.sound; numbered = r.numbered }
good_outcome w (tick c n) g h =
    record { idle = g.idle; blank = g.blank; wired = g.wired; traced = g.traced; sound = g.sound; numbered = g.numbered }
good_outcome w (bar c u) g h =
    record { idle = g.idle; blank = g.blank; wired = g.wired; traced = g.traced; sound = g.sound; numbered = g.numbered }
good_outcome w (unbar c u) g h =
    record { idle = g.idle; blank = g.blank; wired = g.wired; traced = g.traced; sound = g.sound; numbered = g.numbered }
good_outcome w (home c e) g h = g

-- accepted or refused
pub good_step : (w : World) (c : Call) → Good w → Good (step w c).0
good_step w c g = step_by w c (λ r. Good r.0) (λ _. g) (good_outcome w c g)

-- at every moment
pub good_world : (l : Ledger) (bs : Bool → Book) (past : List Call) → Good (world l bs past)
good_world l bs [] = good_made l bs
good_world l bs (c ∷ past) = good_step (world l bs past) c (good_world l bs past)

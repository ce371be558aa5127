-- The three parts together, with open packets told by what has happened.
use Rattle.std.proofs.Common.{◌≡◌, ℕ, ◌+◌, ◌<◌, ◌≤◌, Bool, true, false, cond, not, ◌&&◌, eqb, ◌≢◌, List, [], ◌∷◌, ◌++◌, map, length, get_or, set, sym, refl, ap, ◌∙◌, ap₂, ⊎_elim, arith}
use Rattle.std.proofs.lemmas.List.{append-nil, map_push, map-set, set-get_or, get_or-map}
use Rattle.std.proofs.lemmas.Bool.{lt-ltb, cases_Bool, eq-eqb, ne_eqb}
use Rattle.sums.specs.Sums.{gate, total}
use Rattle.denom.specs.Denomination.{same_denom, came_by, Denom, behind}
use Rattle.protocol.specs.House.{escrow_account}
use Rattle.protocol.specs.Ledger.{Ledger}
use Rattle.protocol.specs.Book.{Book, is_one}
use Rattle.protocol.specs.World.{number, escrow, no_denom, from_end, Packet, World, is_open, open_packets, on_lane_with, of_token, back, to_end, lane, mark_at}
use Rattle.protocol.specs.Calls.{Answer, done, says, Call, open_link, issue, retire, pay, send, receive, ack, timeout, tick, bar, unbar, home, refusals, outcome, no_packet, no_more_standing, ended, mark_written, refunded, packet_place, packet_at, arrival_mark, sent_packet}
use Rattle.protocol.specs.Audit.{denom_at, escrow_held, vouchers, escrow_open}
use Rattle.protocol.specs.Laws.{Within, Backed, SupplyAccounted, world, answer, sent_if, all_sent, Conservation, settlements, open_after}
use Rattle.protocol.proofs.Sums.{total_same}
use Rattle.protocol.proofs.Places.{place_first, place_hit, same_denom_refl, same_denom_true}
use Rattle.protocol.proofs.Homes.{length_ends}
use Rattle.protocol.proofs.Views.{Clear, step_by, ack_facts, timeout_facts}
use Rattle.protocol.proofs.Moves.{arrival_by}
use Rattle.protocol.proofs.Tokens.{tokens_conserved}
use Rattle.protocol.proofs.Backing.{backed_world}
use Rattle.protocol.proofs.Supply.{supply_is}
use Rattle.protocol.proofs.Events.{tells_world, settled_once}
use Rattle.protocol.proofs.Unlocked.{unlocked_world}
use Rattle.protocol.proofs.Counts.{bounded}

-- not settled is open
told : (b : Bool) (n : ℕ) → n ≡ gate (not b) 1 → eqb n 0 ≡ b
told true n h = eq-eqb n 0 h
told false n h = ne_eqb n 0 (λ e. omega arith)

-- the world's packets are the sent ones, but for their standing

module _ (w : World) where
  -- a call adds the packet that its answer tells
  abbrev Adds : Call → World × Answer → Type 0
  Adds c r =
      map no_more_standing r.0.packets ≡ map no_more_standing w.packets ++ sent_if w.links c r.1

  -- no packet
  none_added : map no_more_standing w.packets ≡ map no_more_standing w.packets ++ []
  none_added = sym (append-nil (map no_more_standing w.packets))

  -- a packet that ends is the same but for its standing
  ended_adds :
      (q : ℕ) → q < length w.packets →
      map no_more_standing (set w.packets q (no_more_standing (get_or w.packets q no_packet))) ≡
      map no_more_standing w.packets ++ []
  ended_adds q l =
      map-set no_more_standing w.packets q (no_more_standing (get_or w.packets q no_packet)) ∙
      ap (set (map no_more_standing w.packets) q) (sym (get_or-map no_more_standing w.packets q no_packet no_packet l)) ∙
      set-get_or (map no_more_standing w.packets) q no_packet ∙
      none_added

  -- every call
  adds_outcome : (c : Call) → Clear (refusals w c) → Adds c (outcome w c)
  adds_outcome (open_link a b k) h = none_added
  adds_outcome (issue c u s n) h = none_added
  adds_outcome (retire c u e n) h = none_added
  adds_outcome (pay c u v e n) h = none_added
  adds_outcome (send c k u v e n t) h = map_push no_more_standing w.packets (sent_packet w c k u v e n t)
  adds_outcome (receive l d s) h =
      let p = packet_at w (lane l d) s in
      arrival_by w p (λ x. Adds (receive l d s) (mark_written x (lane l d) s (arrival_mark w p), says (arrival_mark w p)))
      (λ _. none_added) (λ _ _. none_added) (λ _ _. none_added)
  adds_outcome (ack l d s) h = go (is_one (mark_at w (lane l d) s))
    where
      go :
          (b : Bool) →
          Adds (ack l d s) (ended (cond b w (refunded w (packet_at w (lane l d) s))) (packet_place w (lane l d) s), done)
      go true = ended_adds (packet_place w (lane l d) s) (ack_facts w l d s h).0.place_in
      go false = ended_adds (packet_place w (lane l d) s) (ack_facts w l d s h).0.place_in
  adds_outcome (timeout l d s) h = ended_adds (packet_place w (lane l d) s) (timeout_facts w l d s h).0.place_in
  adds_outcome (tick c n) h = none_added
  adds_outcome (bar c u) h = none_added
  adds_outcome (unbar c u) h = none_added
  adds_outcome (home c e) h = none_added

-- at every moment
pub packets_are_sent :
    (l : Ledger) (bs : Bool → Book) (past : List Call) →
    map no_more_standing (world l bs past).packets ≡ all_sent l bs past
packets_are_sent l bs [] = refl
packets_are_sent l bs (c ∷ past) =
    let w = world l bs past in
    step_by w c (Adds w c) (λ _. none_added w) (adds_outcome w c) ∙
    ap (λ (ps : List Packet). ps ++ sent_if w.links c (answer l bs c past)) (packets_are_sent l bs past)

-- a total over packets without their standing
total_map : (f : Packet → ℕ) (ps : List Packet) → total f (map no_more_standing ps) ≡ total (λ p. f (no_more_standing p)) ps
total_map f [] = refl
total_map f (p ∷ ps) = ap (λ n. f (no_more_standing p) + n) (total_map f ps)

-- open by what has happened is open by standing and mark, for any test that does not look at the standing
pub open_is :
    (l : Ledger) (bs : Bool → Book) (past : List Call) (test : Packet → Bool) →
    ((p : Packet) → test (no_more_standing p) ≡ test p) →
    open_after l bs past test ≡ open_packets (world l bs past) test
open_is l bs past test blind =
    let w = world l bs past in
    let f : Packet → ℕ = λ p. gate (eqb (settlements l bs p.lane p.sequence past) 0 && test p) p.amount in
    ap (total f) (sym (packets_are_sent l bs past)) ∙
    total_map f w.packets ∙
    total_same (λ p. f (no_more_standing p)) (λ p. gate (is_open w p && test p) p.amount) w.packets no_packet
    (λ j h.
    let p = get_or w.packets j no_packet in
    ap₂ (λ b t. gate (b && t) p.amount) (told (is_open w p) (settlements l bs p.lane p.sequence past) ((tells_world l bs past).0 j h).0) (blind p))

-- the law of escrow at an end of a link, its lane within the ends
backed_lane :
    (l : Ledger) (bs : Bool → Book) (past : List Call) (L D : ℕ) (e : Denom) → L < length (world l bs past).links → D ≤ 1 →
    came_by (from_end (world l bs past).links (lane L D)).channel e ≡ false →
    Backed (world l bs past) (open_packets (world l bs past)) (lane L D) e
backed_lane l bs past L D e hl hd nb =
    backed_world l bs past (lane L D) e (omega (arith, length_ends (world l bs past).links)) nb

-- conservation
pub conservation : Conservation
conservation l bs =
    record {
      backed = λ past L D e hl hd nb.
          let w = world l bs past in
          let i = lane L D in
          omega (
            arith,
            backed_lane l bs past L D e hl hd nb,
            open_is l bs past (on_lane_with i e) (λ p. refl),
            open_is l bs past (on_lane_with (back i) (behind (to_end w.links i).channel e)) (λ p. refl),
          );
      moved = λ t later past.
          omega (
            arith,
            tokens_conserved l bs t later past,
            open_is l bs past (of_token (world l bs past) t) (λ p. refl),
            open_is l bs (later ++ past) (of_token (world l bs (later ++ past)) t) (λ p. refl),
          );
      once = settled_once l bs;
    }

-- a denomination with number d is found under d
number_is :
    (w : World) (c d : ℕ) → Within w → d < length (w.register c) → number w c (get_or (w.register c) d no_denom) ≡ d
number_is w c d f l =
    let e = get_or (w.register c) d no_denom in
    let le = place_first (same_denom e) (w.register c) d no_denom l (same_denom_refl e) in
    let lt : number w c e < length (w.register c) = omega arith in
    let is = same_denom_true e (get_or (w.register c) (number w c e) no_denom) (place_hit (same_denom e) (w.register c) no_denom lt) in
    f.denoms_differ c (number w c e) d lt l (sym is)

-- so the ledger's own figure under d is its escrow
escrow_is :
    (w : World) (L D d : ℕ) → Within w → d < length (w.register (from_end w.links (lane L D)).chain) →
    escrow w (from_end w.links (lane L D)).chain (from_end w.links (lane L D)).channel (denom_at w L D d) ≡
    escrow_held w L D d
escrow_is w L D d f l =
    let c = (from_end w.links (lane L D)).chain in
    let k = (from_end w.links (lane L D)).channel in
    let n = number_is w c d f l in
    ap₂ (λ x y. gate x (w.ledger.balance c (escrow_account k) y)) (lt-ltb (number w c (denom_at w L D d)) (length (w.register c)) (omega arith)) n

-- a line of escrow is of a denomination that did not come by that end's channel, so the law applies
escrow_line_adds :
    (l : Ledger) (bs : Bool → Book) (past : List Call) (L D d : ℕ) →
    let w = world l bs past in
    L < length w.links → D ≤ 1 → d < length (w.register (from_end w.links (lane L D)).chain) →
    escrow_held w L D d ≢ 0 → escrow_held w L D d ≡ vouchers w L D d + escrow_open w L D d
escrow_line_adds l bs past L D d hl hd in' some =
    let w = world l bs past in
    let near = from_end w.links (lane L D) in
    ⊎_elim
    (λ came. absurd (some (unlocked_world l bs past near.chain near.channel d in' came)))
    (λ not_back. omega (arith, backed_lane l bs past L D (denom_at w L D d) hl hd not_back, escrow_is w L D d (bounded l bs past) in'))
    (cases_Bool (came_by near.channel (denom_at w L D d)))

-- what is issued is accounted for
pub supply_accounted : SupplyAccounted
supply_accounted l bs =
    record {
      supplied = λ past t.
          omega (arith, supply_is l bs past t, open_is l bs past (of_token (world l bs past) t) (λ p. refl));
      token_adds_up = supply_is l bs;
      escrow_adds_up = escrow_line_adds l bs;
      escrow_backs = backed_lane l bs;
    }

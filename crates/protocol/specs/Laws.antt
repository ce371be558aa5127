-- Laws of every past of a world: conservation, the supply accounted for, the house's bounds, refusals in order.
use Rattle.std.specs.Prelude.{◌≡◌, ℕ, ◌+◌, ◌<◌, ◌≤◌, Bool, true, false, not, ◌&&◌, ◌||◌, ◌≢◌, ◌↔◌, List, [], ◌∷◌, ◌++◌, length, get_or, ◌==◌, nat_eq, nat_lt, slice_index_or}
use Rattle.sums.specs.Sums.{gate, total}
use Rattle.denom.specs.Denomination.{Denom, Token, same_list, hopless, behind, came_by}
use Rattle.denom.specs.Text.{is_denom, is_symbol}
use Rattle.protocol.specs.House.{most, chains_most, links_most, packets_most, tokens_most, channels_most, denoms_most, users}
use Rattle.protocol.specs.Refusals.{Refusal, ◌when◌}
use Rattle.protocol.specs.Ledger.{Ledger, Lawful}
use Rattle.protocol.specs.Book.{Book}
use Rattle.protocol.specs.World.{Link, Packet, World, made, lane, from_end, to_end, back, ends, escrow, supply_of, open_packets, on_lane_with, of_token, held, lane_out, is_open, no_denom}
use Rattle.protocol.specs.Audit.{token_supply, token_open, escrow_held, vouchers, escrow_open}
use Rattle.protocol.specs.Calls.{Call, open_link, issue, retire, pay, send, receive, ack, timeout, tick, bar, unbar, home, Answer, done, says, home_is, no, step, refusals, packet_at, no_packet, token_at}

-- A past is the list of the calls made so far, the latest first, accepted or refused. A world's moment is that after a past.
module _ (l : Ledger) (bs : Bool → Book) where
  -- the world after a past
  abbrev pub world : List Call → World
  world [] = made l bs
  world (c ∷ past) = (step (world past) c).0

  -- what a call answers after a past
  abbrev pub answer : Call → List Call → Answer
  answer c past = (step (world past) c).1

-- accepted, with or without something to tell
abbrev pub accepted : Answer → Bool
accepted done = true
accepted (says n) = true
accepted (home_is t) = true
accepted (no n) = false

-- accepted, with a number that passes the test
abbrev pub answered : Answer → (ℕ → Bool) → Bool
answered done test = false
answered (says m) test = test m
answered (home_is t) test = false
answered (no n) test = false

-- Issues and retirements

-- what a call would issue of a token
abbrev pub issues : Token → Call → ℕ
issues t (issue c u s n) = gate (c == t.chain && same_list s t.symbol) n
issues t (open_link a b k) = 0
issues t (retire c u e n) = 0
issues t (pay c u v e n) = 0
issues t (send c k u v e n T) = 0
issues t (receive l d s) = 0
issues t (ack l d s) = 0
issues t (timeout l d s) = 0
issues t (tick c n) = 0
issues t (bar c u) = 0
issues t (unbar c u) = 0
issues t (home c e) = 0

-- what a call would retire of a token
abbrev pub retires : Token → Call → ℕ
retires t (retire c u e n) = gate (c == t.chain && same_list e.symbol t.symbol) n
retires t (open_link a b k) = 0
retires t (issue c u s n) = 0
retires t (pay c u v e n) = 0
retires t (send c k u v e n T) = 0
retires t (receive l d s) = 0
retires t (ack l d s) = 0
retires t (timeout l d s) = 0
retires t (tick c n) = 0
retires t (bar c u) = 0
retires t (unbar c u) = 0
retires t (home c e) = 0

module _ (l : Ledger) (bs : Bool → Book) (t : Token) where
  -- the accepted issues of the token in the calls `later` that follow on `past`
  abbrev pub issued : List Call → List Call → ℕ
  issued [] past = 0
  issued (c ∷ later) past = issued later past + gate (accepted (answer l bs c (later ++ past))) (issues t c)

  -- the accepted retirements
  abbrev pub retired : List Call → List Call → ℕ
  retired [] past = 0
  retired (c ∷ later) past = retired later past + gate (accepted (answer l bs c (later ++ past))) (retires t c)

-- The calls about the packet of lane i with sequence s

-- a receive of it
abbrev pub receives : ℕ → ℕ → Call → Bool
receives i s (receive l d r) = lane l d == i && r == s
receives i s (open_link a b k) = false
receives i s (issue c u y n) = false
receives i s (retire c u e n) = false
receives i s (pay c u v e n) = false
receives i s (send c k u v e n t) = false
receives i s (ack l d r) = false
receives i s (timeout l d r) = false
receives i s (tick c n) = false
receives i s (bar c u) = false
receives i s (unbar c u) = false
receives i s (home c e) = false

-- an ack of it
abbrev pub acks : ℕ → ℕ → Call → Bool
acks i s (ack l d r) = lane l d == i && r == s
acks i s (open_link a b k) = false
acks i s (issue c u y n) = false
acks i s (retire c u e n) = false
acks i s (pay c u v e n) = false
acks i s (send c k u v e n t) = false
acks i s (receive l d r) = false
acks i s (timeout l d r) = false
acks i s (tick c n) = false
acks i s (bar c u) = false
acks i s (unbar c u) = false
acks i s (home c e) = false

-- a timeout of it
abbrev pub times_out : ℕ → ℕ → Call → Bool
times_out i s (timeout l d r) = lane l d == i && r == s
times_out i s (open_link a b k) = false
times_out i s (issue c u y n) = false
times_out i s (retire c u e n) = false
times_out i s (pay c u v e n) = false
times_out i s (send c k u v e n t) = false
times_out i s (receive l d r) = false
times_out i s (ack l d r) = false
times_out i s (tick c n) = false
times_out i s (bar c u) = false
times_out i s (unbar c u) = false
times_out i s (home c e) = false

-- its good receipt: an accepted receive that answers 1
abbrev pub good_receipt : ℕ → ℕ → Call → Answer → Bool
good_receipt i s c a = receives i s c && answered a (λ m. nat_eq m 1)

-- an accepted receive that answers another mark
abbrev pub bad_receipt : ℕ → ℕ → Call → Answer → Bool
bad_receipt i s c a = receives i s c && answered a (λ m. not (m == 1))

-- its refund: an accepted timeout, or an accepted ack after a receive that answered another mark
abbrev pub refund : ℕ → ℕ → Call → Answer → Bool → Bool
refund i s c a after-bad = accepted a && (times_out i s c || (acks i s c && after-bad))

module _ (l : Ledger) (bs : Bool → Book) (i s : ℕ) where
  -- how many good receipts a past has
  abbrev pub good_receipts : List Call → ℕ
  good_receipts [] = 0
  good_receipts (c ∷ past) = good_receipts past + gate (good_receipt i s c (answer l bs c past)) 1

  -- whether it was received with another mark
  abbrev pub badly_received : List Call → Bool
  badly_received [] = false
  badly_received (c ∷ past) = badly_received past || bad_receipt i s c (answer l bs c past)

  -- how many refunds
  abbrev pub refunds : List Call → ℕ
  refunds [] = 0
  refunds (c ∷ past) = refunds past + gate (refund i s c (answer l bs c past) (badly_received past)) 1

  -- how often it was settled, well or by a refund
  abbrev pub settlements : List Call → ℕ
  settlements past = good_receipts past + refunds past

-- The packets sent, told by the accepted sends

-- the packet of a send that answered s: the lane that its channel leads out by, and the call's words (no word on its standing)
abbrev pub sent_with : List Link → Call → ℕ → List Packet
sent_with ls (send c k u v e n t) s =
    record {
      lane = lane_out ls c k;
      sequence = s;
      sender = u;
      receiver = v;
      denom = e;
      amount = n;
      timeout = t;
      standing = false;
    }
    ∷ []
sent_with ls (open_link a b k) s = []
sent_with ls (issue c u y n) s = []
sent_with ls (retire c u e n) s = []
sent_with ls (pay c u v e n) s = []
sent_with ls (receive l d r) s = []
sent_with ls (ack l d r) s = []
sent_with ls (timeout l d r) s = []
sent_with ls (tick c n) s = []
sent_with ls (bar c u) s = []
sent_with ls (unbar c u) s = []
sent_with ls (home c e) s = []

-- the packet of a call with this answer
abbrev pub sent_if : List Link → Call → Answer → List Packet
sent_if ls c done = []
sent_if ls c (says s) = sent_with ls c s
sent_if ls c (home_is t) = []
sent_if ls c (no n) = []

module _ (l : Ledger) (bs : Bool → Book) where
  -- all packets that a past has sent
  abbrev pub all_sent : List Call → List Packet
  all_sent [] = []
  all_sent (c ∷ past) = all_sent past ++ sent_if (world l bs past).links c (answer l bs c past)

-- what those of them carry that are open, having been neither well received nor refunded, and pass the test
abbrev pub open_after : (l : Ledger) (bs : Bool → Book) → List Call → (Packet → Bool) → ℕ
open_after l bs past test =
    total (λ p. gate (settlements l bs p.lane p.sequence past == 0 && test p) p.amount) (all_sent l bs past)

-- Figures of a world, where `open` tells what the open packets that pass a test carry

-- what there is of a token: what users hold under every trace on every chain, and its open packets
abbrev pub there_is : World → ((Packet → Bool) → ℕ) → Token → ℕ
there_is w open-ones t = held w t + open-ones (of_token w t)

-- the escrow of e at the end that lane i leads from equals the supply of e's voucher at the far end, and the link's open
-- packets, outward with e and homeward with the voucher
abbrev pub Backed : World → ((Packet → Bool) → ℕ) → ℕ → Denom → Type 0
Backed w open-ones i e =
    let near = from_end w.links i in
    let far = to_end w.links i in
    let voucher = behind far.channel e in
    escrow w near.chain near.channel e ≡
    supply_of w far.chain voucher + open-ones (on_lane_with i e) + open-ones (on_lane_with (back i) voucher)

-- Conservation, over every past of a world made over any ledger and any two books.
pub record Conserved (l : Ledger) (bs : Bool → Book) : Type 0 where
  -- (a) at every moment, at end D of every link L, in any denomination whose first hop is not that end's channel
  pub backed :
      (past : List Call) (L D : ℕ) (e : Denom) →
      L < length (world l bs past).links →
      D ≤ 1 →
      came_by (from_end (world l bs past).links (lane L D)).channel e ≡ false →
      Backed (world l bs past) (open_after l bs past) (lane L D) e
  -- (b) from any moment to any later one, what there is of a token moves by exactly its accepted issues less its accepted
  -- retirements in between
  pub moved :
      (t : Token) (later past : List Call) →
      there_is (world l bs (later ++ past)) (open_after l bs (later ++ past)) t + retired l bs t later past ≡
      there_is (world l bs past) (open_after l bs past) t + issued l bs t later past
  -- (c) the packet of each accepted send is settled at most once, and not at all exactly while it stands without a mark or with
  -- one other than 1
  pub once :
      (c k u v : ℕ) (e : Denom) (n t s : ℕ) (later past : List Call) →
      answer l bs (send c k u v e n t) past ≡ says s →
      let i = lane_out (world l bs past).links c k in
      let whole = later ++ send c k u v e n t ∷ past in
      let w = world l bs whole in
      (settlements l bs i s whole ≤ 1) × (settlements l bs i s whole ≡ 0 ↔ is_open w (packet_at w i s) ≡ true)

abbrev pub Conservation : Type 0
Conservation = (l : Ledger) (bs : Bool → Book) → Conserved l bs

-- What is issued is accounted for at every moment, and the audit's lines show it.
pub record Accounted (l : Ledger) (bs : Bool → Book) : Type 0 where
  -- a token's supply at home, of its hopless denomination with the escrow accounts, is what there is of the token
  pub supplied :
      (past : List Call) (t : Token) →
      supply_of (world l bs past) t.chain (hopless t.symbol) ≡
      there_is (world l bs past) (open_after l bs past) t
  -- a token's line, with open packets told by standing and mark: SUPPLY = HELD + OPEN
  pub token_adds_up :
      (past : List Call) (t : Token) →
      let w = world l bs past in
      token_supply w t ≡ held w t + token_open w t
  -- a line of escrow: ESCROW = VOUCHERS + OPEN
  pub escrow_adds_up :
      (past : List Call) (L D d : ℕ) →
      let w = world l bs past in
      L < length w.links →
      D ≤ 1 →
      d < length (w.register (from_end w.links (lane L D)).chain) →
      escrow_held w L D d ≢ 0 →
      escrow_held w L D d ≡ vouchers w L D d + escrow_open w L D d
  -- (a) with open packets told by standing and mark, in any denomination, registered or not
  pub escrow_backs :
      (past : List Call) (L D : ℕ) (e : Denom) →
      L < length (world l bs past).links →
      D ≤ 1 →
      came_by (from_end (world l bs past).links (lane L D)).channel e ≡ false →
      Backed (world l bs past) (open_packets (world l bs past)) (lane L D) e

abbrev pub SupplyAccounted : Type 0
SupplyAccounted = (l : Ledger) (bs : Bool → Book) → Accounted l bs

-- refusals in ascending order, all above k
abbrev pub ascending_from : ℕ → List Refusal → Bool
ascending_from k [] = true
ascending_from k ((n when b) ∷ rs) = nat_lt k n && ascending_from n rs

-- The refusals of a call stand in ascending order, so that the first that applies is the one checked first.
abbrev pub RefusalsInOrder : Type 0
RefusalsInOrder = (w : World) (c : Call) → ascending_from 0 (refusals w c) ≡ true

-- A packet within the house's bounds.
pub record PacketIn (w : World) (p : Packet) : Type 0 where
  pub lane_in : p.lane < length (ends w.links)
  pub sequence_least : 1 ≤ p.sequence
  pub sequence_most : p.sequence ≤ packets_most
  pub sender_in : p.sender < users
  pub receiver_in : p.receiver < users
  pub amount_least : 1 ≤ p.amount
  pub amount_most : p.amount ≤ most

-- The house's bounds, the ledger's two laws, and registers without repeats.
pub record Within (w : World) : Type 0 where
  pub lawful : Lawful w.ledger
  pub links : length w.links ≤ links_most
  pub packets : length w.packets ≤ packets_most
  pub tokens : length w.tokens ≤ tokens_most
  pub denoms : (c : ℕ) → length (w.register c) ≤ denoms_most
  -- a register has each key once
  pub denoms_differ :
      (c d d' : ℕ) → d < length (w.register c) → d' < length (w.register c) →
      slice_index_or (w.register c) d no_denom ≡ slice_index_or (w.register c) d' no_denom → d ≡ d'
  pub tokens_differ :
      (q r : ℕ) → q < length w.tokens → r < length w.tokens →
      slice_index_or w.tokens q (token_at 0 []) ≡ slice_index_or w.tokens r (token_at 0 []) → q ≡ r
  -- every token is of one of the world's chains and has a symbol
  pub token_in :
      (q : ℕ) → q < length w.tokens →
      ((get_or w.tokens q (token_at 0 [])).chain < chains_most) × (is_symbol (get_or w.tokens q (token_at 0 [])).symbol ≡ true)
  -- every registered denomination has at most 6 hops, each a channel 0 to 7, and a symbol
  pub denom_in : (c d : ℕ) → d < length (w.register c) → is_denom (slice_index_or (w.register c) d no_denom) ≡ true
  pub heights : (c : ℕ) → w.height c ≤ most
  -- both ends of every link
  pub end_in :
      (i : ℕ) → i < length (ends w.links) →
      ((from_end w.links i).chain < chains_most) × ((from_end w.links i).channel < channels_most)
  pub packet_in : (q : ℕ) → q < length w.packets → PacketIn w (slice_index_or w.packets q no_packet)

abbrev pub Bounded : Type 0
Bounded = (l : Ledger) (bs : Bool → Book) (past : List Call) → Within (world l bs past)

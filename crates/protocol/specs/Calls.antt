-- The calls: for each its refusals in the order of checking, and what it comes to where none applies. A refused call alters
-- nothing.
use Rattle.std.specs.Prelude.{ℕ, suc, ◌+◌, ◌/◌, Bool, true, false, cond, not, ◌&&◌, ◌||◌, ltb, leb, List, [], ◌∷◌, ◌++◌, length, is_some, Some, None, Ok, Err, Option, Result, ◌==◌, nat_eq, nat_le, nat_lt, slice_index_or, slice_set}
use Rattle.sums.specs.Sums.{count}
use Rattle.register.specs.Keys.{place, found}
use Rattle.denom.specs.Denomination.{Denom, Token, same_token, hopless, behind, came_by, stripped}
use Rattle.denom.specs.Text.{is_symbol}
use Rattle.protocol.specs.House.{most, chains_most, links_most, packets_most, tokens_most, channels_most, denoms_most, users, escrow_account, hops_most}
use Rattle.protocol.specs.Refusals.{Refusal, ◌when◌, first}
use Rattle.protocol.specs.Ledger.{Ledger, Balances, with_balances, credited, debited, moved, is_barred, too_small, too_large, credit_refusals, move_refusals, bar_set}
use Rattle.protocol.specs.declared.marks.Mark.TheVariants.{Good, TooManyHops, RegisterFull, LedgerRefused}
use Rattle.protocol.specs.Book.{Book, mark_number, marked, is_one, lower_marked, taken}
use Rattle.protocol.specs.World.{Link, Packet, World, lane, near, far, to_end, end_at, lane_out, in_use, lowest_unused, number, registered, link_kind, book_of, mark_at, home_of}

-- The calls, with their arguments in the order in which they are written.
pub data Call : Type 0 where
  open_link : ℕ → ℕ → Bool → Call
  issue : ℕ → ℕ → List ℕ → ℕ → Call
  retire : ℕ → ℕ → Denom → ℕ → Call
  pay : ℕ → ℕ → ℕ → Denom → ℕ → Call
  send : ℕ → ℕ → ℕ → ℕ → Denom → ℕ → ℕ → Call
  receive : ℕ → ℕ → ℕ → Call
  ack : ℕ → ℕ → ℕ → Call
  timeout : ℕ → ℕ → ℕ → Call
  tick : ℕ → ℕ → Call
  bar : ℕ → ℕ → Call
  unbar : ℕ → ℕ → Call
  home : ℕ → Denom → Call

-- What a call answers: accepted with nothing to tell, with a number, with a home, or refused by a number.
pub data Answer : Type 0 where
  done : Answer
  says : ℕ → Answer
  home_is : Token → Answer
  no : ℕ → Answer

-- a result in these words: how its value is said, and how its fault is numbered
abbrev pub said : {X F : Type 0} → (X → Answer) → (F → ℕ) → Result X F → Answer
said value number (Ok x) = value x
said value number (Err f) = no (number f)

-- A world with one part replaced.

abbrev pub with_ledger : World → Ledger → World
with_ledger w l =
    record { ledger = l; books = w.books; register = w.register; tokens = w.tokens; links = w.links; closed = w.closed; packets = w.packets; height = w.height }

abbrev pub with_bal : World → Balances → World
with_bal w b = with_ledger w (with_balances w.ledger b)

abbrev pub with_books : World → (Bool → Book) → World
with_books w b =
    record { ledger = w.ledger; books = b; register = w.register; tokens = w.tokens; links = w.links; closed = w.closed; packets = w.packets; height = w.height }

abbrev pub with_register : World → (ℕ → List Denom) → World
with_register w r =
    record { ledger = w.ledger; books = w.books; register = r; tokens = w.tokens; links = w.links; closed = w.closed; packets = w.packets; height = w.height }

abbrev pub with_tokens : World → List Token → World
with_tokens w t =
    record { ledger = w.ledger; books = w.books; register = w.register; tokens = t; links = w.links; closed = w.closed; packets = w.packets; height = w.height }

abbrev pub with_links : World → List Link → World
with_links w ls =
    record { ledger = w.ledger; books = w.books; register = w.register; tokens = w.tokens; links = ls; closed = w.closed; packets = w.packets; height = w.height }

abbrev pub with_closed : World → (ℕ → Bool) → World
with_closed w s =
    record { ledger = w.ledger; books = w.books; register = w.register; tokens = w.tokens; links = w.links; closed = s; packets = w.packets; height = w.height }

abbrev pub with_packets : World → List Packet → World
with_packets w ps =
    record { ledger = w.ledger; books = w.books; register = w.register; tokens = w.tokens; links = w.links; closed = w.closed; packets = ps; height = w.height }

abbrev pub with_height : World → (ℕ → ℕ) → World
with_height w h =
    record { ledger = w.ledger; books = w.books; register = w.register; tokens = w.tokens; links = w.links; closed = w.closed; packets = w.packets; height = h }

-- Words of the refusals

-- a chain that the ledger serves and a world has
abbrev pub served : World → ℕ → Bool
served w c = nat_lt c w.ledger.chains && nat_lt c chains_most

-- the token that chain c issues under symbol s
abbrev pub token_at : ℕ → List ℕ → Token
token_at c s = record { chain = c; symbol = s }

-- whether a token is in the world's register
abbrev pub token_known : World → Token → Bool
token_known w t = found (same_token t) w.tokens

-- whether direction d of link l is there
abbrev pub opened : World → ℕ → ℕ → Bool
opened w l d = nat_lt l (length w.links) && nat_le d 1

-- timeout height t is not 0 nor above the height of the chain that the lane leads to
abbrev pub passed : World → ℕ → ℕ → Bool
passed w i t = not (t == 0) && nat_le t (w.height (to_end w.links i).chain)

-- the place of the packet of a lane and a sequence
abbrev pub packet_place : World → ℕ → ℕ → ℕ
packet_place w i s = place (λ p. (p.lane == i) && p.sequence == s) w.packets

-- whether there is one
abbrev pub has_packet : World → ℕ → ℕ → Bool
has_packet w i s = nat_lt (packet_place w i s) (length w.packets)

-- what is read where there is no packet
abbrev pub no_packet : Packet
no_packet =
    record { lane = 0; sequence = 0; sender = 0; receiver = 0; denom = hopless []; amount = 0; timeout = 0; standing = false }

-- the packet of a lane and a sequence
abbrev pub packet_at : World → ℕ → ℕ → Packet
packet_at w i s = slice_index_or w.packets (packet_place w i s) no_packet

-- whether a lower sequence of the lane stands
abbrev pub lower_stands : World → ℕ → ℕ → Bool
lower_stands w i s = found (λ p. (p.lane == i) && nat_lt p.sequence s && p.standing) w.packets

-- whether one of the refusals applies
abbrev pub refused : List Refusal → Bool
refused rs = is_some (first rs)

-- What a call changes

-- e gets the next number of the chain's register, unless it has one
abbrev pub enrolled : World → ℕ → Denom → World
enrolled w c e =
    with_register w (λ c'. cond (c' == c && not (registered w c e)) (w.register c' ++ e ∷ []) (w.register c'))

-- a token goes into the register, unless it is there
abbrev pub token_enrolled : World → Token → World
token_enrolled w t = with_tokens w (cond (token_known w t) w.tokens (w.tokens ++ t ∷ []))

-- a packet is recorded behind those sent before
abbrev pub recorded : World → Packet → World
recorded w p = with_packets w (w.packets ++ p ∷ [])

-- a packet that no longer stands
abbrev pub no_more_standing : Packet → Packet
no_more_standing p =
    record { lane = p.lane; sequence = p.sequence; sender = p.sender; receiver = p.receiver; denom = p.denom; amount = p.amount; timeout = p.timeout; standing = false }

-- the packet at this place no longer stands
abbrev pub ended : World → ℕ → World
ended w q = with_packets w (slice_set w.packets q (no_more_standing (slice_index_or w.packets q no_packet)))

-- the same kind of link
abbrev pub same_kind : Bool → Bool → Bool
same_kind true k = k
same_kind false k = not k

-- mark m is written at lane i and sequence s, into the book that serves the lane's link
abbrev pub mark_written : World → ℕ → ℕ → ℕ → World
mark_written w i s m =
    with_books w (λ k. cond (same_kind k (link_kind w i)) (taken (w.books k) i s m) (w.books k))

-- By the channel by which it came a denomination is burnt; by any other it goes into that channel's escrow.
abbrev pub sent_off : World → ℕ → ℕ → ℕ → Denom → ℕ → Balances
sent_off w c k u e n =
    cond
    (came_by k e)
    (debited w.ledger.balance c u (number w c e) n)
    (moved w.ledger.balance c u (escrow_account k) (number w c e) n)

-- the lane's next sequence, from 1 on
abbrev pub next_sequence : World → ℕ → ℕ
next_sequence w i = suc (count (λ p. nat_eq p.lane i) w.packets)

-- the packet that a send records
abbrev pub sent_packet : World → ℕ → ℕ → ℕ → ℕ → Denom → ℕ → ℕ → Packet
sent_packet w c k u v e n t =
    record {
      lane = lane_out w.links c k;
      sequence = next_sequence w (lane_out w.links c k);
      sender = u;
      receiver = v;
      denom = e;
      amount = n;
      timeout = t;
      standing = true;
    }

-- What the receiving chain makes of a packet. One that came in by the near channel goes home without that hop, out of the far
-- channel's escrow; any other gets the far channel in front, and the receiver is credited.

-- Its mark. A chain that does not know what comes home has nothing to move, as if its ledger refused.
abbrev pub arrival_mark : World → Packet → ℕ
arrival_mark w p =
    let c = (far w p).chain in
    let j = (far w p).channel in
    let freed = stripped p.denom in
    let voucher = behind j p.denom in
    cond
    (came_by (near w p).channel p.denom)
    (cond
    (not (registered w c freed) || refused (move_refusals w.ledger c (escrow_account j) p.receiver (number w c freed) p.amount))
    (mark_number LedgerRefused)
    (mark_number Good))
    (cond
    (nat_le hops_most (length p.denom.hops))
    (mark_number TooManyHops)
    (cond
    (not (registered w c voucher) && nat_le denoms_most (length (w.register c)))
    (mark_number RegisterFull)
    (cond
    (refused (credit_refusals w.ledger c p.receiver (number w c voucher) p.amount))
    (mark_number LedgerRefused)
    (mark_number Good))))

-- the world in which the receiver has the amount, where that mark is good
abbrev pub delivered : World → Packet → World
delivered w p =
    let c = (far w p).chain in
    let j = (far w p).channel in
    let freed = stripped p.denom in
    let voucher = behind j p.denom in
    cond
    (came_by (near w p).channel p.denom)
    (with_bal w (moved w.ledger.balance c (escrow_account j) p.receiver (number w c freed) p.amount))
    (with_bal (enrolled w c voucher) (credited w.ledger.balance c p.receiver (number w c voucher) p.amount))

-- A refund undoes the send: what was burnt is credited, what went into escrow is moved back.

-- whether the ledger refuses it, or the chain does not know the denomination
abbrev pub refund_refused : World → Packet → Bool
refund_refused w p =
    let c = (near w p).chain in
    let k = (near w p).channel in
    let d = number w c p.denom in
    not (registered w c p.denom)
    || cond
    (came_by k p.denom)
    (refused (credit_refusals w.ledger c p.sender d p.amount))
    (refused (move_refusals w.ledger c (escrow_account k) p.sender d p.amount))

-- the world in which the sender has it back
abbrev pub refunded : World → Packet → World
refunded w p =
    let c = (near w p).chain in
    let k = (near w p).channel in
    let d = number w c p.denom in
    with_bal
    w
    (cond
    (came_by k p.denom)
    (credited w.ledger.balance c p.sender d p.amount)
    (moved w.ledger.balance c (escrow_account k) p.sender d p.amount))

-- The refusals that concern each call, in the order of checking.
abbrev pub refusals : World → Call → List Refusal
refusals w (open_link a b k) =
    6 when (not (served w a) || not (served w b))
    ∷ 7 when nat_eq a b
    ∷ 8 when leb links_most (length w.links)
    ∷ 9 when (nat_le channels_most (lowest_unused w.links a) || nat_le channels_most (lowest_unused w.links b))
    ∷ []
refusals w (issue c u s n) =
    5 when not (is_symbol s)
    ∷ 6 when not (served w c)
    ∷ 12 when leb users u
    ∷ 13 when nat_eq n 0
    ∷ 23 when ((not (token_known w (token_at c s)) && nat_le tokens_most (length w.tokens)) || (not (registered w c (hopless s)) && nat_le denoms_most (length (w.register c))))
    ∷ 33 when too_large w.ledger.balance c (number w c (hopless s)) n
    ∷ []
refusals w (retire c u e n) =
    6 when not (served w c)
    ∷ 12 when leb users u
    ∷ 13 when nat_eq n 0
    ∷ 14 when not (registered w c e)
    ∷ 15 when ltb 0 (length e.hops)
    ∷ 31 when is_barred w.ledger c u
    ∷ 32 when too_small w.ledger.balance c u (number w c e) n
    ∷ []
refusals w (pay c u v e n) =
    6 when not (served w c)
    ∷ 12 when (nat_le users u || nat_le users v)
    ∷ 13 when nat_eq n 0
    ∷ 14 when not (registered w c e)
    ∷ 31 when is_barred w.ledger c u
    ∷ 32 when too_small w.ledger.balance c u (number w c e) n
    ∷ []
refusals w (send c k u v e n t) =
    6 when not (served w c)
    ∷ 10 when not (in_use w.links c k)
    ∷ 12 when (nat_le users u || nat_le users v)
    ∷ 13 when nat_eq n 0
    ∷ 14 when not (registered w c e)
    ∷ 16 when w.closed (lane_out w.links c k / 2)
    ∷ 17 when passed w (lane_out w.links c k) t
    ∷ 22 when leb packets_most (length w.packets)
    ∷ 31 when is_barred w.ledger c u
    ∷ 32 when too_small w.ledger.balance c u (number w c e) n
    ∷ []
refusals w (receive l d s) =
    11 when not (opened w l d)
    ∷ 16 when w.closed l
    ∷ 18 when not (has_packet w (lane l d) s)
    ∷ 19 when not (packet_at w (lane l d) s).standing
    ∷ 20 when passed w (lane l d) (packet_at w (lane l d) s).timeout
    ∷ 25 when marked (book_of w (lane l d)) (lane l d) s
    ∷ 26 when ((book_of w (lane l d)).strict && not (lower_marked (book_of w (lane l d)) (lane l d) s))
    ∷ []
refusals w (ack l d s) =
    11 when not (opened w l d)
    ∷ 18 when not (has_packet w (lane l d) s)
    ∷ 19 when not (packet_at w (lane l d) s).standing
    ∷ 27 when not (marked (book_of w (lane l d)) (lane l d) s)
    ∷ 29 when ((book_of w (lane l d)).strict && lower_stands w (lane l d) s)
    ∷ 34 when (not (is_one (mark_at w (lane l d) s)) && refund_refused w (packet_at w (lane l d) s))
    ∷ []
refusals w (timeout l d s) =
    11 when not (opened w l d)
    ∷ 18 when not (has_packet w (lane l d) s)
    ∷ 19 when not (packet_at w (lane l d) s).standing
    ∷ 21 when (not (w.closed l) && not (passed w (lane l d) (packet_at w (lane l d) s).timeout))
    ∷ 28 when marked (book_of w (lane l d)) (lane l d) s
    ∷ 34 when refund_refused w (packet_at w (lane l d) s)
    ∷ []
refusals w (tick c n) = 6 when not (served w c) ∷ 13 when nat_eq n 0 ∷ 24 when ltb most (w.height c + n) ∷ []
refusals w (bar c u) = 6 when not (served w c) ∷ 12 when leb users u ∷ 30 when not (w.ledger.serves_bars c) ∷ []
refusals w (unbar c u) = 6 when not (served w c) ∷ 12 when leb users u ∷ 30 when not (w.ledger.serves_bars c) ∷ []
refusals w (home c e) = 6 when not (served w c) ∷ 14 when not (registered w c e) ∷ []

-- What each comes to where none of them applies: the world, and the answer.
abbrev pub outcome : World → Call → World × Answer
outcome w (open_link a b k) = (
  with_links
      w
      (w.links ++ record { end₀ = end_at a (lowest_unused w.links a); end₁ = end_at b (lowest_unused w.links b); kind = k } ∷ []),
  says (length w.links),
)
outcome w (issue c u s n) = (
  with_bal
      (token_enrolled (enrolled w c (hopless s)) (token_at c s))
      (credited w.ledger.balance c u (number w c (hopless s)) n),
  done,
)
outcome w (retire c u e n) = (with_bal w (debited w.ledger.balance c u (number w c e) n), done)
outcome w (pay c u v e n) = (with_bal w (moved w.ledger.balance c u v (number w c e) n), done)
outcome w (send c k u v e n t) = (
  recorded (with_bal w (sent_off w c k u e n)) (sent_packet w c k u v e n t),
  says (next_sequence w (lane_out w.links c k)),
)
outcome w (receive l d s) =
    let p = packet_at w (lane l d) s in
    let m = arrival_mark w p in
    (mark_written (cond (m == 1) (delivered w p) w) (lane l d) s m, says m)
outcome w (ack l d s) =
    let p = packet_at w (lane l d) s in
    (ended (cond (is_one (mark_at w (lane l d) s)) w (refunded w p)) (packet_place w (lane l d) s), done)
outcome w (timeout l d s) =
    let p = packet_at w (lane l d) s in (
      with_closed
          (ended (refunded w p) (packet_place w (lane l d) s))
          (λ l'. w.closed l' || (l' == l && (book_of w (lane l d)).strict)),
      done,
    )
outcome w (tick c n) = (with_height w (λ c'. cond (c' == c) (w.height c + n) (w.height c')), done)
outcome w (bar c u) = (with_ledger w (bar_set w.ledger c u true), done)
outcome w (unbar c u) = (with_ledger w (bar_set w.ledger c u false), done)
outcome w (home c e) = (w, home_is (home_of w.links c e))

-- the world as it was and the number of the refusal, or what an accepted call comes to
abbrev pub settled_by : Option ℕ → World → World × Answer → World × Answer
settled_by None w accepted = accepted
settled_by (Some n) w accepted = (w, no n)

-- A call is refused by the first refusal that applies, and then alters nothing; else it comes to its outcome.
abbrev pub step : World → Call → World × Answer
step w c = settled_by (first (refusals w c)) w (outcome w c)

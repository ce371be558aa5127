-- What a world means: its parts, and the questions that calls, laws and audits ask of it.
use Rattle.std.specs.Prelude.{ℕ, zero, suc, ◌+◌, ◌-◌, ◌*◌, ◌/◌, ◌%◌, Bool, true, false, cond, not, ◌&&◌, List, [], ◌∷◌, length, get_or, Option, ◌==◌, slice_index_or}
use Rattle.sums.specs.Sums.{sum_below, total, gate}
use Rattle.register.specs.Keys.{place, found}
use Rattle.denom.specs.Denomination.{Denom, Token, same_denom, same_token, hopless}
use Rattle.protocol.specs.declared.link_kind.LinkKind.{LinkKind}
use Rattle.protocol.specs.declared.link_kind.LinkKind.TheVariants.{Free, Strict}
use Rattle.protocol.specs.House.{chains_most, channels_most, escrow_account}
use Rattle.protocol.specs.Ledger.{Ledger, supply, users_hold, cleared}
use Rattle.protocol.specs.Book.{Book, is_one, wiped}

-- a kind of link as it is kept below: true for strict
abbrev pub is_strict : LinkKind → Bool
is_strict Free = false
is_strict Strict = true

-- an end of a link: a channel of a chain
pub record End : Type 0 where
  pub chain : ℕ
  pub channel : ℕ

pub record Link : Type 0 where
  pub end₀ : End
  pub end₁ : End
  pub kind : Bool  -- true: it was opened as strict

pub record Packet : Type 0 where
  pub lane : ℕ
  pub sequence : ℕ
  pub sender : ℕ
  pub receiver : ℕ
  pub denom : Denom  -- as the sending chain has it
  pub amount : ℕ
  pub timeout : ℕ  -- the timeout height, 0 for none
  pub standing : Bool

pub record World : Type 0 where
  pub ledger : Ledger
  pub books : Bool → Book  -- by the kind of link that each serves
  pub register : ℕ → List Denom  -- each chain's denominations, by number
  pub tokens : List Token
  pub links : List Link
  pub closed : ℕ → Bool  -- of a link
  pub packets : List Packet  -- in the order of their sending
  pub height : ℕ → ℕ  -- of a chain

-- a world as it is made over a ledger and two books: these are cleared, and there is nothing else
abbrev pub made : Ledger → (Bool → Book) → World
made l bs =
    record {
      ledger = cleared l;
      books = λ k. wiped (bs k);
      register = λ _. [];
      tokens = [];
      links = [];
      closed = λ _. false;
      packets = [];
      height = λ _. 0;
    }

-- Links. Lane 2 L + D leads from end D of link L, so that the lanes are the places of the ends in `ends`.

-- the same chain and the same channel
abbrev pub same_end : End → End → Bool
same_end e f = e.chain == f.chain && e.channel == f.channel

-- channel k of chain c
abbrev pub end_at : ℕ → ℕ → End
end_at c k = record { chain = c; channel = k }

-- what is read where there is no end
abbrev pub no_end : End
no_end = end_at 0 0

-- what is read where there is no link
abbrev pub no_link : Link
no_link = record { end₀ = no_end; end₁ = no_end; kind = false }

-- both ends of each link, in order
abbrev pub ends : List Link → List End
ends [] = []
ends (l ∷ ls) = l.end₀ ∷ l.end₁ ∷ ends ls

-- direction d of link l
abbrev pub lane : ℕ → ℕ → ℕ
lane l d = 2 * l + d

-- the lane of the same link that leads back
abbrev pub back : ℕ → ℕ
back i = cond (i % 2 == 0) (i + 1) (i - 1)

-- the end that a lane leads from
abbrev pub from_end : List Link → ℕ → End
from_end ls i = slice_index_or (ends ls) i no_end

-- the end that a lane leads to
abbrev pub to_end : List Link → ℕ → End
to_end ls i = slice_index_or (ends ls) (back i) no_end

-- the lane that leads out by channel k of chain c
abbrev pub lane_out : List Link → ℕ → ℕ → ℕ
lane_out ls c k = place (same_end (end_at c k)) (ends ls)

-- whether that channel is in use
abbrev pub in_use : List Link → ℕ → ℕ → Bool
in_use ls c k = found (same_end (end_at c k)) (ends ls)

-- n numbers, from k on
abbrev pub numbers_from : ℕ → ℕ → List ℕ
numbers_from k zero = []
numbers_from k (suc n) = k ∷ numbers_from (suc k) n

-- a chain's lowest unused channel, 8 where all are used
unfoldable pub lowest_unused : List Link → ℕ → ℕ
lowest_unused ls c = place (λ k. not (in_use ls c k)) (numbers_from 0 channels_most)

-- the chain that one comes to from chain c by following hops from chain to chain
abbrev pub home_by : List Link → List ℕ → ℕ → ℕ
home_by ls [] c = c
home_by ls (k ∷ ks) c = home_by ls ks (to_end ls (lane_out ls c k)).chain

-- the home of a denomination that chain c holds: where its hops lead, and its symbol
abbrev pub home_of : List Link → ℕ → Denom → Token
home_of ls c e = record { chain = home_by ls e.hops c; symbol = e.symbol }

-- Registers

-- what is read where there is no denomination
abbrev pub no_denom : Denom
no_denom = hopless []

-- the number of a denomination on a chain; that of the next new one where it has none
abbrev pub number : World → ℕ → Denom → ℕ
number w c e = place (same_denom e) (w.register c)

-- whether it has one
abbrev pub registered : World → ℕ → Denom → Bool
registered w c e = found (same_denom e) (w.register c)

-- The ledger by denomination. An unregistered one has nothing.

-- what the account of channel k of chain c holds in escrow
abbrev pub escrow : World → ℕ → ℕ → Denom → ℕ
escrow w c k e = gate (registered w c e) (w.ledger.balance c (escrow_account k) (number w c e))

-- what all accounts of chain c hold
abbrev pub supply_of : World → ℕ → Denom → ℕ
supply_of w c e = gate (registered w c e) (supply w.ledger.balance c (number w c e))

-- what users hold of a token, under every trace on every chain
abbrev pub held : World → Token → ℕ
held w t =
    sum_below chains_most (λ c. sum_below (length (w.register c)) (λ d.
    gate (same_token (home_of w.links c (slice_index_or (w.register c) d no_denom)) t) (users_hold w.ledger.balance c d)))

-- Packets

-- the end that a packet was sent from
abbrev pub near : World → Packet → End
near w p = from_end w.links p.lane

-- the end that it goes to
abbrev pub far : World → Packet → End
far w p = to_end w.links p.lane

-- the kind of a lane's link
abbrev pub link_kind : World → ℕ → Bool
link_kind w i = (get_or w.links (i / 2) no_link).kind

-- the book that serves links of that kind
abbrev pub book_of : World → ℕ → Book
book_of w i = w.books (link_kind w i)

-- the mark of a lane and a sequence
abbrev pub mark_at : World → ℕ → ℕ → Option ℕ
mark_at w i s = (book_of w i).mark i s

-- the mark of a packet
abbrev pub mark_of : World → Packet → Option ℕ
mark_of w p = mark_at w p.lane p.sequence

-- open, as standing and mark tell it: it stands, without a mark or with one other than 1
abbrev pub is_open : World → Packet → Bool
is_open w p = p.standing && not (is_one (mark_of w p))

-- what the open packets that pass the test carry
abbrev pub open_packets : World → (Packet → Bool) → ℕ
open_packets w test = total (λ p. gate (is_open w p && test p) p.amount) w.packets

-- on this lane with this denomination
abbrev pub on_lane_with : ℕ → Denom → Packet → Bool
on_lane_with i e p = p.lane == i && same_denom p.denom e

-- of this token: the home of its denomination, taken on the sending chain
abbrev pub of_token : World → Token → Packet → Bool
of_token w t p = same_token (home_of w.links (near w p).chain p.denom) t

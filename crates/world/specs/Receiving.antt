-- What the checks of a receipt tell, and what a receipt then comes to.
use Rattle.std.specs.Prelude.{◌≡◌, ℕ, cond, not, ◌&&◌, ◌||◌, length, None, ◌==◌, nat_le}
use Rattle.denom.specs.Denomination.{came_by, stripped, behind}
use Rattle.protocol.specs.declared.marks.Mark.TheVariants.{Good, TooManyHops, RegisterFull, LedgerRefused}
use Rattle.protocol.specs.House.{hops_most, denoms_most, escrow_account}
use Rattle.protocol.specs.Ledger.{moved, credited, move_refusals, credit_refusals}
use Rattle.protocol.specs.Book.{mark_number, take_refusals}
use Rattle.protocol.specs.Refusals.{first}
use Rattle.protocol.specs.World.{World, End, lane, book_of, registered, number}
use Rattle.protocol.specs.World as protocol
use Rattle.protocol.specs.Calls.{receive, refusals, refused, packet_at, with_bal, enrolled}
use Rattle.tables.specs.declared.types.Packet.{Packet}
use Rattle.tables.specs.declared.types.Route.{Route}
use Rattle.tables.specs.Routes.{Leads}
use Rattle.tables.specs.View.{packet_view}

-- no refusal applies, nor would the book refuse the mark; the route is the lane and p is the packet
pub record Receivable (w : World) (l d s : ℕ) (r : Route) (p : Packet) : Type 0 where
  pub clear : first (refusals w (receive l d s)) ≡ None
  pub admitted : first (take_refusals (book_of w (lane l d)) (lane l d) s) ≡ None
  pub leads : Leads w.links w.closed l d r
  pub packet : packet_view p ≡ packet_at w (lane l d) s
  pub on_lane : p.lane ≡ lane l d

-- A packet p at the end where it arrives: what came in by the near channel goes home out of escrow, anything else gets a voucher.

-- its mark on the way home
abbrev pub home_mark : World → End → protocol.Packet → ℕ
home_mark w f p =
    let freed = stripped p.denom in
    cond
    (not (registered w f.chain freed) || refused (move_refusals w.ledger f.chain (escrow_account f.channel) p.receiver (number w f.chain freed) p.amount))
    (mark_number LedgerRefused)
    (mark_number Good)

-- the world where that is good
abbrev pub at_home : World → End → protocol.Packet → World
at_home w f p =
    with_bal w (moved w.ledger.balance f.chain (escrow_account f.channel) p.receiver (number w f.chain (stripped p.denom)) p.amount)

-- its mark as a voucher
abbrev pub voucher_mark : World → End → protocol.Packet → ℕ
voucher_mark w f p =
    let voucher = behind f.channel p.denom in
    cond
    (nat_le hops_most (length p.denom.hops))
    (mark_number TooManyHops)
    (cond
    (not (registered w f.chain voucher) && nat_le denoms_most (length (w.register f.chain)))
    (mark_number RegisterFull)
    (cond
    (refused (credit_refusals w.ledger f.chain p.receiver (number w f.chain voucher) p.amount))
    (mark_number LedgerRefused)
    (mark_number Good)))

-- the world where that is good
abbrev pub with_voucher : World → End → protocol.Packet → World
with_voucher w f p =
    let voucher = behind f.channel p.denom in
    with_bal (enrolled w f.chain voucher) (credited w.ledger.balance f.chain p.receiver (number w f.chain voucher) p.amount)

-- Its mark and the world where that is good, by the ends that its lane leads from and to.

abbrev pub arrival_at : World → End → End → protocol.Packet → ℕ
arrival_at w n f p = cond (came_by n.channel p.denom) (home_mark w f p) (voucher_mark w f p)

abbrev pub delivered_at : World → End → End → protocol.Packet → World
delivered_at w n f p = cond (came_by n.channel p.denom) (at_home w f p) (with_voucher w f p)

-- the world where the mark is good, and the old one where it is not
abbrev pub if_good : ℕ → World → World → World
if_good m good old = cond (m == 1) good old

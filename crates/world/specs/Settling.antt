-- What the checks of an acknowledgement and of a timeout tell, and what a refund comes to.
use Rattle.std.specs.Prelude.{◌≡◌, ℕ, Bool, true, false, cond, not, ◌&&◌, ◌||◌, List, [], ◌∷◌, ◌==◌}
use Rattle.denom.specs.Denomination.{came_by}
use Rattle.protocol.specs.House.{escrow_account}
use Rattle.protocol.specs.Refusals.{Refusal, ◌when◌, first}
use Rattle.protocol.specs.Ledger.{Ledger, Balances, moved, credited, move_refusals, credit_refusals}
use Rattle.protocol.specs.Book.{is_one}
use Rattle.protocol.specs.World.{World, End, lane, mark_at, registered, number}
use Rattle.protocol.specs.World as protocol
use Rattle.protocol.specs.Calls.{ack, timeout, refusals, refused, opened, has_packet, refund_refused, packet_at, with_bal, with_closed}
use Rattle.tables.specs.declared.types.Effect.{Effect}
use Rattle.tables.specs.declared.types.Effect.TheVariants.{Arrives, Ends, EndsWithRefund}
use Rattle.tables.specs.declared.types.Packet.{Packet}
use Rattle.tables.specs.declared.types.Route.{Route}
use Rattle.tables.specs.Routes.{Leads}
use Rattle.world.specs.Looking.{Looked}

-- whether an effect sends the amount back
abbrev pub goes_back : Effect → Bool
goes_back Arrives = false
goes_back Ends = false
goes_back EndsWithRefund = true

-- A refund of packet p, whose denomination has number d, at the end n that it was sent from.

-- what the ledger is asked for: to credit what was burnt, or to move what went into escrow back
abbrev pub back_refusals : Ledger → End → protocol.Packet → ℕ → List Refusal
back_refusals l n p d =
    cond
    (came_by n.channel p.denom)
    (credit_refusals l n.chain p.sender d p.amount)
    (move_refusals l n.chain (escrow_account n.channel) p.sender d p.amount)

-- and what it then makes of the balances
abbrev pub back_balances : Balances → End → protocol.Packet → ℕ → Balances
back_balances b n p d =
    cond
    (came_by n.channel p.denom)
    (credited b n.chain p.sender d p.amount)
    (moved b n.chain (escrow_account n.channel) p.sender d p.amount)

-- whether the refund is refused
abbrev pub refund_refused_at : World → End → protocol.Packet → Bool
refund_refused_at w n p =
    let d = number w n.chain p.denom in
    not (registered w n.chain p.denom)
    || cond
    (came_by n.channel p.denom)
    (refused (credit_refusals w.ledger n.chain p.sender d p.amount))
    (refused (move_refusals w.ledger n.chain (escrow_account n.channel) p.sender d p.amount))

-- that as the last refusal of a call
abbrev pub refund_refusals : World → End → protocol.Packet → List Refusal
refund_refusals w n p = 34 when refund_refused_at w n p ∷ []

-- the world in which the sender has it back
abbrev pub refunded_at : World → End → protocol.Packet → World
refunded_at w n p = with_bal w (back_balances w.ledger.balance n p (number w n.chain p.denom))

-- link l is closed, if strict says so
abbrev pub closed_if : World → ℕ → Bool → World
closed_if w l strict = with_closed w (λ l'. w.closed l' || (l' == l && strict))

-- the refusals of a look for a packet, before others
abbrev pub look_refusals : World → ℕ → ℕ → ℕ → List Refusal → List Refusal
look_refusals w l d s rest = 11 when not (opened w l d) ∷ 18 when not (has_packet w (lane l d) s) ∷ rest

-- the route is the lane, and p is the packet at place n
pub record On (w : World) (l d s : ℕ) (r : Route) (n : ℕ) (p : Packet) : Type 0 where
  pub leads : Leads w.links w.closed l d r
  pub look : Looked w l d s n p

-- only the ledger can refuse an acknowledgement any more, and that only where the amount goes back
pub record Acknowledgeable (w : World) (l d s : ℕ) (r : Route) (n : ℕ) (p : Packet) (e : Effect) : Type 0 where
  pub on : On w l d s r n p
  pub good : is_one (mark_at w (lane l d) s) ≡ not (goes_back e)
  pub left : first (refusals w (ack l d s)) ≡ first (34 when (goes_back e && refund_refused w (packet_at w (lane l d) s)) ∷ [])

-- only the ledger can refuse a timeout any more
pub record Expired (w : World) (l d s : ℕ) (r : Route) (n : ℕ) (p : Packet) : Type 0 where
  pub on : On w l d s r n p
  pub left : first (refusals w (timeout l d s)) ≡ first (34 when refund_refused w (packet_at w (lane l d) s) ∷ [])

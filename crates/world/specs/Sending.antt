-- What the checks of a send tell before the ledger is asked.
use Rattle.std.specs.Prelude.{◌≡◌, ℕ, ◌<◌, false, cond, List, [], ◌∷◌, length, nat_eq}
use Rattle.denom.specs.Denomination.{Denom, came_by}
use Rattle.protocol.specs.House.{channels_most, users, packets_most, denoms_most, escrow_account}
use Rattle.protocol.specs.Refusals.{Refusal, ◌when◌, first}
use Rattle.protocol.specs.Ledger.{Ledger, Balances, is_barred, too_small, debited, moved, debit_refusals, move_refusals}
use Rattle.protocol.specs.World.{World, lane_out, number}
use Rattle.protocol.specs.Calls.{send, refusals}
use Rattle.tables.specs.declared.types.Route.{Route}

-- the ledger's own refusals, which a send meets last
abbrev pub taking_refusals : Ledger → ℕ → ℕ → ℕ → ℕ → List Refusal
taking_refusals l c u d n = 31 when is_barred l c u ∷ 32 when too_small l.balance c u d n ∷ []

-- what the ledger is asked for: to burn, by the channel by which the denomination came in, or to put into escrow
abbrev pub off_refusals : Ledger → ℕ → ℕ → ℕ → Denom → ℕ → ℕ → List Refusal
off_refusals l c k u e d n =
    cond (came_by k e) (debit_refusals l c u d n) (move_refusals l c u (escrow_account k) d n)

-- and what it then makes of the balances
abbrev pub off_balances : Balances → ℕ → ℕ → ℕ → Denom → ℕ → ℕ → Balances
off_balances b c k u e d n = cond (came_by k e) (debited b c u d n) (moved b c u (escrow_account k) d n)

-- none of the world's own refusals applies; the route leads out by the channel, and d is the denomination's number
pub record Sendable (w : World) (c k u v : ℕ) (e : Denom) (n t : ℕ) (r : Route) (d : ℕ) : Type 0 where
  pub left : first (refusals w (send c k u v e n t)) ≡ first (taking_refusals w.ledger c u (number w c e) n)
  pub lane_is : r.lane ≡ lane_out w.links c k
  pub number_is : d ≡ number w c e
  pub chain : c < w.ledger.chains
  pub channel : k < channels_most
  pub sender : u < users
  pub amount : nat_eq n 0 ≡ false
  pub low : d < denoms_most
  pub room : length w.packets < packets_most

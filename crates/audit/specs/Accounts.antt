-- What an issuer may print: every line of the audit of a world that calls have reached adds up.
use Rattle.std.specs.Prelude.{◌≡◌, ℕ, ◌+◌, ◌<◌, ◌≤◌, Bool, ◌≢◌, List, length}
use Rattle.denom.specs.Denomination.{Token}
use Rattle.protocol.specs.Audit.{token_supply, token_open, escrow_held, vouchers, escrow_open}
use Rattle.protocol.specs.Book.{Book}
use Rattle.protocol.specs.Calls.{Call}
use Rattle.protocol.specs.Laws.{world}
use Rattle.protocol.specs.Ledger.{Ledger}
use Rattle.protocol.specs.World.{World, from_end, lane, held}

-- the lines of the audit of w
pub record LinesAddUp (w : World) : Type 0 where
  -- a token's: SUPPLY = HELD + OPEN
  pub tokens : (t : Token) → token_supply w t ≡ held w t + token_open w t
  -- an escrow's: ESCROW = VOUCHERS + OPEN
  pub escrows :
      (L D d : ℕ) → L < length w.links → D ≤ 1 → d < length (w.register (from_end w.links (lane L D)).chain) → escrow_held w L D d ≢ 0 →
      escrow_held w L D d ≡ vouchers w L D d + escrow_open w L D d

-- they add up whatever past, over whatever ledger and books, led to the world
abbrev pub AddsUp : World → Type 0
AddsUp w = (l : Ledger) (bs : Bool → Book) (past : List Call) → world l bs past ≡ w → LinesAddUp w

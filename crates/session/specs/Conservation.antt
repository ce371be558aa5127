-- What conservation says of the world that a line leaves, whatever past led to it.
use Rattle.std.specs.Prelude.{◌≡◌, ℕ, ◌+◌, ◌<◌, ◌≤◌, Bool, false, List, ◌++◌, length}
use Rattle.denom.specs.Denomination.{Denom, Token, came_by}
use Rattle.protocol.specs.Audit.{token_supply, token_open}
use Rattle.protocol.specs.Book.{Book}
use Rattle.protocol.specs.Calls.{Call}
use Rattle.protocol.specs.Laws.{world, open_after, there_is, Backed, issued, retired, Conserved}
use Rattle.protocol.specs.Ledger.{Ledger}
use Rattle.protocol.specs.World.{World, from_end, lane, held}

-- The world w, to which the calls of `past` led from an empty world over ledger l and books bs.
pub record Kept (l : Ledger) (bs : Bool → Book) (past : List Call) (w : World) : Type 0 where
  -- backing, conservation of tokens and settlement at most once, at every moment of every past over this ledger and these
  -- books, and between any two of them
  pub always : Conserved l bs
  -- now: escrow backs the vouchers and the open packets at every end of every link
  pub backed :
      (L D : ℕ) (e : Denom) → L < length w.links → D ≤ 1 → came_by (from_end w.links (lane L D)).channel e ≡ false →
      Backed w (open_after l bs past) (lane L D) e
  -- since any earlier moment: what there is of a token moved by its accepted issues less its accepted retirements
  pub moved :
      (t : Token) (later earlier : List Call) → past ≡ later ++ earlier →
      there_is w (open_after l bs past) t + retired l bs t later earlier ≡
      there_is (world l bs earlier) (open_after l bs earlier) t + issued l bs t later earlier
  -- now: a token's supply at home is what users hold of it and its open packets, as an audit tells them
  pub token_adds_up : (t : Token) → token_supply w t ≡ held w t + token_open w t

-- conservation of a world: it holds whatever past, over whatever ledger and books, led to it
abbrev pub Conserves : World → Type 0
Conserves w = (l : Ledger) (bs : Bool → Book) (past : List Call) → world l bs past ≡ w → Kept l bs past w

-- a world that calls have reached from an empty one over ledger l and books bs
abbrev pub Reached : Ledger → (Bool → Book) → World → Type 0
Reached l bs w = (past : List Call) × (world l bs past ≡ w)

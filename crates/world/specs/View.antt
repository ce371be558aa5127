-- The abstract world that a world of the code stands for, by what its ledger and its books mean.
use Rattle.std.specs.Prelude.{Bool, cond, slice_index}
use Rattle.protocol.specs.Book.{Book}
use Rattle.protocol.specs.Ledger.{Ledger}
use Rattle.protocol.specs.World as protocol
use Rattle.tables.specs.declared.types.Tables.{Tables}
use Rattle.tables.specs.View.{denoms_of, tokens_in, links_in, closed_in, packets_in}
use Rattle.world.specs.declared.world.World.{World}

-- the book for free links, and that for strict ones
abbrev pub two_books : Book → Book → Bool → Book
two_books free strict kind = cond kind strict free

-- an abstract world by its ledger, its books and the tables
abbrev pub seen : Ledger → Book → Book → Tables → protocol.World
seen l f s t =
    record {
      ledger = l;
      books = two_books f s;
      register = denoms_of t.denominations;
      tokens = tokens_in t.tokens;
      links = links_in t.links;
      closed = closed_in t.links;
      packets = packets_in t.packets;
      height = λ c. slice_index t.heights c;
    }

-- the same of a world of the code
abbrev pub view : {L F S : Type 0} → (L → Ledger) → (F → Book) → (S → Book) → World L F S → protocol.World
view ledger free strict w = seen (ledger w.ledger) (free w.free) (strict w.strict) w.tables

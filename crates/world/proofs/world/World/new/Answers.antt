use Rattle.std.proofs.Common.{◌≡◌, Bool, true, false}
use mathlib.Core.Path.{fun_ext}
use Rattle.protocol.specs.Book.{Book, wiped}
use Rattle.world.specs.View.{two_books}
use Rattle.world.proofs.world.World.new.Goals as goal

-- both books wiped are the book of either kind wiped
both-wiped : (f s f' s' : Book) → f' ≡ wiped f → s' ≡ wiped s → (k : Bool) → two_books f' s' k ≡ wiped (two_books f s k)
both-wiped f s f' s' ef es true = es
both-wiped f s f' s' ef es false = ef

pub returns : goal.returns
returns g c =
    let none = c.empty.ensures in
    let books = both-wiped (g.F.Book.meaning c.args.free) (g.S.Book.meaning c.args.strict) _ _ c.clear-2.ensures c.clear-3.ensures in
    λ i. record {
      ledger = c.clear.ensures i;
      books = fun_ext books i;
      register = fun_ext none.denominations i;
      tokens = none.tokens i;
      links = none.links i;
      closed = fun_ext none.closed i;
      packets = none.packets i;
      height = fun_ext none.heights i;
    }

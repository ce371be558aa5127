use Rattle.std.proofs.Common.{arith}
use Rattle.std.proofs.lemmas.Bool.Decides.{nat_tests}
use Rattle.books.specs.Table.{mark_in}
use Rattle.books.proofs.receipts.ReceiptBookBook.look.Goals as goal

pub returns-then-lane-ge-LANES : goal.returns-then-lane-ge-LANES
unfolding mark_in
returns-then-lane-ge-LANES g c = grind (arith, nat_tests)

pub returns : goal.returns
unfolding mark_in
returns g c = grind (arith, nat_tests)

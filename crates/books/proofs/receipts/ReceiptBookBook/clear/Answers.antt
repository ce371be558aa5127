use Rattle.books.proofs.Tables.{none_booked}
use Rattle.books.proofs.receipts.ReceiptBookBook.clear.Goals as goal

pub returns : goal.returns
returns g c = none_booked _ 16384

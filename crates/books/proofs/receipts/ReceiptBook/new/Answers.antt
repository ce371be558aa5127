use Rattle.books.proofs.Tables.{none_booked}
use Rattle.books.proofs.receipts.ReceiptBook.new.Goals as goal

pub returns : goal.returns
returns g c = none_booked _ 16384

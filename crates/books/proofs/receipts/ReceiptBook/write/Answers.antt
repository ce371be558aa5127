use Rattle.std.proofs.Common.{rules}
use Rattle.books.proofs.Tables.{written}
use Rattle.books.proofs.receipts.ReceiptBook.write.Goals as goal

pub returns : goal.returns
returns g c =
    written c.args.self.now.places c.args.lane c.args.sequence c.args.mark (search rules) c.requires.lane c.requires.sequence.0 c.requires.sequence.1

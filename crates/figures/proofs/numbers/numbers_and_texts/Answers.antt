use Rattle.figures.proofs.Numerals.{numbers_read_back}
use Rattle.figures.proofs.numbers.numbers_and_texts.Goals as goal

pub returns-clause-reads : goal.returns-clause-reads
returns-clause-reads c = numbers_read_back

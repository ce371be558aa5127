use Rattle.denom.proofs.Back.{reads_back, writes_back}
use Rattle.denom.proofs.reader.denominations_and_texts.Goals as goal

pub returns : goal.returns
returns c = record { reads = reads_back; writes = writes_back }

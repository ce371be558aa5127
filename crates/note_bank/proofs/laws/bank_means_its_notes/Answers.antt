use Rattle.note_bank.proofs.Meaning.{means_its_notes, notes_keep_laws}
use Rattle.note_bank.proofs.laws.bank_means_its_notes.Goals as goal

pub returns-clause-meaning : goal.returns-clause-meaning
returns-clause-meaning c = λ b. means_its_notes b.store

pub returns-clause-lawful : goal.returns-clause-lawful
returns-clause-lawful c = notes_keep_laws

use Rattle.account_bank.proofs.Meaning.{means_its_table, table_keeps_laws}
use Rattle.account_bank.proofs.laws.bank_means_its_table.Goals as goal

pub returns-clause-meaning : goal.returns-clause-meaning
returns-clause-meaning c = λ b. means_its_table b.store

pub returns-clause-lawful : goal.returns-clause-lawful
returns-clause-lawful c = table_keeps_laws

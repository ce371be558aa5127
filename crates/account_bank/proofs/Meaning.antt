-- What a bank means is what its table means, and that keeps both laws.
use Rattle.std.proofs.Common.{◌≡◌, ℕ, ◌≤◌, List, [], length, Some, None, Option, refl, sym, ap, arith}
use Rattle.std.proofs.lemmas.Bool.{le-ltb}
use Rattle.protocol.specs.Ledger.{Lawful}
use Rattle.ledger.specs.Empty.{without_bars}
use Rattle.bank.specs.OneChain.{bank_meaning}
use Rattle.account_bank.specs.declared.amounts.Amounts.{Amounts}
use Rattle.account_bank.specs.Table.{table_chains, table_balances, table_meaning, table_lawful}
use Rattle.account_bank.specs.Meaning.{amounts_of}
use Rattle.account_bank.proofs.Tables.{zero_balances, zero_supplies}

-- over 768 amounts or more one chain is served
one_chain : (xs : List ℕ) → 768 ≤ length xs → 1 ≡ table_chains xs
one_chain xs h = rw (le-ltb (length xs) 768 h) refl

pub means_its_table : (o : Option Amounts) → bank_meaning (λ (s : Amounts). table_balances s.amounts.items) o ≡ table_meaning (amounts_of o)
means_its_table None = ap (without_bars 0) (sym (zero_balances [] (λ k. refl)))
means_its_table (Some s) = ap (λ (n : ℕ). without_bars n (table_balances s.amounts.items)) (one_chain s.amounts.items (omega (arith, s.large)))

pub table_keeps_laws : (o : Option Amounts) → Lawful (table_meaning (amounts_of o))
table_keeps_laws None = table_lawful [] (zero_supplies [] (λ k. refl))
table_keeps_laws (Some s) = table_lawful s.amounts.items s.supplies

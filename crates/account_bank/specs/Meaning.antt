-- The table that a bank stands on.
use Rattle.std.specs.Prelude.{ℕ, List, [], Some, None, Option}
use Rattle.account_bank.specs.declared.amounts.Amounts.{Amounts}

-- the amounts of a bank; without a store there are none
abbrev pub amounts_of : Option Amounts → List ℕ
amounts_of None = []
amounts_of (Some s) = s.amounts.items

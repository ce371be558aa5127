-- Amounts that lie as a table, 32 denominations to an account: which of them a column has.
use Rattle.std.specs.Prelude.{ℕ, ◌/◌, ◌%◌, Bool, ◌&&◌, ◌==◌, nat_le, nat_lt}
use Rattle.sums.specs.declared.Column.{Column}

-- denomination d of account a is of the column
abbrev pub column_has : Column → ℕ → ℕ → Bool
column_has w a d = d == w.denomination && (nat_le w.from a && nat_lt a w.to)

-- the amount at place i is of the column's denomination, and its account is one of the column's
abbrev pub in_column : Column → ℕ → ℕ → Bool
in_column w x i = column_has w (i / 32) (i % 32)

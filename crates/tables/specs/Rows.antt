-- Rows in order of arrival, and how many there may be.
use Rattle.std.specs.Prelude.{ℕ, List, take}
use Rattle.tables.specs.declared.types.Rows.{Rows}

-- the rows that there are
abbrev pub rows_of : {T : Type 0} {N : ℕ} → Rows T N → List T
rows_of r = take r.count r.places

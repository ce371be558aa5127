-- A call to a ledger under bars, seen through the bars.
use Rattle.std.proofs.Common.{◌≡◌, ℕ, ◌+◌, ◌*◌, Bool, false, List, get_or, ap, arith}
use mathlib.Core.Path.{fun_ext}
use Rattle.std.proofs.lemmas.Bool.Decides.{nat_tests}
use Rattle.protocol.specs.Ledger.{Ledger, with_barred, cleared}
use Rattle.layers.specs.Layers.{barring}

-- no flag, and a ledger below that was cleared
pub barring_cleared : (fs gs : List Bool) (m : Ledger) → ((k : ℕ) → get_or gs k false ≡ false) → barring gs (cleared m) ≡ cleared (barring fs m)
barring_cleared fs gs m none =
    ap (with_barred (cleared (barring fs m))) (fun_ext λ c. fun_ext λ u. let h = none (c * 16 + u) in grind (arith, nat_tests))

-- What the keys of a table are after another was offered, and which number a chain has for a denomination.
use Rattle.std.specs.Prelude.{ℕ, cond, not, ◌&&◌, List, [], ◌∷◌, ◌++◌, length, Some, None, Option, nat_le, nat_lt}
use Rattle.denom.specs.Denomination.{Denom, same_denom}
use Rattle.protocol.specs.House.{denoms_most}
use Rattle.register.specs.Keys.{place, found}

-- the keys in order of arrival, by the number that k had before: k is put behind the others where it is new and there is room
abbrev pub joined : {K : Type 0} → ℕ → K → List K → Option ℕ → List K
joined room k ks (Some i) = ks
joined room k ks None = cond (nat_lt (length ks) room) (ks ++ k ∷ []) ks

-- the number that e has in a chain's register or would get, or nothing where it is new and the register is full
abbrev pub number_for : Denom → List Denom → Option ℕ
number_for e es =
    cond (not (found (same_denom e) es) && nat_le denoms_most (length es)) None (Some (place (same_denom e) es))

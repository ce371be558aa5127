-- What the records of the code stand for, and what the reader answers and leaves in the hops that it was lent.
use Rattle.std.specs.Prelude.{ℕ, ◌+◌, List, [], ◌∷◌, length, take, Some, None, Ok, Err, Option, Result, slice_set}
use Rattle.denom.specs.declared.types.Hops.{Hops}
use Rattle.denom.specs.declared.types.Symbol.{Symbol}
use Rattle.denom.specs.declared.types.Denomination.{Denomination}
use Rattle.denom.specs.declared.types.TokenId.{TokenId}
use Rattle.denom.specs.declared.types.TextFault.{TextFault}
use Rattle.denom.specs.declared.types.TextFault.TheVariants.{NotADenomination}
use Rattle.denom.specs.Denomination.{Denom, Token}

-- the hops of a record
abbrev pub hops_of : Hops → List ℕ
hops_of h = take h.count h.at

-- the bytes of a symbol
abbrev pub symbol_of : Symbol → List ℕ
symbol_of s = take s.len s.bytes

abbrev pub denom_view : Denomination → Denom
denom_view d = record { hops = hops_of d.hops; symbol = symbol_of d.symbol }

abbrev pub token_view : TokenId → Token
token_view t = record { chain = t.chain; symbol = symbol_of t.symbol }

-- the reader's answer: the symbol, a part of the text
abbrev pub symbol_answer : Option Denom → Result (List ℕ) TextFault
symbol_answer None = Err NotADenomination
symbol_answer (Some e) = Ok e.symbol

-- the denomination that a text reads as, or that it is none
abbrev pub denom_answer : Option Denom → Result Denom TextFault
denom_answer None = Err NotADenomination
denom_answer (Some e) = Ok e

-- hops laid into a table from a place on
abbrev pub put_hops : List ℕ → ℕ → List ℕ → List ℕ
put_hops [] d at = at
put_hops (h ∷ hs) d at = slice_set (put_hops hs (d + 1) at) d h

-- the lent table after the reader, and the lent count: as they were where the text is refused
abbrev pub hops_after : Option Denom → ℕ → List ℕ → List ℕ
hops_after None d at = at
hops_after (Some e) d at = put_hops e.hops d at

abbrev pub count_after : Option Denom → ℕ → ℕ → ℕ
count_after None d n = n
count_after (Some e) d n = d + length e.hops

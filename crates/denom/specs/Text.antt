-- Denominations as text: for each hop `transfer/channel-`, a digit 0 to 7 and `/`, the first hop first, and then the symbol.
use Rattle.std.specs.Prelude.{ℕ, zero, suc, ◌+◌, ◌-◌, Bool, true, false, cond, ◌&&◌, ◌||◌, List, [], ◌∷◌, ◌++◌, length, drop, Some, None, codes, Option, ◌==◌, nat_le, nat_lt, slice_index}
use Rattle.std.specs.List.{list_all}
use Rattle.denom.specs.Denomination.{Denom, hopless, behind}

-- a to z
abbrev pub letter : ℕ → Bool
letter c = nat_le 97 c && nat_le c 122

-- a to z or 0 to 9
abbrev pub letter_or_digit : ℕ → Bool
letter_or_digit c = letter c || (nat_le 48 c && nat_le c 57)

-- whether each number passes the test
abbrev pub each : (ℕ → Bool) → List ℕ → Bool
each p bs = list_all p bs

-- a symbol is a letter and then at most 15 letters or digits
abbrev pub is_symbol : List ℕ → Bool
is_symbol [] = false
is_symbol (c ∷ cs) = letter c && (nat_le (length cs) 15 && each letter_or_digit cs)

-- a trace has at most six hops, each a channel 0 to 7
abbrev pub is_trace : List ℕ → Bool
is_trace hs = nat_le (length hs) 6 && each (λ h. nat_lt h 8) hs

-- a denomination within these bounds
abbrev pub is_denom : Denom → Bool
is_denom e = is_trace e.hops && is_symbol e.symbol

-- what stands in front of each hop's digit
abbrev pub hop_mark : List ℕ
hop_mark = codes "transfer/channel-"

-- one hop as text
abbrev pub hop_text : ℕ → List ℕ
hop_text h = hop_mark ++ ((48 + h) ∷ 47 ∷ [])

-- how hops and a symbol are written
abbrev pub trace_text : List ℕ → List ℕ → List ℕ
trace_text [] s = s
trace_text (h ∷ hs) s = hop_text h ++ trace_text hs s

-- how a denomination is written
abbrev pub denom_text : Denom → List ℕ
denom_text e = trace_text e.hops e.symbol

-- whether a text begins with another
abbrev pub begins : List ℕ → List ℕ → Bool
begins [] bs = true
begins (p ∷ ps) [] = false
begins (p ∷ ps) (b ∷ bs) = b == p && begins ps bs

-- the channel of a digit 0 to 7 that `/` follows
abbrev pub hop_digit : ℕ → ℕ → Option ℕ
hop_digit d slash = cond (nat_le 48 d && (nat_le d 55 && slash == 47)) (Some (d - 48)) None

-- the hop that a text begins with
abbrev pub hop_of : List ℕ → Option ℕ
hop_of bs = cond (begins hop_mark bs) (hop_digit (slice_index bs 17) (slice_index bs 18)) None

-- a text that is a symbol, and nothing before it
abbrev pub only_symbol : List ℕ → Option Denom
only_symbol bs = cond (is_symbol bs) (Some (hopless bs)) None

-- what was read after a hop, with that hop put in front
abbrev pub behind_hop : ℕ → Option Denom → Option Denom
behind_hop h None = None
behind_hop h (Some e) = Some (behind h e)

-- after a hop the rest goes on to the same rule; where there is none, the text has to be a symbol
abbrev pub read_on : Option ℕ → Option Denom → Option Denom → Option Denom
read_on None symbol rest = symbol
read_on (Some h) symbol rest = behind_hop h rest

-- the denomination that a text with at most k hops reads as
abbrev pub read_from : ℕ → List ℕ → Option Denom
read_from zero bs = only_symbol bs
read_from (suc k) bs = read_on (hop_of bs) (only_symbol bs) (read_from k (drop 19 bs))

-- the denomination that a text reads as
abbrev pub denom_of : List ℕ → Option Denom
denom_of bs = read_from 6 bs

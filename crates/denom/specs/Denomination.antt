-- Denominations and tokens. A denomination is a trace of hops, each a channel of the chain that it came in by, and a symbol; a
-- token is the chain that issued it and its symbol.
use Rattle.std.specs.Prelude.{ℕ, Bool, false, ◌&&◌, List, [], ◌∷◌, ◌==◌}
use Rattle.std.specs.Str.{bytes_eq}

-- the hops, the latest first, and the symbol's bytes
pub record Denom : Type 0 where
  pub hops : List ℕ
  pub symbol : List ℕ

-- the chain of issue, and the symbol's bytes
pub record Token : Type 0 where
  pub chain : ℕ
  pub symbol : List ℕ

-- equal lists of numbers
abbrev pub same_list : List ℕ → List ℕ → Bool
same_list xs ys = bytes_eq xs ys

-- the same hops and the same symbol
abbrev pub same_denom : Denom → Denom → Bool
same_denom e f = same_list e.hops f.hops && same_list e.symbol f.symbol

-- the same chain and the same symbol
abbrev pub same_token : Token → Token → Bool
same_token t v = t.chain == v.chain && same_list t.symbol v.symbol

-- a symbol where it was issued
abbrev pub hopless : List ℕ → Denom
hopless s = record { hops = []; symbol = s }

-- e behind one more hop
abbrev pub behind : ℕ → Denom → Denom
behind k e = record { hops = k ∷ e.hops; symbol = e.symbol }

-- whether a trace begins with channel k
abbrev pub first_hop : List ℕ → ℕ → Bool
first_hop [] k = false
first_hop (h ∷ hs) k = h == k

-- whether e came in by channel k, so that by k it goes back
abbrev pub came_by : ℕ → Denom → Bool
came_by k e = first_hop e.hops k

-- a trace without its first hop
abbrev pub later_hops : List ℕ → List ℕ
later_hops [] = []
later_hops (h ∷ hs) = hs

-- e with its first hop removed
abbrev pub stripped : Denom → Denom
stripped e = record { hops = later_hops e.hops; symbol = e.symbol }

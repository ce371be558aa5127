-- A trace by its first hop.
use Rattle.std.proofs.Common.{◌≡◌, ℕ, zero, suc, lt-ltb, ◌+◌, ◌-◌, ◌*◌, ◌<◌, true, ltb, List, [], ◌∷◌, ◌++◌, length, get_or, take, drop, refl, ap, subst, arith, length-append, ltb-true}
use Rattle.std.proofs.lemmas.Bool.{and_parts}
use Rattle.std.proofs.lemmas.Slice.{first_rest}
use Rattle.denom.specs.Text.{each, hop_mark, hop_text, trace_text}

-- a trace with no hop is its symbol
pub no_hops : (hs s : List ℕ) → length hs ≡ 0 → trace_text hs s ≡ s
no_hops [] s e = refl
no_hops (h ∷ hs) s e = absurd (omega arith)

pub first_hop : (hs s : List ℕ) → 0 < length hs → trace_text hs s ≡ (hop_mark ++ ((48 + get_or hs 0 0) ∷ 47 ∷ [])) ++ trace_text (take (length hs - 1) (drop 1 hs)) s
first_hop hs s some = ap (λ l. trace_text l s) (first_rest hs 0 some)

-- the first of some channels is a channel, and so are the others
pub channel :
    (hs : List ℕ) → 0 < length hs → each (λ h. ltb h 8) hs ≡ true →
    (get_or hs 0 0 < 8) × (each (λ h. ltb h 8) (take (length hs - 1) (drop 1 hs)) ≡ true)
channel hs some c =
    let P : List ℕ → Type 0 = λ l. each (λ h. ltb h 8) l ≡ true in
    let b = and_parts (ltb (get_or hs 0 0) 8) (each (λ h. ltb h 8) (take (length hs - 1) (drop 1 hs))) (subst P (first_rest hs 0 some) c) in
    (ltb-true (get_or hs 0 0) 8 b.0, b.1)

-- a trace has 19 bytes for each hop, and the symbol's
pub length_trace : (hs s : List ℕ) → length (trace_text hs s) ≡ 19 * length hs + length s
length_trace [] s = omega arith
length_trace (h ∷ hs) s = omega (arith, length-append (hop_text h) (trace_text hs s), length_trace hs s)

-- the first places of a table of channels are channels
pub channels_each : (at : List ℕ) (n : ℕ) → ((i : ℕ) → get_or at i 0 < 8) → each (λ h. ltb h 8) (take n at) ≡ true
channels_each at zero all = refl
channels_each [] (suc n) all = refl
channels_each (h ∷ hs) (suc n) all = rw (lt-ltb h 8 (all 0)) (channels_each hs n (λ i. all (suc i)))

-- Sameness of denominations and of tokens is equality of what they stand for.
use Rattle.std.proofs.Common.{◌≡◌, ℕ, true, eqb, List, ap, eqb-true, eq-eqb}
use Rattle.std.proofs.lemmas.Bool.{and_parts}
use Rattle.std.proofs.lemmas.Slice.Eq.{bytes_eq-Decides}
use Rattle.denom.specs.Denomination.{Denom, Token, same_list, same_denom, same_token}

pub list_to : (xs ys : List ℕ) → same_list xs ys ≡ true → xs ≡ ys
list_to xs ys e = (bytes_eq-Decides xs ys).0 e

pub list_from : (xs ys : List ℕ) → xs ≡ ys → same_list xs ys ≡ true
list_from xs ys e = (bytes_eq-Decides xs ys).1 e

pub denom_to : (e f : Denom) → same_denom e f ≡ true → e ≡ f
denom_to e f s =
    let h = and_parts (same_list e.hops f.hops) (same_list e.symbol f.symbol) s in
    λ i. record { hops = list_to e.hops f.hops h.0 i; symbol = list_to e.symbol f.symbol h.1 i }

pub denom_from : (e f : Denom) → e ≡ f → same_denom e f ≡ true
denom_from e f s =
    rw (list_from e.hops f.hops (ap (λ (d : Denom). d.hops) s)) (list_from e.symbol f.symbol (ap (λ (d : Denom). d.symbol) s))

pub token_to : (t v : Token) → same_token t v ≡ true → t ≡ v
token_to t v s =
    let h = and_parts (eqb t.chain v.chain) (same_list t.symbol v.symbol) s in
    λ i. record { chain = eqb-true t.chain v.chain h.0 i; symbol = list_to t.symbol v.symbol h.1 i }

pub token_from : (t v : Token) → t ≡ v → same_token t v ≡ true
token_from t v s =
    rw (eq-eqb t.chain v.chain (ap (λ (d : Token). d.chain) s)) (list_from t.symbol v.symbol (ap (λ (d : Token). d.symbol) s))

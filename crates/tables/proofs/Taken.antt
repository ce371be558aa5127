-- Tables of which the first rows are taken.
use Rattle.std.proofs.Common.{◌≡◌, ℕ, zero, suc, ◌<◌, ◌≤◌, Bool, true, false, ◌||◌, eqb, ◌≢◌, List, [], ◌∷◌, ◌++◌, length, get_or, take, set, sym, refl, ap, ⊎_elim, arith, length-take, get_or-set_other, get_or-set_same, eq-eqb, ne_eqb}
use Rattle.std.proofs.lemmas.Bool.{cases_eq}
use Rattle.protocol.proofs.Bools.{or_false}
use native.Mathlib.Nat.{min-le_left}
use lib.ListN.{length-map}
use Rattle.tables.specs.declared.types.Link.{Link}
use Rattle.denom.specs.Views.{denom_view}
use Rattle.denom.specs.declared.types.Denomination.{Denomination}
use Rattle.tables.specs.declared.types.Rows.{Rows}
use Rattle.tables.specs.Rows.{rows_of}
use Rattle.tables.specs.View.{no_link, no_denominations, denoms_of}

-- a row replaced among those that are taken
pub take_of_set : {X : Type 0} (rows : List X) (n i : ℕ) (x : X) → i < n → take n (set rows i x) ≡ set (take n rows) i x
take_of_set rows zero i x h = absurd (omega arith)
take_of_set [] (suc n) i x h = refl
take_of_set (r ∷ rows) (suc n) zero x h = refl
take_of_set {X} (r ∷ rows) (suc n) (suc i) x h = ap (λ (l : List X). r ∷ l) (take_of_set rows n i x (omega arith))

-- one open link more closes none
pub still_closed : (rows : List Link) (x : Link) → x.closed ≡ false → (i : ℕ) → (get_or (rows ++ x ∷ []) i no_link).closed ≡ (get_or rows i no_link).closed
still_closed [] x e zero = e
still_closed [] x e (suc i) = refl
still_closed (r ∷ rows) x e zero = refl
still_closed (r ∷ rows) x e (suc i) = still_closed rows x e i

-- there are no more rows than places
pub few_rows : {T : Type 0} {N : ℕ} (r : Rows T N) → length (rows_of r) ≤ N
few_rows r = omega (arith, r.few, length-take r.count r.places, min-le_left r.count (length r.places))

-- a chain's register has at most 32 denominations
pub few_denoms : (rows : List (Rows Denomination 32)) (c : ℕ) → length (denoms_of rows c) ≤ 32
few_denoms rows c =
    let row = get_or rows c no_denominations in
    omega (arith, few_rows row, length-map (rows_of row) denom_view)

-- one link closed
pub one_closed :
    (rows : List Link) (l : ℕ) (x : Link) → l < length rows → x.closed ≡ true → (i : ℕ) →
    (get_or (set rows l x) i no_link).closed ≡ ((get_or rows i no_link).closed || eqb i l)
one_closed rows l x within e i =
    ⊎_elim
    (λ (same : i ≡ l).
    rw (same, get_or-set_same rows l x no_link within, e, eq-eqb l l refl) (sym (or_true (get_or rows l no_link).closed)))
    (λ (other : i ≢ l). rw (get_or-set_other rows l i x no_link other, ne_eqb i l other) (sym (or_false (get_or rows i no_link).closed)))
    (cases_eq i l)
  where
    or_true : (b : Bool) → (b || true) ≡ true
    or_true true = refl
    or_true false = refl

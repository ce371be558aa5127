-- The table of pairs seen: each place that is passed adds one pair, and there are no more pairs than the table has places.
use Rattle.std.proofs.Common.{◌≡◌, ℕ, ◌+◌, ◌<◌, ◌≤◌, Bool, true, false, List, [], ◌∷◌, length, get_or, set, replicate, is_some, Some, None, Option, sym, refl, ◌∙◌, ⊎_elim, arith, get_or-set_other, get_or-set_same}
use Rattle.std.proofs.lemmas.Bool.{cases_Bool, cases_eq}
use Rattle.ledger.proofs.Filled.{filled}
use Rattle.sums.specs.Sums.{gate, count}
use Rattle.sums.proofs.Counted.{total_set}
use Rattle.note_bank.specs.Notes.{pair_of, Place}

-- at most every row passes
pub count_most : {X : Type 0} (p : X → Bool) (xs : List X) → count p xs ≤ length xs
count_most p [] = omega arith
count_most p (x ∷ xs) =
    let rest : count p xs ≤ length xs = count_most p xs in
    ⊎_elim
    (λ (e : p x ≡ true). rw e (omega arith))
    (λ (e : p x ≡ false). rw e (omega arith))
    (cases_Bool (p x))

-- at first none is seen
pub none_seen : (n k q : ℕ) → get_or (replicate n None) q None ≡ Some k → ⊥
none_seen n k q e =
    let none : get_or {A = Option ℕ} (replicate n None) q None ≡ None = filled None n q in
    let z : ◌≡◌ {A = ℕ} 0 1 = cc in
    omega arith

-- the place that is noted for a pair was passed, and holds a note of that pair
abbrev pub Noted : List Place → List (Option ℕ) → ℕ → Type 0
Noted xs seen i = (q k : ℕ) → get_or seen q None ≡ Some k → (k < i) × (pair_of (get_or xs k None) ≡ Some q)

module _ (xs : List Place) (seen : List (Option ℕ)) (i q : ℕ) (within : q < length seen) (new : get_or seen q None ≡ None) where
  -- a pair that is new makes one more
  pub count_more : count is_some seen ≡ i → count is_some (set seen q (Some i)) ≡ i + 1
  count_more e =
      let on = total_set (λ (o : Option ℕ). gate (is_some o) 1) seen q (Some i) None within in
      omega (arith, rw new at on)

  pub noted_more : Noted xs seen i → pair_of (get_or xs i None) ≡ Some q → Noted xs (set seen q (Some i)) (i + 1)
  noted_more old here q' k e =
      ⊎_elim
      (λ (same : q' ≡ q).
      let at : get_or (set seen q (Some i)) q' None ≡ Some i = rw (same, get_or-set_same seen q (Some i) None within) refl in
      let last : k ≡ i = cc in
      (omega arith, rw (last, same) here))
      (λ (other : q' ≡ q → ⊥).
      let before = old q' k (sym (get_or-set_other seen q q' (Some i) None other) ∙ e) in
      (omega (arith, before.0), before.1))
      (cases_eq q' q)

-- The first piece of a text.
use Rattle.std.proofs.Common.{◌≡◌, ℕ, zero, suc, ◌+◌, ◌<◌, ◌≤◌, Bool, true, false, cond, eqb, List, [], ◌∷◌, length, get_or, take, drop, Some, sym, refl, ap, ◌∙◌, add-one, arith, eq-eqb, ne_eqb}
use Rattle.std.proofs.lemmas.List.{drop-drop, drop_all}
use Rattle.script.specs.Lines.{longer, pieces, Next}

cut_suc : (end : ℕ) (xs : List ℕ) (r : ℕ) → r < length xs → ((k : ℕ) → k < r → get_or xs k 0 ≡ end → ⊥) → get_or xs r 0 ≡ end → pieces end xs ≡ take r xs ∷ pieces end (drop (suc r) xs)
cut_suc end [] r lt before stops = absurd (omega arith)
cut_suc end (c ∷ cs) zero lt before stops = rw (eq-eqb c end stops) refl
cut_suc end (c ∷ cs) (suc r) lt before stops =
    let first : eqb c end ≡ false = ne_eqb c end (before 0 (omega arith)) in
    let rest = cut_suc end cs r (omega arith) (λ k h. before (suc k) (omega arith)) stops in
    rw (first, rest) refl

pub cut : (end : ℕ) (xs : List ℕ) (r : ℕ) → r < length xs → ((k : ℕ) → k < r → get_or xs k 0 ≡ end → ⊥) → get_or xs r 0 ≡ end → pieces end xs ≡ take r xs ∷ pieces end (drop (r + 1) xs)
cut end xs r lt before stops = rw (add-one r) (cut_suc end xs r lt before stops)

pub whole : (end : ℕ) (xs : List ℕ) → 0 < length xs → ((k : ℕ) → k < length xs → get_or xs k 0 ≡ end → ⊥) → pieces end xs ≡ xs ∷ []
whole end [] some before = absurd (omega arith)
whole end (c ∷ []) some before = rw (ne_eqb c end (before 0 (omega arith))) refl
whole end (c ∷ d ∷ ds) some before =
    let first : eqb c end ≡ false = ne_eqb c end (before 0 (omega arith)) in
    let rest = whole end (d ∷ ds) (omega arith) (λ k h. before (suc k) (omega arith)) in
    rw first (ap (longer c) rest)

module _ (end at n : ℕ) (text rest : List ℕ) (is : rest ≡ drop at text) (before : (k : ℕ) → k < n → get_or rest k 0 ≡ end → ⊥) where
  pub next_cut : (piece : List ℕ) → piece ≡ take n rest → n < length rest → get_or rest n 0 ≡ end → Next end (drop at text) (Some piece) (drop (at + (n + 1)) text)
  next_cut piece front lt stops =
      ap (pieces end) (sym is)
      ∙ cut end rest n lt before stops
      ∙ (λ i. sym front i ∷ pieces end (drop (n + 1) (is i)))
      ∙ ap (λ l. piece ∷ pieces end l) (drop-drop (n + 1) at text)

  pub next_whole : 0 < length rest → n ≡ length rest → Next end (drop at text) (Some rest) (drop (at + n) text)
  next_whole some all =
      ap (pieces end) (sym is)
      ∙ whole end rest some (λ k h. before k (omega arith))
      ∙ ap (λ l. rest ∷ pieces end l) (sym (drop_all n (drop at text) (omega (arith, ap length is))) ∙ drop-drop n at text)

pub own_length : (n : ℕ) (xs : List ℕ) → take n xs ≡ take (length (take n xs)) xs
own_length zero xs = refl
own_length (suc n) [] = refl
own_length (suc n) (x ∷ xs) = ap (λ l. x ∷ l) (own_length n xs)

-- a front of what is left is a front of what is left
pub placed : (n : ℕ) (rest part piece : List ℕ) → rest ≡ part → piece ≡ take n rest → piece ≡ take (length piece) part
placed n rest part piece is front = front ∙ own_length n rest ∙ (λ i. take (length (sym front i)) (is i))

length_longer : (c : ℕ) (ps : List (List ℕ)) → length (longer c ps) ≤ length ps + 1
length_longer c [] = omega arith
length_longer c (p ∷ ps) = omega arith

pub few_pieces : (end : ℕ) (xs : List ℕ) → length (pieces end xs) ≤ length xs
few_pieces end [] = omega arith
few_pieces end (c ∷ cs) =
    let P : Bool → Type 0 = λ b. length (cond b ([] ∷ pieces end cs) (longer c (pieces end cs))) ≤ suc (length cs) in
    let rest = few_pieces end cs in
    elim (eqb c end) as P [ true ↦ omega arith | false ↦ omega (arith, length_longer c (pieces end cs)) ]

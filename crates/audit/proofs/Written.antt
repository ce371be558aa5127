-- A line of words, written piece by piece and ended by LF.
use Rattle.std.proofs.Common.{◌≡◌, ℕ, zero, suc, ◌≤◌, Bool, true, false, cond, List, [], ◌∷◌, ◌++◌, length, take, drop, Some, None, refl, ap, ◌∙◌, append_assoc, length-append, arith}
use Rattle.std.proofs.lemmas.List.{take-append-drop}
use Rattle.figures.specs.Figures.{spaced, line_of, over}
use Rattle.protocol.specs.Audit.{line}

-- a line of words is its first word, and the others with a space before each
pub first_and_others : (w : List ℕ) (ws : List (List ℕ)) → line_of w ws ≡ line (w ∷ ws)
first_and_others w [] = refl
first_and_others w (v ∷ ws) = ap (λ (t : List ℕ). w ++ 32 ∷ t) (append_assoc v (spaced ws) (10 ∷ []) ∙ first_and_others v ws)

-- A slot that has a line: what is answered, and what the buffer then holds.

pub filled_answer : (b : Bool) (n : ℕ) (written line : List ℕ) → b ≡ true → n ≡ length written → written ≡ line → Some n ≡ cond b (Some (length line)) None
filled_answer b n written line there len same = rw there (ap Some (len ∙ ap length same))

pub filled_buffer : (b : Bool) (after before written line : List ℕ) → b ≡ true → after ≡ over written before → written ≡ line → after ≡ cond b (over line before) before
filled_buffer b after before written line there laid same = rw there (laid ∙ ap (λ l. over l before) same)

-- What the answer of a slot that has a line tells.
module _ (b : Bool) (n : ℕ) (line before after : List ℕ) (answer : Some n ≡ cond b (Some (length line)) None) (laid : after ≡ cond b (over line before) before) where
  pub has_one : (b ≡ true) × (n ≡ length line) × (after ≡ over line before)
  has_one = go b answer laid
    where
      go : (x : Bool) → Some n ≡ cond x (Some (length line)) None → after ≡ cond x (over line before) before → (x ≡ true) × (n ≡ length line) × (after ≡ over line before)
      go true e f = (refl, cc, f)
      go false e f = let z : ◌≡◌ {A = ℕ} 0 1 = cc in absurd (omega arith)

-- A line laid over the front n bytes of a buffer lies over the front of the whole of it.

rejoined : (k n : ℕ) (xs : List ℕ) → k ≤ n → drop k (take n xs) ++ drop n xs ≡ drop k xs
rejoined zero n xs h = take-append-drop n xs
rejoined (suc k) zero xs h = absurd (omega arith)
rejoined (suc k) (suc n) [] h = refl
rejoined (suc k) (suc n) (x ∷ xs) h = rejoined k n xs (omega arith)

pub over_front : (line xs after : List ℕ) (n : ℕ) → after ≡ over line (take n xs) → length line ≤ n → after ++ drop n xs ≡ over line xs
over_front line xs after n e h =
    ap (λ (l : List ℕ). l ++ drop n xs) e
    ∙ append_assoc line (drop (length line) (take n xs)) (drop n xs)
    ∙ ap (λ (l : List ℕ). line ++ l) (rejoined (length line) n xs h)

-- a line that was laid over as many bytes as there are then fits among them
pub fits_front : (line before after : List ℕ) (n : ℕ) → after ≡ over line before → length before ≡ n → length after ≡ n → length line ≤ n
fits_front line before after n e f h = omega (arith, ap length e, length-append line (drop (length line) before))

-- One digit more of a number of any size.
use Rattle.std.proofs.Common.{◌≡◌, ℕ, ◌+◌, ◌/◌, ◌%◌, ◌^◌, ◌<◌, ◌≤◌, [], ◌∷◌, ◌++◌, map, length, sym, refl, ap, ◌∙◌, ⊎_elim, arith, le-ltb, lt-ltb}
use lib.ListN.{length-map}
use Rattle.std.specs.Int.Digits.{digits_of}
use Rattle.std.proofs.lemmas.Int.Digits.{digits_of_step, length-digits_of-le}
use Rattle.std.proofs.lemmas.List.{map_push, length_push}
use Rattle.std.proofs.str.Laws.{order}
use Rattle.figures.specs.Figures.{figure}

pub figure_digit : (n : ℕ) → n < 10 → figure n ≡ (48 + n) ∷ []
figure_digit n h = rw (lt-ltb n 10 h) refl

pub figure_long : (n : ℕ) → 10 ≤ n → figure n ≡ map (λ d. 48 + d) (digits_of 10 n)
figure_long n h = rw (le-ltb n 10 h) refl

-- at one digit too
figure_some : (n : ℕ) → 0 < n → figure n ≡ map (λ d. 48 + d) (digits_of 10 n)
figure_some n h =
    ⊎_elim
    (λ small.
    let whole : n / 10 ≡ 0 = omega arith in
    let last : n % 10 ≡ n = omega arith in
    let e : digits_of 10 n ≡ n ∷ [] = digits_of_step 10 n (omega arith) h ∙ (λ i. digits_of 10 (whole i) ++ (last i ∷ [])) in
    figure_digit n small ∙ sym (ap (map (λ d. 48 + d)) e))
    (λ big. figure_long n big)
    (order n 10)

pub figure_step : (n : ℕ) → 10 ≤ n → figure n ≡ figure (n / 10) ++ ((48 + n % 10) ∷ [])
figure_step n h =
    figure_long n h
    ∙ ap (map (λ d. 48 + d)) (digits_of_step 10 n (omega arith) (omega arith))
    ∙ map_push (λ d. 48 + d) (digits_of 10 (n / 10)) (n % 10)
    ∙ ap (λ l. l ++ ((48 + n % 10) ∷ [])) (sym (figure_some (n / 10) (omega arith)))

pub length_figure_step : (n : ℕ) → 10 ≤ n → length (figure n) ≡ length (figure (n / 10)) + 1
length_figure_step n h = ap length (figure_step n h) ∙ length_push (figure (n / 10)) (48 + n % 10)

pub length_figure_le : (k n : ℕ) → 0 < k → n < 10 ^ k → length (figure n) ≤ k
length_figure_le k n pos h =
    ⊎_elim
    (λ small. omega (arith, ap length (figure_digit n small)))
    (λ big. omega (arith, ap length (figure_long n big), length-map (digits_of 10 n) (λ d. 48 + d), length-digits_of-le 10 k n (omega arith) h))
    (order n 10)

-- a number of 64 bits has at most 20 digits
pub length_figure_64 : (n : ℕ) → n < 2 ^ 64 → length (figure n) ≤ 20
length_figure_64 n h = length_figure_le 20 n (omega arith) (omega arith)

-- a number below 10^24 has at most 24
pub length_figure_24 : (n : ℕ) → n < 10 ^ 24 → length (figure n) ≤ 24
length_figure_24 n h = length_figure_le 24 n (omega arith) h

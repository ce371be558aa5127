-- Which texts are numbers, and which are not.
use Rattle.std.proofs.Common.{◌≡◌, ℕ, ◌+◌, ◌-◌, ◌*◌, ◌^◌, ◌<◌, ◌≤◌, Bool, true, false, cond, ◌&&◌, eqb, ltb, List, [], ◌∷◌, ◌++◌, length, get_or, take, drop, Some, None, decimal, Option, sym, refl, ap, ◌∙◌, subst, ⊎_elim, arith, take-append-drop, ltb-true, lt-ltb, eqb-true}
use Rattle.std.proofs.lemmas.Bool.{and_parts}
use Rattle.std.specs.Str.Parse.{AllDigits, digits_value, digits_value_after}
use Rattle.std.specs.Int.{IsInRange}
use Rattle.std.specs.Char.{digit_value as digitValue}
use Rattle.std.specs.Str.{bytes_eq}
use Rattle.std.proofs.lemmas.Slice.Eq.{bytes_eq-Decides}
use Rattle.std.proofs.lemmas.Str.Parse.{IsNumeralModel, numerals_by_value, tells_digits, digit_at}
use Rattle.std.proofs.lemmas.Fmt.{decimal_nonempty, decimal_digit, decimal-digits_of, decimal-digits_value, first_decimal, length-decimal-le, digits_decimal, digits_value-decimal}
use Rattle.std.proofs.lemmas.Bool.Decides.{nat_tests}
use Rattle.std.proofs.str.Laws.{order}
use Rattle.figures.specs.Figures.{figure, number_read, NumbersReadBack}
use Rattle.figures.proofs.Digits.{figure_digit, figure_long}

own : IsNumeralModel (AllDigits 10) (digits_value 10)
own = numerals_by_value (AllDigits 10) tells_digits

-- below 2^64 a figure is what the standard library writes
figure_decimal : (n : ℕ) → n < 2 ^ 64 → figure n ≡ decimal n
figure_decimal n h =
    ⊎_elim
    (λ small. figure_digit n small ∙ sym (decimal_digit n small))
    (λ big. figure_long n big ∙ sym (decimal-digits_of n (omega arith) h))
    (order n 10)

value_figure : (n : ℕ) → n < 2 ^ 64 → digits_value 10 (figure n) ≡ n
value_figure n h = ap (digits_value 10) (figure_decimal n h) ∙ digits_value-decimal own n h

-- no number below 2^64 is written so
abbrev pub NoNumber : List ℕ → Type 0
NoNumber bs = (n : ℕ) → n < 2 ^ 64 → bs ≡ decimal n → ⊥

pub none_read : (bs : List ℕ) → NoNumber bs → None ≡ number_read bs
none_read bs never = go (bytes_eq bs (figure (digits_value 10 bs)) && ltb (digits_value 10 bs) (2 ^ 64)) refl
  where
    go : (b : Bool) → (bytes_eq bs (figure (digits_value 10 bs)) && ltb (digits_value 10 bs) (2 ^ 64)) ≡ b → ◌≡◌ {A = Option ℕ} None (cond b (Some (digits_value 10 bs)) None)
    go false e = refl
    go true e =
        let h = and_parts (bytes_eq bs (figure (digits_value 10 bs))) (ltb (digits_value 10 bs) (2 ^ 64)) e in
        let fits : digits_value 10 bs < 2 ^ 64 = ltb-true (digits_value 10 bs) (2 ^ 64) h.1 in
        let is : bs ≡ figure (digits_value 10 bs) = (bytes_eq-Decides bs (figure (digits_value 10 bs))).0 h.0 in
        absurd (never (digits_value 10 bs) fits (is ∙ figure_decimal (digits_value 10 bs) fits))

pub some_read : (bs : List ℕ) (n : ℕ) → n < 2 ^ 64 → bs ≡ figure n → Some n ≡ number_read bs
some_read bs n h is =
    let v : digits_value 10 bs ≡ n = ap (digits_value 10) is ∙ value_figure n h in
    let same : bytes_eq bs (figure (digits_value 10 bs)) ≡ true = (bytes_eq-Decides bs (figure (digits_value 10 bs))).1 (is ∙ ap figure (sym v)) in
    let fits : ltb (digits_value 10 bs) (2 ^ 64) ≡ true = lt-ltb (digits_value 10 bs) (2 ^ 64) (omega (arith, v)) in
    sym (rw (same, fits, v) refl)

-- what the test for a leading zero tells
pub leads : (bs : List ℕ) → true ≡ (ltb 1 (length bs) && eqb (get_or bs 0 0) 48) → (1 < length bs) × (get_or bs 0 0 ≡ 48)
leads bs e =
    let h = and_parts (ltb 1 (length bs)) (eqb (get_or bs 0 0) 48) (sym e) in
    (ltb-true 1 (length bs) h.0, eqb-true (get_or bs 0 0) 48 h.1)

pub leads_not : (bs : List ℕ) → false ≡ (ltb 1 (length bs) && eqb (get_or bs 0 0) 48) → 0 < length bs → get_or bs 0 0 ≡ 48 → length bs ≡ 1
leads_not bs e some zero = grind (arith, nat_tests)

-- Why a text is no number: it is empty, it has a leading zero, a byte is no digit, its value is too great.

pub none_empty : (bs : List ℕ) → length bs ≡ 0 → NoNumber bs
none_empty bs z n h e = omega (arith, ap length e, decimal_nonempty n h)

pub none_led : (bs : List ℕ) → 1 < length bs → get_or bs 0 0 ≡ 48 → NoNumber bs
none_led bs long first n h e =
    ⊎_elim
    (λ pos. omega (arith, first_decimal n pos h, ap (λ l. get_or l 0 0) e))
    (λ z. omega (arith, ap length e, length-decimal-le 1 n (omega arith) (omega arith) h))
    (order 0 n)

pub none_digit : (bs : List ℕ) (i : ℕ) → i < length bs → (IsInRange 48 57 (get_or bs i 0) → ⊥) → NoNumber bs
none_digit bs i lt other n h e =
    other (subst (λ l. IsInRange 48 57 (get_or l i 0)) (sym e) (digit_at (decimal n) i (digits_decimal own n h) (omega (arith, ap length e))))

after_ge : (n : ℕ) (cs : List ℕ) → n ≤ digits_value_after 10 n cs
after_ge n [] = omega arith
after_ge n (c ∷ cs) = let d : ℕ = digitValue c in omega (arith, after_ge (n * 10 + digitValue c) cs)

after_append : (n : ℕ) (xs ys : List ℕ) → digits_value_after 10 n (xs ++ ys) ≡ digits_value_after 10 (digits_value_after 10 n xs) ys
after_append n [] ys = refl
after_append n (c ∷ cs) ys = after_append (n * 10 + digitValue c) cs ys

-- the front of a text has no greater value than the whole
front_le : (bs : List ℕ) (i : ℕ) → digits_value 10 (take i bs) ≤ digits_value 10 bs
front_le bs i =
    let e : digits_value 10 bs ≡ digits_value_after 10 (digits_value 10 (take i bs)) (drop i bs) = sym (ap (digits_value 10) (take-append-drop i bs)) ∙ after_append 0 (take i bs) (drop i bs) in
    omega (arith, e, after_ge (digits_value 10 (take i bs)) (drop i bs))

pub none_great : (bs : List ℕ) (i : ℕ) → 2 ^ 64 ≤ digits_value 10 (take i bs) → NoNumber bs
none_great bs i big n h e = omega (arith, ap (digits_value 10) e, digits_value-decimal own n h, front_le bs i)

-- digits without a leading zero are what their value is written as
pub some_number : (bs : List ℕ) (n : ℕ) → AllDigits 10 bs → n ≡ digits_value 10 bs → n < 2 ^ 64 → 0 < length bs → (get_or bs 0 0 ≡ 48 → length bs ≡ 1) → Some n ≡ number_read bs
some_number bs n ds is fits some lead =
    some_read bs n fits (sym (figure_decimal n fits ∙ ap decimal is ∙ decimal-digits_value own bs ds some lead (subst (λ m. m < 2 ^ 64) is fits)))

pub digit_value : (c : ℕ) → 48 ≤ c → c ≤ 57 → digitValue c ≡ c - 48
digit_value c l h = grind (arith, nat_tests)

-- a number that is written reads back
pub numbers_read_back : NumbersReadBack
numbers_read_back n h = sym (some_read (figure n) n h refl)

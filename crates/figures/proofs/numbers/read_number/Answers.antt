use Rattle.std.proofs.Common.{◌+◌, ◌<◌, length, get_or, ap, ◌∙◌, subst, arith, take_all, true-eqb, false-eqb}
use Rattle.std.specs.Str.Parse.{AllDigits, digits_value}
use Rattle.std.proofs.lemmas.Int.Digits.{digits_value_more, digits_more}
use Rattle.figures.proofs.Numerals.{digit_value, none_read, none_empty, none_led, none_digit, none_great, some_number, leads, leads_not}
use Rattle.figures.proofs.numbers.read_number.Goals as goal
use Rattle.figures.proofs.numbers.read_number.Goals.{then-is_empty-via-then-is_empty, then-is_empty-via-else-is_empty+then-has_leading_zero}

pub returns-then-is_empty : goal.returns-then-is_empty
returns-then-is_empty c =
    none_read _
    (elim c.then-is_empty.branch [
      | then-is_empty-via-then-is_empty w ↦ none_empty c.args.text.now (true-eqb _ 0 w.if-is_empty.ensures)
      | then-is_empty-via-else-is_empty+then-has_leading_zero w ↦ let led = leads c.args.text.now w.if-has_leading_zero.ensures in none_led c.args.text.now led.0 led.1
    ])

pub returns-then-not-is_ascii_digit : goal.returns-then-not-is_ascii_digit
returns-then-not-is_ascii_digit c =
    none_read _ (none_digit c.args.text.now c.loop-b.b-index c.loop-b-test.true (λ d. omega (arith, d, c.if-not-is_ascii_digit.ensures.cases)))

pub returns-in_err-checked_mul : goal.returns-in_err-checked_mul
returns-in_err-checked_mul c =
    let text = c.args.text.now in
    let i = c.loop-b.b-index in
    let over = rw c.in_err-checked_mul.was at c.checked_mul.ensures in
    c.from_residual.ensures ∙ none_read _ (none_great text (i + 1) (omega (arith, digits_value_more 10 text i c.loop-b-test.true, c.loop-b.invariant.2, over)))

pub returns-in_err-n : goal.returns-in_err-n
returns-in_err-n c =
    let text = c.args.text.now in
    let i = c.loop-b.b-index in
    let dv = digit_value (get_or text i 0) c.if-not-is_ascii_digit.ensures.cases.0 c.if-not-is_ascii_digit.ensures.cases.1 in
    let ten = rw c.in_ok-checked_mul.was at c.checked_mul.ensures in
    let over = rw c.in_err-n.was at c.checked_add.ensures in
    c.from_residual-in_err-n.ensures ∙ none_read _ (none_great text (i + 1) (omega (arith, digits_value_more 10 text i c.loop-b-test.true, dv, c.from.ensures, c.loop-b.invariant.2, ten, over)))

pub loop-b-preserved : goal.loop-b-preserved
loop-b-preserved c =
    let text = c.args.text.now in
    let i = c.loop-b.b-index in
    let digit = c.if-not-is_ascii_digit.ensures.cases in
    let dv = digit_value (get_or text i 0) digit.0 digit.1 in
    let ten = rw c.in_ok-checked_mul.was at c.checked_mul.ensures in
    let sum = rw c.in_ok-n.was at c.checked_add.ensures in (
      omega (arith, ten, sum),
      digits_more 10 text i c.loop-b-test.true c.loop-b.invariant.1 (omega (arith, dv, digit)),
      omega (arith, digits_value_more 10 text i c.loop-b-test.true, dv, c.from.ensures, c.loop-b.invariant.2, ten, sum),
    )

pub returns : goal.returns
returns c =
    let text = c.args.text.now in
    let all = take_all c.loop-b.b-index text c.loop-b-test.false in
    let some : 0 < length text = omega (arith, false-eqb _ 0 c.if-is_empty.ensures) in
    some_number text c.loop-b.n (subst (AllDigits 10) all c.loop-b.invariant.1) (c.loop-b.invariant.2 ∙ ap (digits_value 10) all) c.loop-b.invariant.0 some
    (leads_not c.args.text.now c.if-has_leading_zero.ensures some)

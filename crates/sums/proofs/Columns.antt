-- A column of a table of amounts, added up, is the sum of its accounts' amounts.
use Rattle.std.proofs.Common.{◌≡◌, ℕ, ◌+◌, ◌*◌, ◌/◌, ◌<◌, ◌≤◌, eqb, leb, List, length, get_or, ◌∙◌, arith}
use lib.Arith.{digits_div, digits_mod}
use Rattle.std.proofs.lemmas.Bool.Decides.{nat_tests}
use Rattle.sums.specs.Sums.{sum_below, gate, counted}
use Rattle.sums.specs.Columns.{in_column}
use Rattle.sums.specs.declared.Column.{Column}
use Rattle.sums.proofs.Below.{sum_same, sum_beyond, sum_table, sum_only}
use Rattle.sums.proofs.Counted.{counted_below}

module _ (w : Column) (xs : List ℕ) (long : w.to * 32 ≤ length xs) (known : w.denomination < 32) where
  term : ℕ → ℕ
  term i = gate (in_column w (get_or xs i 0) i) (get_or xs i 0)

  -- behind the last account of the column nothing counts
  past : (i : ℕ) → w.to * 32 ≤ i → term i ≡ 0
  unfolding term
  past i h = let e : w.to ≤ i / 32 = omega arith in grind (arith, nat_tests)

  -- in an account's row one amount counts
  row : (a k : ℕ) → a < w.to → k < 32 → term (a * 32 + k) ≡ gate (eqb k w.denomination) (gate (leb w.from a) (get_or xs (a * 32 + k) 0))
  unfolding term
  row a k ha hk = rw (digits_div a hk, digits_mod a hk) (grind (arith, nat_tests))

  -- the column's amounts, account by account
  pub column_counted : counted (λ x i. x) (in_column w) xs ≡ sum_below w.to (λ a. gate (leb w.from a) (get_or xs (a * 32 + w.denomination) 0))
  unfolding term
  column_counted =
      counted_below (λ x i. x) (in_column w) 0 xs
      ∙ sum_beyond (w.to * 32) (length xs) term long (λ i l u. past i l)
      ∙ sum_table w.to 32 term
      ∙ sum_same w.to _ _ (λ a h.
      sum_same 32 _ _ (λ k l. row a k h l)
      ∙ sum_only 32 w.denomination (λ k. gate (leb w.from a) (get_or xs (a * 32 + k) 0)) known)

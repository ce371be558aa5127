-- The refusal that applies first where one of the world's own checks stops a call, or that none does.
use Rattle.std.proofs.Common.{◌≡◌, ℕ, ◌+◌, true, false, not, ◌&&◌, ◌||◌, eqb, ltb, leb, List, length, Some, None, arith}
use Rattle.std.proofs.lemmas.Bool.Decides.{nat_tests}
use Rattle.denom.specs.Denomination.{Denom, hopless}
use Rattle.denom.specs.Text.{is_symbol}
use Rattle.protocol.specs.House.{most}
use Rattle.protocol.specs.Refusals.{first}
use Rattle.protocol.specs.World.{World, registered}
use Rattle.protocol.specs.Calls.{served, token_known, token_at, issue, retire, pay, tick, bar, unbar, home, refusals}

module _ (w : World) (c u : ℕ) (e : Denom) (n : ℕ) where
  pub retire_no_chain : served w c ≡ false → first (refusals w (retire c u e n)) ≡ Some 6
  retire_no_chain s = rw s

  pub retire_no_user : served w c ≡ true → leb 16 u ≡ true → first (refusals w (retire c u e n)) ≡ Some 12
  retire_no_user s over = rw (s, over)

  pub retire_nothing : served w c ≡ true → leb 16 u ≡ false → eqb n 0 ≡ true → first (refusals w (retire c u e n)) ≡ Some 13
  retire_nothing s user zero = rw (s, user, zero)

  pub retire_unknown : served w c ≡ true → leb 16 u ≡ false → eqb n 0 ≡ false → registered w c e ≡ false → first (refusals w (retire c u e n)) ≡ Some 14
  retire_unknown s user some new = rw (s, user, some, new)

  pub retire_voucher : served w c ≡ true → leb 16 u ≡ false → eqb n 0 ≡ false → registered w c e ≡ true → eqb (length e.hops) 0 ≡ false → first (refusals w (retire c u e n)) ≡ Some 15
  retire_voucher s user some known hops = grind (arith, nat_tests)

module _ (w : World) (c u : ℕ) (sy : List ℕ) (n : ℕ) (spelt : is_symbol sy ≡ true) where
  pub issue_no_chain : served w c ≡ false → first (refusals w (issue c u sy n)) ≡ Some 6
  issue_no_chain s = rw (spelt, s)

  pub issue_no_user : served w c ≡ true → leb 16 u ≡ true → first (refusals w (issue c u sy n)) ≡ Some 12
  issue_no_user s over = rw (spelt, s, over)

  pub issue_nothing : served w c ≡ true → leb 16 u ≡ false → eqb n 0 ≡ true → first (refusals w (issue c u sy n)) ≡ Some 13
  issue_nothing s user zero = rw (spelt, s, user, zero)

  pub issue_full :
      served w c ≡ true → leb 16 u ≡ false → eqb n 0 ≡ false →
      ((not (token_known w (token_at c sy)) && leb 64 (length w.tokens)) || (not (registered w c (hopless sy)) && leb 32 (length (w.register c)))) ≡ true →
      first (refusals w (issue c u sy n)) ≡ Some 23
  issue_full s user some full = rw (spelt, s, user, some, full)

module _ (w : World) (c u v : ℕ) (e : Denom) (n : ℕ) where
  pub pay_no_chain : served w c ≡ false → first (refusals w (pay c u v e n)) ≡ Some 6
  pay_no_chain s = rw s

  pub pay_nothing : served w c ≡ true → leb 16 u ≡ false → leb 16 v ≡ false → eqb n 0 ≡ true → first (refusals w (pay c u v e n)) ≡ Some 13
  pay_nothing s user payee zero = rw (s, user, payee, zero)

  pub pay_unknown : served w c ≡ true → leb 16 u ≡ false → leb 16 v ≡ false → eqb n 0 ≡ false → registered w c e ≡ false → first (refusals w (pay c u v e n)) ≡ Some 14
  pay_unknown s user payee some new = rw (s, user, payee, some, new)

module _ (w : World) (c n : ℕ) where
  pub bar_no_chain : served w c ≡ false → first (refusals w (bar c n)) ≡ Some 6
  bar_no_chain s = rw s

  pub unbar_no_chain : served w c ≡ false → first (refusals w (unbar c n)) ≡ Some 6
  unbar_no_chain s = rw s

  pub tick_no_chain : served w c ≡ false → first (refusals w (tick c n)) ≡ Some 6
  tick_no_chain s = rw s

  pub tick_nothing : served w c ≡ true → eqb n 0 ≡ true → first (refusals w (tick c n)) ≡ Some 13
  tick_nothing s zero = rw (s, zero)

  pub tick_too_high : served w c ≡ true → eqb n 0 ≡ false → ltb most (w.height c + n) ≡ true → first (refusals w (tick c n)) ≡ Some 24
  tick_too_high s some high = rw (s, some, high)

module _ (w : World) (c : ℕ) (e : Denom) where
  pub home_no_chain : served w c ≡ false → first (refusals w (home c e)) ≡ Some 6
  home_no_chain s = rw s

  pub home_unknown : served w c ≡ true → registered w c e ≡ false → first (refusals w (home c e)) ≡ Some 14
  home_unknown s new = rw (s, new)

  pub home_free : served w c ≡ true → registered w c e ≡ true → first (refusals w (home c e)) ≡ None
  home_free s known = rw (s, known)

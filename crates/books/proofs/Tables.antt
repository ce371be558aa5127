-- A table without marks, and one mark written, as the book sees them.
use Rattle.std.proofs.Common.{◌≡◌, ℕ, ◌+◌, ◌-◌, ◌*◌, ◌<◌, ◌≤◌, Bool, false, List, length, get_or, set, replicate, Some, None, Option, refl, ap, ⊎_elim, arith, get_or-set_other, get_or-set_same}
use mathlib.Core.Path.{fun_ext}
use lib.ListN.{length-replicate}
use Rattle.std.specs.Option.{option_map}
use Rattle.std.proofs.lemmas.List.{get_or_past, get_or-replicate}
use Rattle.std.proofs.lemmas.Bool.{cases_eq, cases_lt}
use Rattle.std.proofs.lemmas.Bool.Decides.{nat_tests}
use Rattle.protocol.specs.declared.marks.Mark.{Mark}
use Rattle.protocol.specs.Book.{Book, mark_number, taken}
use Rattle.books.specs.Table.{mark_in, book_of, empty_book}

-- each place of an empty table
none_at : (n k : ℕ) → get_or {A = Option Mark} (replicate n None) k None ≡ None
none_at n k =
    ⊎_elim
    (λ (h : k < n). get_or-replicate n k None None h)
    (λ (h : n ≤ k). get_or_past (replicate n None) k None (rw length-replicate h))
    (cases_lt k n)

pub none_marked : (n : ℕ) → mark_in (replicate n None) ≡ (λ _ _. None)
unfolding mark_in
none_marked n =
    fun_ext λ i. fun_ext λ s. let h = none_at n (i * 512 + (s - 1)) in rw h (grind (arith, nat_tests))

-- so the book is empty, strict or not
pub none_booked : (strict : Bool) (n : ℕ) → book_of strict (replicate n None) ≡ empty_book strict
none_booked strict n = ap (λ (m : ℕ → ℕ → Option ℕ). let b : Book = record { strict = strict; mark = m } in b) (none_marked n)

module _ (xs : List (Option Mark)) (i s : ℕ) (m : Mark) (long : length xs ≡ 16384) (hi : i < 32) (low : 1 ≤ s) (high : s ≤ 512) where
  write_each : (i' s' : ℕ) → mark_in (set xs (i * 512 + (s - 1)) (Some m)) i' s' ≡ (taken (book_of false xs) i s (mark_number m)).mark i' s'
  unfolding mark_in
  write_each i' s' =
      let at : ℕ = i * 512 + (s - 1) in
      ⊎_elim
      (λ (e : i' * 512 + (s' - 1) ≡ i * 512 + (s - 1)).
      let here : option_map mark_number (get_or (set xs (i * 512 + (s - 1)) (Some m)) (i' * 512 + (s' - 1)) None) ≡ Some (mark_number m) = rw e (rw (get_or-set_same xs (i * 512 + (s - 1)) (Some m) None (omega arith)) refl) in
      grind (arith, nat_tests))
      (λ (e : i' * 512 + (s' - 1) ≡ i * 512 + (s - 1) → ⊥).
      let there : option_map mark_number (get_or (set xs (i * 512 + (s - 1)) (Some m)) (i' * 512 + (s' - 1)) None) ≡ option_map mark_number (get_or xs (i' * 512 + (s' - 1)) None) = rw (get_or-set_other xs (i * 512 + (s - 1)) (i' * 512 + (s' - 1)) (Some m) None e) refl in
      grind (arith, nat_tests))
      (cases_eq (i' * 512 + (s' - 1)) (i * 512 + (s - 1)))

  -- a write takes one mark into the book
  pub written : mark_in (set xs (i * 512 + (s - 1)) (Some m)) ≡ (taken (book_of false xs) i s (mark_number m)).mark
  written = fun_ext λ i'. fun_ext λ s'. write_each i' s'

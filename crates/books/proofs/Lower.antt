-- Whether each number below a bound passes a test, where the numbers are gone through from the first.
use Rattle.std.proofs.Common.{◌≡◌, ℕ, zero, suc, ◌+◌, Bool, true, false, ◌&&◌, is_some, Some, None, Option, refl, ap, ◌∙◌, arith}
use Rattle.std.specs.List.{list_all, range_with_len}
use Rattle.std.specs.Option.{option_map}
use Rattle.protocol.specs.declared.marks.Mark.{Mark}
use Rattle.protocol.specs.Book.{each_below, mark_number}

-- three tests, two of them first
and_assoc : (x y z : Bool) → ((x && y) && z) ≡ (x && (y && z))
and_assoc true y z = refl
and_assoc false y z = refl

-- the first number taken off
each_first : (n : ℕ) (p : ℕ → Bool) → each_below (suc n) p ≡ (p 0 && each_below n (λ k. p (suc k)))
each_first zero p = elim (p 0) as (λ (b : Bool). b ≡ (b && true)) [ true ↦ refl | false ↦ refl ]
each_first (suc n) p = ap (λ (b : Bool). b && p (suc n)) (each_first n p) ∙ and_assoc (p 0) (each_below n (λ k. p (suc k))) (p (suc n))

-- the numbers of a range all pass
pub all_in_range : (p q : ℕ → Bool) (a n : ℕ) → ((k : ℕ) → p (a + k) ≡ q k) → list_all p (range_with_len a n) ≡ each_below n q
all_in_range p q a zero same = refl
all_in_range p q a (suc n) same =
    let here : p a ≡ q 0 = let e : a + 0 ≡ a = omega arith in rw e at (same 0) in
    let rest : list_all p (range_with_len (a + 1) n) ≡ each_below n (λ k. q (suc k)) =
    all_in_range p (λ k. q (suc k)) (a + 1) n (λ k. let e : (a + 1) + k ≡ a + suc k = omega arith in rw e (same (suc k))) in
    rw (here, rest, each_first n q) refl

-- a mark is there where its number is
pub some_mapped : (o : Option Mark) → is_some o ≡ is_some (option_map mark_number o)
some_mapped None = refl
some_mapped (Some m) = refl

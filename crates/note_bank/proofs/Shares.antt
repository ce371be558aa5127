-- What one place more, one place replaced and places freed do to the sums of notes, and what the adding-up routine gives.
use Rattle.std.proofs.Common.{◌≡◌, ℕ, zero, suc, ◌+◌, ◌<◌, ◌≤◌, true, false, cond, ◌&&◌, eqb, List, [], ◌∷◌, ◌++◌, map, length, get_or, take, drop, set, sym, refl, ap, ◌∙◌, ⊎_elim, arith, length-set, Bool, None, Some}
use mathlib.Core.Path.{fun_ext}
use Rattle.std.proofs.lemmas.List.{get_or_past, get_or-map, length-map}
use Rattle.std.proofs.lemmas.Bool.{cases_eq, cases_lt, cases_Bool}
use Rattle.std.proofs.lemmas.Bool.Decides.{nat_tests}
use Rattle.sums.specs.Sums.{sum_below, total, gate, counted, amount_held, held_counts}
use Rattle.sums.specs.declared.Column.{Column}
use Rattle.sums.proofs.Below.{sum_same, sum_zero, sum_only, sum_add}
use Rattle.sums.proofs.Counted.{counted_total, total_same, total_set}
use Rattle.protocol.specs.House.{most}
use Rattle.protocol.specs.Ledger.{Balances, supply, put}
use Rattle.note_bank.specs.Notes.{amount_of, belongs, share, note_in, FreeFrom, released, held, note_balances, Place}
use Rattle.note_bank.specs.declared.place.Note.{Note}

-- one place replaced
pub held_set : (xs : List Place) (i : ℕ) (p : Place) → i < length xs → (a d : ℕ) → held (set xs i p) a d + share a d (get_or xs i None) ≡ held xs a d + share a d p
unfolding held
held_set xs i p h a d = total_set (share a d) xs i p None h

-- the places of an account's notes freed
share_released : (a d a' d' : ℕ) (p : Place) → share a' d' (released a d p) ≡ cond (eqb a' a && eqb d' d) 0 (share a' d' p)
share_released a d a' d' None = grind (arith, nat_tests)
share_released a d a' d' (Some n) =
    ⊎_elim
    (λ (e : belongs a d (Some n) ≡ true). rw e (grind (arith, nat_tests)))
    (λ (e : belongs a d (Some n) ≡ false). rw e (grind (arith, nat_tests)))
    (cases_Bool (belongs a d (Some n)))

pub held_released : (xs : List Place) (a d a' d' : ℕ) → held (map (released a d) xs) a' d' ≡ cond (eqb a' a && eqb d' d) 0 (held xs a' d')
unfolding held
held_released [] a d a' d' = grind (arith, nat_tests)
held_released (x ∷ xs) a d a' d' =
    let here : share a' d' (released a d x) ≡ cond (eqb a' a && eqb d' d) 0 (share a' d' x) = share_released a d a' d' x in
    let rest : total (share a' d') (map (released a d) xs) ≡ cond (eqb a' a && eqb d' d) 0 (total (share a' d') xs) = held_released xs a d a' d' in
    ⊎_elim
    (λ (e : (eqb a' a && eqb d' d) ≡ true). rw e (omega (arith, rw e at here, rw e at rest)))
    (λ (e : (eqb a' a && eqb d' d) ≡ false). rw e (omega (arith, rw e at here, rw e at rest)))
    (cases_Bool (eqb a' a && eqb d' d))

-- free places are as they were
free_released : (xs : List Place) (a d : ℕ) → ((k : ℕ) → get_or xs k None ≡ None) → map (released a d) xs ≡ xs
free_released [] a d free = refl
free_released (x ∷ xs) a d free =
    let here : released a d x ≡ x = rw (free 0) refl in
    let rest : map (released a d) xs ≡ xs = free_released xs a d (λ k. free (suc k)) in
    cc

-- so where only the places used are freed of the notes, all places are
pub front_released : (n : ℕ) (xs : List Place) (a d : ℕ) → FreeFrom n xs → map (released a d) (take n xs) ++ drop n xs ≡ map (released a d) xs
front_released zero xs a d rest = sym (free_released xs a d (λ k. rest k (omega arith)))
front_released (suc n) [] a d rest = refl
front_released (suc n) (x ∷ xs) a d rest =
    let behind : map (released a d) (take n xs) ++ drop n xs ≡ map (released a d) xs = front_released n xs a d (λ k h. rest (suc k) (omega arith)) in
    cc

-- and those stay free
pub rest_released : (n : ℕ) (xs : List Place) (a d : ℕ) → FreeFrom n xs → FreeFrom n (map (released a d) xs)
rest_released n xs a d rest k h =
    ⊎_elim
    (λ (l : k < length xs). get_or-map (released a d) xs k None None l ∙ rw (rest k h) refl)
    (λ (l : length xs ≤ k). get_or_past (map (released a d) xs) k None (rw length-map l))
    (cases_lt k (length xs))

-- the balances of places that hold the same, and of places where one sum is another
pub balances_same : (xs ys : List Place) → length ys ≡ length xs → ((a d : ℕ) → held ys a d ≡ held xs a d) → note_balances ys ≡ note_balances xs
unfolding note_balances
balances_same xs ys len same = fun_ext λ c. fun_ext λ a. fun_ext λ d. let h = same a d in grind (arith, nat_tests)

pub balances_put : (xs ys : List Place) (a d v : ℕ) → 1024 ≤ length xs → length ys ≡ length xs → a < 24 → d < 32 → ((a' d' : ℕ) → held ys a' d' ≡ cond (eqb a' a && eqb d' d) v (held xs a' d')) → note_balances ys ≡ put (note_balances xs) 0 a d v
unfolding note_balances
balances_put xs ys a d v long len ha hd each =
    fun_ext λ c'. fun_ext λ a'. fun_ext λ d'. let h = each a' d' in grind (arith, nat_tests)

pub balance_held : (xs : List Place) (a d : ℕ) → 1024 ≤ length xs → a < 24 → d < 32 → note_balances xs 0 a d ≡ held xs a d
unfolding note_balances
balance_held xs a d long ha hd = grind (arith, nat_tests)

-- a note put into a free place
module _ (xs : List Place) (i : ℕ) (n : Note) (long : 1024 ≤ length xs) (within : i < length xs) (free : get_or xs i None ≡ None) where
  added_each : (a d : ℕ) → held (set xs i (Some n)) a d ≡ cond (eqb a n.holding.account && eqb d n.holding.denomination) (note_balances xs 0 n.holding.account n.holding.denomination + n.amount) (held xs a d)
  added_each a d =
      let on = rw free at (held_set xs i (Some n) within a d) in
      let was = balance_held xs n.holding.account n.holding.denomination long n.holding.account_known n.holding.denomination_known in
      ⊎_elim
      (λ (e : a ≡ n.holding.account). ⊎_elim
      (λ (f : d ≡ n.holding.denomination).
      let same : held xs a d ≡ held xs n.holding.account n.holding.denomination = rw (e, f) refl in
      grind (arith, nat_tests))
      (λ (f : d ≡ n.holding.denomination → ⊥). grind (arith, nat_tests))
      (cases_eq d n.holding.denomination))
      (λ (e : a ≡ n.holding.account → ⊥). grind (arith, nat_tests))
      (cases_eq a n.holding.account)

  pub note_added : note_balances (set xs i (Some n)) ≡ put (note_balances xs) 0 n.holding.account n.holding.denomination (note_balances xs 0 n.holding.account n.holding.denomination + n.amount)
  note_added = balances_put xs (set xs i (Some n)) n.holding.account n.holding.denomination _ long (length-set xs i (Some n)) n.holding.account_known n.holding.denomination_known added_each

-- what the adding-up routine gives for a column of places
abbrev pub notes_counted : Column → List Place → ℕ
notes_counted w xs = counted (amount_held (λ (n : Note) i. n.amount)) (held_counts (note_in w)) xs

-- a place with a note of the column
abbrev in_column : Column → Place → Bool
in_column w p = held_counts (note_in w) p 0

-- which places count does not depend on their number
column_total : (w : Column) (xs : List Place) → notes_counted w xs ≡ total (λ p. gate (in_column w p) (amount_of p)) xs
column_total w xs = counted_total (amount_held (λ (n : Note) i. n.amount)) (held_counts (note_in w)) amount_of (in_column w) worth same xs
  where
    worth : (p : Place) (i : ℕ) → amount_held (λ (n : Note) i. n.amount) p i ≡ amount_of p
    worth None i = refl
    worth (Some n) i = refl

    same : (p : Place) (i : ℕ) → held_counts (note_in w) p i ≡ in_column w p
    same None i = refl
    same (Some n) i = refl

-- one account
one_share : (w : Column) (a : ℕ) → w.from ≡ a → w.to ≡ a + 1 → (p : Place) → gate (in_column w p) (amount_of p) ≡ share a w.denomination p
one_share w a e f None = refl
one_share w a e f (Some n) = grind (arith, nat_tests)

account_held : (w : Column) (xs : List Place) (a : ℕ) → w.from ≡ a → w.to ≡ a + 1 → notes_counted w xs ≡ held xs a w.denomination
unfolding held
account_held w xs a e f = column_total w xs ∙ total_same _ _ (one_share w a e f) xs

-- the first accounts
each_share : (w : Column) → w.from ≡ 0 → (p : Place) → sum_below w.to (λ a. share a w.denomination p) ≡ gate (in_column w p) (amount_of p)
each_share w e None = sum_zero w.to
each_share w e (Some n) =
    ⊎_elim
    (λ (h : n.holding.account < w.to).
    sum_same w.to _ (λ a. gate (eqb a n.holding.account) (gate (eqb n.holding.denomination w.denomination) n.amount)) (λ a l. grind (arith, nat_tests))
    ∙ sum_only w.to n.holding.account (λ a. gate (eqb n.holding.denomination w.denomination) n.amount) h
    ∙ grind (arith, nat_tests))
    (λ (h : w.to ≤ n.holding.account).
    sum_same w.to _ (λ a. 0) (λ a l. grind (arith, nat_tests))
    ∙ sum_zero w.to
    ∙ grind (arith, nat_tests))
    (cases_lt n.holding.account w.to)

column_held : (w : Column) → w.from ≡ 0 → (xs : List Place) → total (λ p. gate (in_column w p) (amount_of p)) xs ≡ sum_below w.to (λ a. held xs a w.denomination)
unfolding held
column_held w e [] = sym (sum_zero w.to)
column_held w e (x ∷ xs) =
    let rest : total (λ p. gate (in_column w p) (amount_of p)) xs ≡ sum_below w.to (λ a. total (share a w.denomination) xs) = column_held w e xs in
    omega (arith, each_share w e x, rest, sum_add w.to (λ a. share a w.denomination x) (λ a. total (share a w.denomination) xs))

-- places that are all free hold nothing
free_held : (xs : List Place) → ((k : ℕ) → get_or xs k None ≡ None) → (a d : ℕ) → held xs a d ≡ 0
unfolding held
free_held [] free a d = refl
free_held (x ∷ xs) free a d =
    let here : share a d x ≡ 0 = rw (free 0) refl in
    let rest : total (share a d) xs ≡ 0 = free_held xs (λ k. free (suc k)) a d in
    omega arith

-- so all is held by the places in front of those
held_front : (n : ℕ) (xs : List Place) → FreeFrom n xs → (a d : ℕ) → held (take n xs) a d ≡ held xs a d
unfolding held
held_front zero xs rest a d = sym (free_held xs (λ k. rest k (omega arith)) a d)
held_front (suc n) [] rest a d = refl
held_front (suc n) (x ∷ xs) rest a d =
    let behind : total (share a d) (take n xs) ≡ total (share a d) xs = held_front n xs (λ k h. rest (suc k) (omega arith)) a d in
    omega arith

-- and adding up the front gives the balances
module _ (w : Column) (n : ℕ) (xs : List Place) (rest : FreeFrom n xs) (long : 1024 ≤ length xs) (known : w.denomination < 32) where
  pub account_counted : (a : ℕ) → w.from ≡ a → w.to ≡ a + 1 → a < 24 → notes_counted w (take n xs) ≡ note_balances xs 0 a w.denomination
  account_counted a e f h =
      account_held w (take n xs) a e f
      ∙ held_front n xs rest a w.denomination
      ∙ sym (balance_held xs a w.denomination long h known)

  pub column_counted : w.from ≡ 0 → w.to ≤ 24 → notes_counted w (take n xs) ≡ sum_below w.to (λ a. note_balances xs 0 a w.denomination)
  column_counted e few =
      column_total w (take n xs)
      ∙ column_held w e (take n xs)
      ∙ sum_same w.to _ _ (λ a h. held_front n xs rest a w.denomination ∙ sym (balance_held xs a w.denomination long (omega arith) known))

-- places that are all free
pub free_balances : (xs : List Place) → ((k : ℕ) → get_or xs k None ≡ None) → note_balances xs ≡ (λ _ _ _. 0)
unfolding note_balances
free_balances xs free = fun_ext λ c. fun_ext λ a. fun_ext λ d. let h = free_held xs free a d in grind (arith, nat_tests)

pub freed_supplies : (xs : List Place) → ((k : ℕ) → get_or xs k None ≡ None) → (c d : ℕ) → supply (note_balances xs) c d ≤ most
freed_supplies xs free c d = omega (arith, ap (λ (b : Balances). supply b c d) (free_balances xs free), sum_zero 24)

-- Two notes of one account and denomination joined into one.
use Rattle.std.proofs.Common.{◌≡◌, ℕ, ◌+◌, ◌<◌, ◌≤◌, ◌≢◌, List, length, get_or, set, ◌∙◌, arith, length-set, get_or-set_other, None, Some, ap}
use Rattle.std.proofs.lemmas.Bool.Decides.{nat_tests}
use Rattle.protocol.specs.House.{most}
use Rattle.protocol.specs.Ledger.{supply}
use Rattle.ledger.proofs.Supplies.{balance_in_supply}
use Rattle.note_bank.specs.Notes.{amount_of, share, pair_of, Alike, held, note_balances, Place}
use Rattle.bank.specs.declared.store.Holding.{Holding}
use Rattle.note_bank.specs.declared.place.Note.{Note}
use Rattle.note_bank.proofs.Shares.{held_set, balance_held}

-- m is n and k as one note
module _ (xs : List Place) (i j : ℕ) (n k m : Note) (order : i < j) (within : j < length xs) (at_i : get_or xs i None ≡ Some n) (at_j : get_or xs j None ≡ Some k) (alike : pair_of (Some n) ≡ pair_of (Some k)) (of_n : m.holding ≡ n.holding) (both : m.amount ≡ n.amount + k.amount) where
  share_joint : (a d : ℕ) → share a d (Some m) ≡ share a d (Some n) + share a d (Some k)
  share_joint a d =
      let n-account = n.holding.account_known in
      let n-denomination = n.holding.denomination_known in
      let k-account = k.holding.account_known in
      let k-denomination = k.holding.denomination_known in
      let same-account : n.holding.account ≡ k.holding.account = grind (arith, nat_tests) in
      let same-denomination : n.holding.denomination ≡ k.holding.denomination = grind (arith, nat_tests) in
      let m-account : m.holding.account ≡ n.holding.account = ap (λ (h : Holding). h.account) of_n in
      let m-denomination : m.holding.denomination ≡ n.holding.denomination = ap (λ (h : Holding). h.denomination) of_n in
      grind (arith, nat_tests)

  there : get_or (set xs i (Some m)) j None ≡ Some k
  there = let ne : j ≢ i = omega arith in get_or-set_other xs i j (Some m) None ne ∙ at_j

  -- no sum changes
  pub held_joined : (a d : ℕ) → held (set (set xs i (Some m)) j None) a d ≡ held xs a d
  held_joined a d =
      let first = held_set xs i (Some m) (omega arith) a d in
      let second = held_set (set xs i (Some m)) j None (rw length-set within) a d in
      omega (arith, rw at_i at first, rw there at second, share_joint a d)

-- the shares of two places are part of the sum
two_shares : (xs : List Place) (i j : ℕ) → i < j → j < length xs → (a d : ℕ) → share a d (get_or xs i None) + share a d (get_or xs j None) ≤ held xs a d
two_shares xs i j order within a d =
    let ne : j ≢ i = omega arith in
    let first = held_set xs i None (omega arith) a d in
    let second = held_set (set xs i None) j None (rw length-set within) a d in
    omega (arith, first, rw (get_or-set_other xs i j None None ne) at second)

-- the account and denomination of two notes alike
record Whose (p q : Place) : Type 0 where
  account : ℕ
  denomination : ℕ
  account_in : account < 24
  denomination_in : denomination < 32
  first : amount_of p ≡ share account denomination p
  second : amount_of q ≡ share account denomination q

whose : (p q : Place) → Alike p q → Whose p q
whose None q e = let z : ◌≡◌ {A = ℕ} 0 1 = cc e.0 in absurd (omega arith)
whose (Some n) None e = let z : ◌≡◌ {A = ℕ} 0 1 = cc e.1 in absurd (omega arith)
whose (Some n) (Some k) e =
    let pair = e.1 in
    let n-account = n.holding.account_known in
    let n-denomination = n.holding.denomination_known in
    let k-account = k.holding.account_known in
    let k-denomination = k.holding.denomination_known in
    record {
      account = n.holding.account;
      denomination = n.holding.denomination;
      account_in = n-account;
      denomination_in = n-denomination;
      first = grind (arith, nat_tests);
      second = grind (arith, nat_tests);
    }

-- the joint note is within the supply
pub joint_fits : (xs : List Place) (i j : ℕ) → i < j → j < length xs → 1024 ≤ length xs → Alike (get_or xs i None) (get_or xs j None) → ((c d : ℕ) → supply (note_balances xs) c d ≤ most) → amount_of (get_or xs i None) + amount_of (get_or xs j None) ≤ most
joint_fits xs i j order within long alike law =
    let w = whose (get_or xs i None) (get_or xs j None) alike in
    let a = w.account in
    let d = w.denomination in
    omega (arith, w.first, w.second, two_shares xs i j order within a d, balance_held xs a d long w.account_in w.denomination_in, balance_in_supply (note_balances xs) 0 a d w.account_in, law 0 d)

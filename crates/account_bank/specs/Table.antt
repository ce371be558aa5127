-- What a table of amounts means as a ledger: one chain, 24 accounts of 32 denominations each, and no bars.
use Rattle.std.specs.Prelude.{◌≡◌, ℕ, ◌+◌, ◌*◌, ◌≤◌, Bool, true, false, cond, ◌&&◌, List, length, nat_lt, slice_index, refl}
use Rattle.std.proofs.Common.{lit≤, arith}
use Rattle.std.proofs.lemmas.Bool.{le-ltb}
use Rattle.protocol.specs.House.{most, accounts, denoms_most}
use Rattle.protocol.specs.Ledger.{Balances, Ledger, Lawful, supply}
use Rattle.ledger.specs.Empty.{without_bars}
use Rattle.bank.specs.OneChain.{Kept}

-- the table of one chain takes 768 amounts; over less memory no chain is served
abbrev pub table_chains : List ℕ → ℕ
table_chains xs = cond (nat_lt (length xs) 768) 0 1

-- the amount at row a and column d of the table
unfoldable pub table_balances : List ℕ → Balances
table_balances xs c a d =
    cond (nat_lt c (table_chains xs) && nat_lt a accounts && nat_lt d denoms_most) (slice_index xs (a * 32 + d)) 0

-- the ledger that a table means
abbrev pub table_meaning : List ℕ → Ledger
table_meaning xs = without_bars (table_chains xs) (table_balances xs)

-- where supplies are in bounds, both laws hold
pub table_lawful : (xs : List ℕ) → ((c d : ℕ) → supply (table_balances xs) c d ≤ most) → Lawful (table_meaning xs)
table_lawful xs h = record { supplies = h; bars = λ c u e. refl }

-- a chain that is not served has no balance
pub table_unserved : (xs : List ℕ) (c a d : ℕ) → table_chains xs ≤ c → table_balances xs c a d ≡ 0
unfolding table_balances
table_unserved xs c a d h = rw (le-ltb c (table_chains xs) h) refl

-- one chain at most is served
table_few : (xs : List ℕ) → table_chains xs ≤ 1
table_few xs = elim (nat_lt (length xs) 768) as (λ (b : Bool). cond b 0 1 ≤ 1) [ true ↦ lit≤ tt | false ↦ lit≤ tt ]

-- where supplies are in bounds, a table is all that a bank asks of its store
pub table_kept : (xs : List ℕ) → ((c d : ℕ) → supply (table_balances xs) c d ≤ most) → Kept (table_balances xs)
table_kept xs h = record { supplies = h; elsewhere = λ c a d out. table_unserved xs c a d (omega (arith, table_few xs)) }

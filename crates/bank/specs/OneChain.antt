-- What a bank means that serves one chain over a store of its balances, or none where it has no store. It serves no bars.
use Rattle.std.specs.Prelude.{◌≡◌, ℕ, ◌≤◌, Some, None, Option, refl}
use Rattle.std.proofs.Common.{arith}
use Rattle.sums.proofs.Below.{sum_zero}
use Rattle.protocol.specs.House.{most}
use Rattle.protocol.specs.Ledger.{Balances, Ledger, Lawful, supply}
use Rattle.ledger.specs.Empty.{without_bars}

-- a store: no supply passes 2^64 - 1, and no chain but chain 0 has a balance
pub record Kept (b : Balances) : Type 0 where
  pub supplies : (c d : ℕ) → supply b c d ≤ most
  pub elsewhere : (c a d : ℕ) → 1 ≤ c → b c a d ≡ 0

-- how many chains are served
abbrev pub chains_kept : {S : Type 0} → Option S → ℕ
chains_kept None = 0
chains_kept (Some s) = 1

-- the balances, of which there are none without a store
abbrev pub balances_kept : {S : Type 0} → (S → Balances) → Option S → Balances
balances_kept f None = λ _ _ _. 0
balances_kept f (Some s) = f s

-- the ledger that a bank means
abbrev pub bank_meaning : {S : Type 0} → (S → Balances) → Option S → Ledger
bank_meaning f o = without_bars (chains_kept o) (balances_kept f o)

-- what a store keeps are both laws of a ledger without bars, whatever chains it serves
pub kept_lawful : (n : ℕ) (b : Balances) → Kept b → Lawful (without_bars n b)
kept_lawful n b k = record { supplies = k.supplies; bars = λ c u e. refl }

-- so a bank keeps them
pub bank_lawful : {S : Type 0} (f : S → Balances) → ((s : S) → Kept (f s)) → (o : Option S) → Lawful (bank_meaning f o)
bank_lawful f kept None = record { supplies = λ c d. omega (arith, sum_zero 24); bars = λ c u e. refl }
bank_lawful f kept (Some s) = kept_lawful 1 (f s) (kept s)

-- and has nothing on a chain that it does not serve
pub bank_unserved : {S : Type 0} (f : S → Balances) → ((s : S) → Kept (f s)) → (o : Option S) (c a d : ℕ) → chains_kept o ≤ c → balances_kept f o c a d ≡ 0
bank_unserved f kept None c a d h = refl
bank_unserved f kept (Some s) c a d h = (kept s).elsewhere c a d h

-- What a ledger means, its two laws, and its operations with their refusals. Every ledger that shows this meaning will do.
use Rattle.std.specs.Prelude.{◌≡◌, ℕ, ◌+◌, ◌-◌, ◌≤◌, Bool, false, cond, not, ◌&&◌, ◌||◌, leb, List, [], ◌∷◌, ◌++◌, ◌==◌, nat_eq, nat_le, nat_lt}
use Rattle.sums.specs.Sums.{sum_below}
use Rattle.protocol.specs.House.{most, users, accounts, denoms_most}
use Rattle.protocol.specs.Refusals.{Refusal, ◌when◌}

-- a balance for each chain, account and denomination number
abbrev pub Balances : Type 0
Balances = ℕ → ℕ → ℕ → ℕ

-- The meaning. How many chains are served and which of them serve bars never changes.
pub record Ledger : Type 0 where
  pub chains : ℕ  -- how many chains it serves
  pub serves_bars : ℕ → Bool  -- of a chain
  pub balance : Balances
  pub barred : ℕ → ℕ → Bool  -- of a chain and a user

-- the sum of a denomination's balances over all accounts of a chain
abbrev pub supply : Balances → ℕ → ℕ → ℕ
supply b c d = sum_below accounts (λ a. b c a d)

-- the sum over the users alone
abbrev pub users_hold : Balances → ℕ → ℕ → ℕ
users_hold b c d = sum_below users (λ u. b c u d)

-- The two laws: no supply passes 2^64 - 1, and a chain that serves no bars has no barred user.
pub record Lawful (l : Ledger) : Type 0 where
  pub supplies : (c d : ℕ) → supply l.balance c d ≤ most
  pub bars : (c u : ℕ) → l.serves_bars c ≡ false → l.barred c u ≡ false

-- one balance set to x
abbrev pub put : Balances → ℕ → ℕ → ℕ → ℕ → Balances
put b c a d x = λ c' a' d'. cond (c' == c && a' == a && d' == d) x (b c' a' d')

-- a ledger with other balances
abbrev pub with_balances : Ledger → Balances → Ledger
with_balances l b = record { chains = l.chains; serves_bars = l.serves_bars; balance = b; barred = l.barred }

-- a ledger with another set of barred users
abbrev pub with_barred : Ledger → (ℕ → ℕ → Bool) → Ledger
with_barred l s = record { chains = l.chains; serves_bars = l.serves_bars; balance = l.balance; barred = s }

-- What each operation makes of the balances where it is not refused.

abbrev pub credited : Balances → ℕ → ℕ → ℕ → ℕ → Balances
credited b c a d n = put b c a d (b c a d + n)

abbrev pub debited : Balances → ℕ → ℕ → ℕ → ℕ → Balances
debited b c a d n = put b c a d (b c a d - n)

-- from the first account to the second, which may be the same one
abbrev pub moved : Balances → ℕ → ℕ → ℕ → ℕ → ℕ → Balances
moved b c a a' d n = credited (debited b c a d n) c a' d n

-- user u of chain c barred or not, as b says
abbrev pub bar_set : Ledger → ℕ → ℕ → Bool → Ledger
bar_set l c u b = with_barred l (λ c' u'. cond (c' == c && u' == u) b (l.barred c' u'))

-- no balance, and nobody barred
abbrev pub cleared : Ledger → Ledger
cleared l =
    record { chains = l.chains; serves_bars = l.serves_bars; balance = λ _ _ _. 0; barred = λ _ _. false }

-- When an operation is refused.

-- an account that has to be a user's and is barred; escrow accounts are never barred
abbrev pub is_barred : Ledger → ℕ → ℕ → Bool
is_barred l c a = nat_lt a users && l.barred c a

abbrev pub too_small : Balances → ℕ → ℕ → ℕ → ℕ → Bool
too_small b c a d n = nat_lt (b c a d) n

abbrev pub too_large : Balances → ℕ → ℕ → ℕ → Bool
too_large b c d n = nat_lt most (supply b c d + n)

-- numbers outside the meaning: chain, account, amount, denomination
abbrev pub outside : Ledger → ℕ → Bool → ℕ → ℕ → List Refusal
outside l c account-above n d =
    6 when leb l.chains c ∷ 12 when account-above ∷ 13 when nat_eq n 0 ∷ 14 when leb denoms_most d ∷ []

abbrev pub credit_refusals : Ledger → ℕ → ℕ → ℕ → ℕ → List Refusal
credit_refusals l c a d n = outside l c (nat_le accounts a) n d ++ 33 when too_large l.balance c d n ∷ []

abbrev pub debit_refusals : Ledger → ℕ → ℕ → ℕ → ℕ → List Refusal
debit_refusals l c a d n =
    outside l c (nat_le accounts a) n d ++ 31 when is_barred l c a ∷ 32 when too_small l.balance c a d n ∷ []

abbrev pub move_refusals : Ledger → ℕ → ℕ → ℕ → ℕ → ℕ → List Refusal
move_refusals l c a a' d n =
    outside l c (nat_le accounts a || nat_le accounts a') n d
    ++ 31 when is_barred l c a ∷ 32 when too_small l.balance c a d n ∷ []

abbrev pub bar_refusals : Ledger → ℕ → ℕ → List Refusal
bar_refusals l c u = 6 when leb l.chains c ∷ 12 when leb users u ∷ 30 when not (l.serves_bars c) ∷ []

-- When a question has no answer: about a chain, about a denomination of a chain, about a balance, about a user.

abbrev pub chain_refusals : Ledger → ℕ → List Refusal
chain_refusals l c = 6 when leb l.chains c ∷ []

abbrev pub supply_refusals : Ledger → ℕ → ℕ → List Refusal
supply_refusals l c d = 6 when leb l.chains c ∷ 14 when leb denoms_most d ∷ []

abbrev pub balance_refusals : Ledger → ℕ → ℕ → ℕ → List Refusal
balance_refusals l c a d = 6 when leb l.chains c ∷ 12 when leb accounts a ∷ 14 when leb denoms_most d ∷ []

abbrev pub user_refusals : Ledger → ℕ → ℕ → List Refusal
user_refusals l c u = 6 when leb l.chains c ∷ 12 when leb users u ∷ []

-- What places with notes mean as a ledger: one chain, a balance the sum of its notes, and no bars.
use Rattle.std.specs.Prelude.{◌≡◌, ℕ, ◌+◌, ◌*◌, ◌<◌, ◌≤◌, Bool, true, false, cond, ◌&&◌, List, length, is_some, Some, None, Option, ◌==◌, nat_lt, slice_index_or, refl}
use Rattle.std.specs.Option.{option_map}
use Rattle.std.proofs.Common.{lit≤, arith}
use Rattle.std.proofs.lemmas.Bool.{le-ltb}
use Rattle.sums.specs.Sums.{total, gate}
use Rattle.sums.specs.Columns.{column_has}
use Rattle.sums.specs.declared.Column.{Column}
use Rattle.protocol.specs.House.{most, accounts, denoms_most}
use Rattle.protocol.specs.Ledger.{Balances, Ledger, Lawful, supply}
use Rattle.ledger.specs.Empty.{without_bars}
use Rattle.bank.specs.OneChain.{Kept}
use Rattle.note_bank.specs.declared.place.Note.{Note}

-- a place holds a note, or is free
abbrev pub Place : Type 0
Place = Option Note

-- a note's amount; a free place has none
abbrev pub amount_of : Place → ℕ
amount_of None = 0
amount_of (Some n) = n.amount

-- a note of denomination d that belongs to account a
abbrev pub belongs : ℕ → ℕ → Place → Bool
belongs a d None = false
belongs a d (Some n) = n.holding.account == a && n.holding.denomination == d

-- what a place adds to the balance of account a and denomination d
abbrev pub share : ℕ → ℕ → Place → ℕ
share a d p = gate (belongs a d p) (amount_of p)

-- a note of a column's denomination that belongs to one of its accounts
abbrev pub note_in : Column → Note → ℕ → Bool
note_in w n i = column_has w n.holding.account n.holding.denomination

-- every place from place n on is free
abbrev pub FreeFrom : ℕ → List Place → Type 0
FreeFrom n xs = (k : ℕ) → n ≤ k → slice_index_or xs k None ≡ None

-- account and denomination of a note as one number
abbrev pub pair_of : Place → Option ℕ
pair_of p = option_map (λ (n : Note). n.holding.account * 32 + n.holding.denomination) p

-- every place holds a note
abbrev pub Full : List Place → Type 0
Full xs = (k : ℕ) → k < length xs → is_some (slice_index_or xs k None) ≡ true

-- two notes of one account and denomination
abbrev pub Alike : Place → Place → Type 0
Alike p q = (is_some (pair_of p) ≡ true) × (pair_of p ≡ pair_of q)

-- a place without the notes of account a and denomination d
abbrev pub released : ℕ → ℕ → Place → Place
released a d p = cond (belongs a d p) None p

-- one chain takes 1,024 places; over less memory none is served
abbrev pub note_chains : List Place → ℕ
note_chains xs = cond (nat_lt (length xs) 1024) 0 1

-- the sum of an account's notes of a denomination
unfoldable pub held : List Place → ℕ → ℕ → ℕ
held xs a d = total (share a d) xs

-- each balance is the sum of its notes
unfoldable pub note_balances : List Place → Balances
note_balances xs c a d = cond (nat_lt c (note_chains xs) && nat_lt a accounts && nat_lt d denoms_most) (held xs a d) 0

-- the ledger that places with notes mean
abbrev pub notes_meaning : List Place → Ledger
notes_meaning xs = without_bars (note_chains xs) (note_balances xs)

-- where supplies are in bounds, both laws hold
pub notes_lawful : (xs : List Place) → ((c d : ℕ) → supply (note_balances xs) c d ≤ most) → Lawful (notes_meaning xs)
notes_lawful xs h = record { supplies = h; bars = λ c u e. refl }

-- a chain that is not served has no balance
pub notes_unserved : (xs : List Place) (c a d : ℕ) → note_chains xs ≤ c → note_balances xs c a d ≡ 0
unfolding note_balances
notes_unserved xs c a d h = rw (le-ltb c (note_chains xs) h) refl

-- one chain at most is served
notes_few : (xs : List Place) → note_chains xs ≤ 1
notes_few xs = elim (nat_lt (length xs) 1024) as (λ (b : Bool). cond b 0 1 ≤ 1) [ true ↦ lit≤ tt | false ↦ lit≤ tt ]

-- where supplies are in bounds, places with notes are all that a bank asks of its store
pub notes_kept : (xs : List Place) → ((c d : ℕ) → supply (note_balances xs) c d ≤ most) → Kept (note_balances xs)
notes_kept xs h = record { supplies = h; elsewhere = λ c a d out. notes_unserved xs c a d (omega (arith, notes_few xs)) }

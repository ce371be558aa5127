-- What a ledger under bars means, and two ledgers side by side.
use Rattle.std.specs.Prelude.{ℕ, ◌+◌, ◌-◌, ◌*◌, min, Bool, false, cond, ◌&&◌, ◌||◌, List, nat_lt, slice_index_or}
use Rattle.protocol.specs.House.{chains_most, users}
use Rattle.protocol.specs.Ledger.{Ledger}

-- the first eight chains of a ledger are served, and bars on all of them
abbrev pub barring_chains : Ledger → ℕ
barring_chains m = min chains_most m.chains

-- Bars kept in a table of flags, 16 users to a chain, over a ledger: a user is barred if the flag or the ledger says so.
abbrev pub barring : List Bool → Ledger → Ledger
barring fs m =
    record {
      chains = barring_chains m;
      serves_bars = λ c. nat_lt c (barring_chains m);
      balance = m.balance;
      barred = λ c u. nat_lt c (barring_chains m) && (nat_lt u users && (slice_index_or fs (c * 16 + u) false || m.barred c u));
    }

-- at most so many chains are served by two ledgers side by side
abbrev pub beside_most : ℕ
beside_most = 256

-- Two ledgers side by side: the second's chains are numbered after the first's.
abbrev pub beside : Ledger → Ledger → Ledger
beside m k =
    record {
      chains = min beside_most (m.chains + k.chains);
      serves_bars = λ c. cond (nat_lt c m.chains) (m.serves_bars c) (k.serves_bars (c - m.chains));
      balance = λ c a d. cond (nat_lt c m.chains) (m.balance c a d) (k.balance (c - m.chains) a d);
      barred = λ c u. cond (nat_lt c m.chains) (m.barred c u) (k.barred (c - m.chains) u);
    }

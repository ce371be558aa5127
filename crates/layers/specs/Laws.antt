-- Both layers keep the laws of a ledger, and have nothing on a chain 0 to 7 that they do not serve.
use Rattle.std.specs.Prelude.{◌≡◌, ℕ, ◌-◌, ◌<◌, ◌≤◌, Bool, false, List, refl}
use Rattle.std.proofs.Common.{⊎_elim, arith}
use Rattle.std.proofs.lemmas.Bool.{cases_lt, lt-ltb, le-ltb}
use Rattle.protocol.specs.House.{most}
use Rattle.protocol.specs.Ledger.{Ledger, Lawful, supply}
use Rattle.ledger.specs.Unserved.{Unserved}
use Rattle.layers.specs.Layers.{barring, beside}

barring_bars : (fs : List Bool) (m : Ledger) (c u : ℕ) → (barring fs m).serves_bars c ≡ false → (barring fs m).barred c u ≡ false
barring_bars fs m c u e = rw e refl

pub barring_lawful : (fs : List Bool) (m : Ledger) → Lawful m → Lawful (barring fs m)
barring_lawful fs m l = record { supplies = l.supplies; bars = barring_bars fs m }

pub barring_unserved : (fs : List Bool) (m : Ledger) → Unserved m → Unserved (barring fs m)
barring_unserved fs m none c a d few h = none c a d few (omega arith)

beside_supplies : (m k : Ledger) → Lawful m → Lawful k → (c d : ℕ) → supply (beside m k).balance c d ≤ most
beside_supplies m k l r c d =
    ⊎_elim
    (λ (h : c < m.chains). rw (lt-ltb c m.chains h) (l.supplies c d))
    (λ (h : m.chains ≤ c). rw (le-ltb c m.chains h) (r.supplies (c - m.chains) d))
    (cases_lt c m.chains)

beside_bars : (m k : Ledger) → Lawful m → Lawful k → (c u : ℕ) → (beside m k).serves_bars c ≡ false → (beside m k).barred c u ≡ false
beside_bars m k l r c u =
    ⊎_elim
    (λ (h : c < m.chains). rw (lt-ltb c m.chains h) (l.bars c u))
    (λ (h : m.chains ≤ c). rw (le-ltb c m.chains h) (r.bars (c - m.chains) u))
    (cases_lt c m.chains)

pub beside_lawful : (m k : Ledger) → Lawful m → Lawful k → Lawful (beside m k)
beside_lawful m k l r = record { supplies = beside_supplies m k l r; bars = beside_bars m k l r }

pub beside_unserved : (m k : Ledger) → Unserved m → Unserved k → Unserved (beside m k)
beside_unserved m k none_first none_second c a d few h =
    let past : m.chains ≤ c = omega arith in
    rw (le-ltb c m.chains past) (none_second (c - m.chains) a d (omega arith) (omega arith))

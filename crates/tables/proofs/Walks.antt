-- The walk home.
use Rattle.std.proofs.Common.{◌≡◌, ℕ, ◌+◌, ◌%◌, ◌<◌, false, List, length, get_or, drop, sym, refl, ap, arith, ltb-false, eq-eqb}
use Rattle.std.proofs.lemmas.List.{at_drop_more, get_or_past}
use Rattle.register.proofs.Places.{place_le}
use Rattle.protocol.specs.World.{End, Link, ends, same_end, end_at, no_end, back, to_end, lane_out, in_use, home_by}
use Rattle.protocol.proofs.Homes.{length_ends}

-- a channel that is not in use leads nowhere, which reads as chain 0
pub leads_nowhere : (ls : List Link) (c k : ℕ) → in_use ls c k ≡ false → 0 ≡ (to_end ls (lane_out ls c k)).chain
leads_nowhere ls c k unused =
    let past = ltb-false (lane_out ls c k) (length (ends ls)) unused in
    let within = place_le (same_end (end_at c k)) (ends ls) in
    let even : lane_out ls c k % 2 ≡ 0 = omega (arith, past, within, length_ends ls) in
    let after : back (lane_out ls c k) ≡ lane_out ls c k + 1 = rw (eq-eqb (lane_out ls c k % 2) 0 even) refl in
    sym (ap (λ (e : End). e.chain) (get_or_past (ends ls) (back (lane_out ls c k)) no_end (omega (arith, after, past))))

-- one hop more
pub walk_one :
    (ls : List Link) (hs : List ℕ) (here i : ℕ) → i < length hs →
    home_by ls (drop i hs) here ≡ home_by ls (drop (i + 1) hs) (to_end ls (lane_out ls here (get_or hs i 0))).chain
walk_one ls hs here i h = at_drop_more (λ l. home_by ls l here) hs i 0 h

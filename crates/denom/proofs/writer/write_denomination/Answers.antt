use Rattle.std.proofs.Common.{◌≡◌, ℕ, ◌≤◌, true, ltb, List, length, take, sym, subst, arith, length-take}
use Rattle.denom.specs.Text.{each}
use Rattle.denom.specs.Views.{hops_of, symbol_of}
use Rattle.denom.proofs.Joins.{channels_each, length_trace}
use Rattle.denom.proofs.writer.write_denomination.Goals as goal

-- a part of a table is at most as long as it was asked to be
few : {X : Type 0} (n : ℕ) (xs : List X) → length (take n xs) ≤ n
few n xs = omega (arith, length-take n xs)

pub write_trace-requires-clause-channels : goal.write_trace-requires-clause-channels
write_trace-requires-clause-channels c =
    let hops = c.args.denomination.now.hops in
    let P : List ℕ → Type 0 = λ l. each (λ h. ltb h 8) l ≡ true in
    subst P (sym c.as_slice.ensures) (channels_each hops.at hops.count hops.channels)

pub returns-clause-short : goal.returns-clause-short
returns-clause-short c =
    let d = c.args.denomination.now in
    omega (
      arith,
      length_trace (hops_of d.hops) (symbol_of d.symbol),
      few d.hops.count d.hops.at,
      few d.symbol.len d.symbol.bytes,
      d.hops.few,
      d.symbol.few,
    )

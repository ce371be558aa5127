use Rattle.std.proofs.Common.{length, arith, length-take}
use native.Mathlib.Nat.{min-le_left}
use Rattle.tables.proofs.Taken.{take_of_set}
use Rattle.tables.proofs.types.Rows.put.Goals as goal

pub returns : goal.returns
returns g c =
    let t = c.args.self.now in
    take_of_set t.places t.count c.args.place c.args.row (omega (arith, c.requires, length-take t.count t.places, min-le_left t.count (length t.places)))

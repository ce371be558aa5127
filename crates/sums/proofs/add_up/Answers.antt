use Rattle.std.proofs.Common.{sym, ◌∙◌, arith}
use Rattle.std.proofs.lemmas.List.{at_drop_all}
use Rattle.sums.specs.Sums.{counted_from}
use Rattle.sums.proofs.Counted.{row_counts, row_passed}
use Rattle.sums.proofs.add_up.Goals as goal
use Rattle.sums.proofs.add_up.Goals.{then-chosen, else-chosen}

pub overflow_add-sum : goal.overflow_add-sum
overflow_add-sum g c = omega (arith, c.loop-place.invariant.0, c.worth.type_inv, c.well_formed.0.0)

pub loop-place-preserved : goal.loop-place-preserved
loop-place-preserved g c =
    elim c.if-chosen.branch [
      | then-chosen w ↦
          let on = row_counts (g.R.Row.amount c.args.which.now) (g.R.Row.counts c.args.which.now) c.args.rows.now c.loop-place.place _ c.loop-place-test.true c.index-rows-place.is (sym c.chosen.ensures ∙ w.if-chosen.true) in
          (omega (arith, w.sum-is, w.worth.type_inv, c.loop-place.invariant.0), omega (arith, on, w.sum-is, w.worth.ensures, c.loop-place.invariant.1))
      | else-chosen w ↦
          let on = row_passed (g.R.Row.amount c.args.which.now) (g.R.Row.counts c.args.which.now) c.args.rows.now c.loop-place.place _ c.loop-place-test.true c.index-rows-place.is (sym c.chosen.ensures ∙ w.if-chosen.false) in
          (omega (arith, w.sum-is, c.loop-place.invariant.0), omega (arith, on, w.sum-is, c.loop-place.invariant.1))
    ]

pub returns : goal.returns
returns g c =
    let none = at_drop_all (counted_from (g.R.Row.amount c.args.which.now) (g.R.Row.counts c.args.which.now) c.loop-place.place) c.args.rows.now c.loop-place.place c.loop-place-test.false in
    record { sum = omega (arith, none, c.loop-place.invariant.1); within = omega (arith, c.loop-place.invariant.0) }

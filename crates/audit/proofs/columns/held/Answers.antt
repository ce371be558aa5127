use Rattle.std.proofs.Common.{◌+◌, sym, refl, ◌∙◌, ap₂, arith}
use Rattle.sums.specs.Sums.{sum_below}
use Rattle.denom.specs.Views.{token_view}
use Rattle.world.specs.View.{view}
use Rattle.audit.specs.Figures.{held_on}
use Rattle.audit.proofs.Totals.{sum_more, held_all}
use Rattle.audit.proofs.columns.held.Goals as goal

pub overflow_add-sum : goal.overflow_add-sum
overflow_add-sum g c = omega (arith, c.loop-chain.invariant.0, c.held_on-sum.ensures.within)

pub loop-chain-init : goal.loop-chain-init
unfolding sum_below
loop-chain-init g c = (omega arith, refl)

pub loop-chain-preserved : goal.loop-chain-preserved
loop-chain-preserved g c =
    let w = view g.L.Ledger.meaning g.F.Book.meaning g.S.Book.meaning c.args.world.now in
    let t = token_view c.args.token.now in (
      omega (arith, c.loop-chain.invariant.0, c.held_on-sum.ensures.within),
      ap₂ ◌+◌ c.loop-chain.invariant.1 c.held_on-sum.ensures.sum ∙ sym (sum_more c.loop-chain.chain (held_on w t)),
    )

pub returns : goal.returns
returns g c =
    let w = view g.L.Ledger.meaning g.F.Book.meaning g.S.Book.meaning c.args.world.now in
    record {
      sum = c.loop-chain.invariant.1 ∙ held_all w (token_view c.args.token.now) c.loop-chain.chain (omega arith);
      within = omega (arith, c.loop-chain.invariant.0);
    }

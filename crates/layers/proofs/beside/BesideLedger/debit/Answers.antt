use Rattle.std.proofs.Common.{Ok, subst}
use Rattle.ledger.proofs.Answers.{handed_on}
use Rattle.layers.specs.Layers.{beside}
use Rattle.layers.specs.Sides.{OnSide}
use Rattle.layers.specs.declared.beside.Side.{Side}
use Rattle.layers.proofs.Sides.{second_debited}
use Rattle.layers.proofs.beside.BesideLedger.debit.Goals as goal

pub returns-in-Second-clause-after : goal.returns-in-Second-clause-after
returns-in-Second-clause-after g c =
    let m = g.L.Ledger.meaning c.args.self.now.first in
    let k = g.R.Ledger.meaning c.args.self.now.second in
    let at = c.args in
    let on = subst (λ (s : Side). OnSide m.chains at.chain (Ok s)) c.in-Second.is c.in_ok-chain.ensures in
    let left = rw on.2 at c.debit-in-Second.ensures.after in
    handed_on (beside m) c.debit-in-Second.result k _ _ _ left (second_debited m k at.chain on.0 on.1 at.account at.denomination at.amount)

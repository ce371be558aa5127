use Rattle.std.proofs.Common.{Ok, subst}
use Rattle.ledger.proofs.Answers.{handed_on, answered}
use Rattle.layers.specs.Layers.{beside}
use Rattle.layers.specs.Sides.{OnSide}
use Rattle.layers.specs.declared.beside.Side.{Side}
use Rattle.layers.proofs.Sides.{first_credit, second_credited}
use Rattle.layers.proofs.beside.BesideLedger.credit.Goals as goal

pub returns-in-First-clause-answer : goal.returns-in-First-clause-answer
returns-in-First-clause-answer g c =
    let m = g.L.Ledger.meaning c.args.self.now.first in
    let k = g.R.Ledger.meaning c.args.self.now.second in
    let at = c.args in
    let on = subst (λ (s : Side). OnSide m.chains at.chain (Ok s)) c.in-First.is c.in_ok-chain.ensures in
    let told = rw on.2 at c.credit.ensures.answer in
    answered tt _ _ _ told (first_credit m k at.chain on.0 on.1 at.account at.denomination at.amount)

pub returns-in-Second-clause-after : goal.returns-in-Second-clause-after
returns-in-Second-clause-after g c =
    let m = g.L.Ledger.meaning c.args.self.now.first in
    let k = g.R.Ledger.meaning c.args.self.now.second in
    let at = c.args in
    let on = subst (λ (s : Side). OnSide m.chains at.chain (Ok s)) c.in-Second.is c.in_ok-chain.ensures in
    let left = rw on.2 at c.credit-in-Second.ensures.after in
    handed_on (beside m) c.credit-in-Second.result k _ _ _ left (second_credited m k at.chain on.0 on.1 at.account at.denomination at.amount)

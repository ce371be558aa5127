use Rattle.denom.proofs.Back.{placed, held}
use Rattle.denom.proofs.reader.read_denomination.Goals as goal

pub returns-clause-held : goal.returns-clause-held
returns-clause-held c =
    let told = c.read_from.ensures in
    held c.args.text.now c.args.hops.now.at _ _ c.args.hops.now.count c.args.hops.now.six told.hops told.count

pub returns-clause-place : goal.returns-clause-place
returns-clause-place c = placed c.args.text.now c.read_from.result _ _ c.read_from.ensures.answer c.read_from.ensures.count

use Rattle.std.proofs.Common.{◌∙◌}
use Rattle.protocol.specs.House.{accounts}
use Rattle.audit.proofs.Unserved.{sum_or_nothing}
use Rattle.audit.proofs.balances.supply_at.Goals as goal

pub returns : goal.returns
returns g c =
    let l = c.args.ledger.now in
    c.unwrap_or.ensures ∙ sum_or_nothing (g.L.Ledger.meaning l) accounts c.args.chain c.args.number c.supply.result (g.met.L.Confined.unserved l) c.requires.chain c.requires.number c.supply.ensures

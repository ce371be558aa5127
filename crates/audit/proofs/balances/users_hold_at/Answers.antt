use Rattle.std.proofs.Common.{◌∙◌}
use Rattle.protocol.specs.House.{users}
use Rattle.audit.proofs.Unserved.{sum_or_nothing}
use Rattle.audit.proofs.balances.users_hold_at.Goals as goal

pub returns : goal.returns
returns g c =
    let l = c.args.ledger.now in
    c.unwrap_or.ensures ∙ sum_or_nothing (g.L.Ledger.meaning l) users c.args.chain c.args.number c.users_hold.result (g.met.L.Confined.unserved l) c.requires.chain c.requires.number c.users_hold.ensures

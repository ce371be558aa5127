use Rattle.std.proofs.Common.{true, sym, refl}
use Rattle.protocol.specs.Ledger.{bar_set}
use Rattle.protocol.specs.Calls.{bar}
use Rattle.world.specs.View.{view}
use Rattle.world.proofs.Verdicts.{stopped, ended_by_ledger}
use Rattle.world.proofs.Stops.{bar_no_chain}
use Rattle.world.proofs.Ledgers.{bar_left}
use Rattle.world.proofs.world.World.bar.Goals as goal

pub returns-then-not-serves : goal.returns-then-not-serves
returns-then-not-serves g c =
    let w = view g.L.Ledger.meaning g.F.Book.meaning g.S.Book.meaning c.args.self.now in
    let no = stopped w (bar c.args.chain c.args.user) 6 (bar_no_chain w c.args.chain c.args.user (sym c.if-not-serves.ensures)) in
    record { answer = no.0; after = no.1 }

pub returns : goal.returns
returns g c =
    let w = view g.L.Ledger.meaning g.F.Book.meaning g.S.Book.meaning c.args.self.now in
    let told = c.bar.ensures in
    let s =
    ended_by_ledger w (bar c.args.chain c.args.user) (bar_set w.ledger c.args.chain c.args.user true) _ _ c.bar.result c.climbed.result
    (bar_left w c.args.chain c.args.user (sym c.if-not-serves.ensures)) refl told.answer told.after c.climbed.ensures
    in
    record { answer = s.0; after = s.1 }

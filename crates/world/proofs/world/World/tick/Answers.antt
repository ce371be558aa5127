use Rattle.std.proofs.Common.{◌+◌, ◌<◌, sym, ap, arith, lt-ltb, eq-eqb, ne_eqb}
use Rattle.std.proofs.lemmas.Result.{err_from_is_err_and}
use Rattle.protocol.specs.Faults.{world_number}
use Rattle.protocol.specs.House.{most}
use Rattle.protocol.specs.Calls.{tick, done}
use Rattle.world.specs.View.{view}
use Rattle.world.proofs.Verdicts.{stopped, there_was_none, handed_on}
use Rattle.world.proofs.Stops.{tick_no_chain, tick_nothing, tick_too_high}
use Rattle.world.proofs.world.World.tick.Goals as goal

pub returns-then-not-serves : goal.returns-then-not-serves
returns-then-not-serves g c =
    let w = view g.L.Ledger.meaning g.F.Book.meaning g.S.Book.meaning c.args.self.now in
    let no = stopped w (tick c.args.chain c.args.by) 6 (tick_no_chain w c.args.chain c.args.by (sym c.if-not-serves.ensures)) in
    record { answer = no.0; after = no.1 }

pub returns-then-by-eq0 : goal.returns-then-by-eq0
returns-then-by-eq0 g c =
    let w = view g.L.Ledger.meaning g.F.Book.meaning g.S.Book.meaning c.args.self.now in
    let no = stopped w (tick c.args.chain c.args.by) 13 (tick_nothing w c.args.chain c.args.by (sym c.if-not-serves.ensures) (eq-eqb c.args.by 0 c.if-by-eq0.true)) in
    record { answer = no.0; after = no.1 }

pub returns-in_err-height : goal.returns-in_err-height
returns-in_err-height g c =
    let w = view g.L.Ledger.meaning g.F.Book.meaning g.S.Book.meaning c.args.self.now in
    let sum = w.height c.args.chain + c.args.by in
    let none = there_was_none _ _ _ c.in_err-height.ensures.value in
    let high : most < sum = omega (arith, rw none.0 at c.checked_add.ensures) in
    let by = tick_too_high w c.args.chain c.args.by (sym c.if-not-serves.ensures) (ne_eqb c.args.by 0 c.if-by-eq0.false) (lt-ltb most sum high) in
    let no = handed_on w (tick c.args.chain c.args.by) (λ (x : Unit {0}). done) c.from_residual.result _ 24 (err_from_is_err_and c.from_residual.result c.from_residual.ensures.1) (ap world_number none.1) by in
    record { answer = no.0; after = no.1 }

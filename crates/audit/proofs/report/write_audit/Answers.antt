use Rattle.std.proofs.Common.{◌≡◌, arith, rules}
use Rattle.tables.proofs.Taken.{few_denoms}
use Rattle.world.specs.View.{view}
use Rattle.audit.specs.Slots.{slots}
use Rattle.audit.proofs.AddUp.{adds_up}
use Rattle.audit.proofs.Gathered.{handed_more, handed_all}
use Rattle.audit.proofs.report.write_audit.Goals as goal

pub returns-in_err-put_slot : goal.returns-in_err-put_slot
returns-in_err-put_slot g c =
    record { lines = search rules; accounts = adds_up (view g.L.Ledger.meaning g.F.Book.meaning g.S.Book.meaning c.args.world.now) }

pub loop-place-preserved : goal.loop-place-preserved
loop-place-preserved g c =
    let w = view g.L.Ledger.meaning g.F.Book.meaning g.S.Book.meaning c.args.world.now in (
      search rules,
      handed_more w (few_denoms c.args.world.now.tables.denominations) g.O.Sink.takes _ _ _ c.loop-place.place c.loop-place.invariant.1 c.in_ok-put_slot.ensures,
    )

pub returns : goal.returns
returns g c =
    let w = view g.L.Ledger.meaning g.F.Book.meaning g.S.Book.meaning c.args.world.now in
    let at : c.loop-place.place ≡ slots w = omega (arith, c.count_slots-place-end.ensures, c.loop-place-test.false) in
    record {
      lines = handed_all w (few_denoms c.args.world.now.tables.denominations) g.O.Sink.takes _ _ c.loop-place.place at c.loop-place.invariant.1;
      accounts = adds_up w;
    }

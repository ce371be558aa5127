use Rattle.std.proofs.Common.{vec_items, ap, arith}
use Rattle.protocol.specs.Ledger.{Balances, supply}
use Rattle.ledger.proofs.Supplies.{supply_put}
use Rattle.note_bank.specs.Notes.{note_balances}
use Rattle.note_bank.proofs.notes.NotesStore.leave.Goals as goal

-- what is left of the notes fits where they were
pub give-requires-clause-fits : goal.give-requires-clause-fits
give-requires-clause-fits c =
    let b = note_balances (vec_items c.args.self.now.places) in
    let left = supply_put b 0 c.args.holding.account c.args.holding.denomination 0 c.args.holding.account_known in
    let now = ap (λ (x : Balances). supply x 0 c.args.holding.denomination) c.release.ensures in
    omega (arith, left, now, c.requires, c.args.self.now.supplies 0 c.args.holding.denomination)

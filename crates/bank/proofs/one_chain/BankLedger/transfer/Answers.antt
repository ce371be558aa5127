use Rattle.std.proofs.Common.{ℕ, ◌<◌, ◌≤◌, sym, ap, ◌∙◌, arith}
use Rattle.std.proofs.lemmas.Bool.Decides.{nat_tests}
use Rattle.protocol.specs.Ledger.{Balances, supply}
use Rattle.ledger.proofs.Supplies.{room_left}
use Rattle.bank.proofs.one_chain.BankLedger.transfer.Goals as goal

-- what was taken leaves room for as much
pub give-requires-clause-fits : goal.give-requires-clause-fits
give-requires-clause-fits g c =
    let store = c.in_ok-store.store.now in
    let b = g.S.Store.balances store in
    let from = c.of.result in
    let taken = c.in_ok-take.ensures.answer in
    let left = ap (λ (x : Balances). supply x 0 from.denomination) c.in_ok-take.ensures.after in
    let same = ap (λ (d : ℕ). supply (g.S.Store.balances c.take.new.self) 0 d) (c.of-2.ensures.denomination ∙ sym c.of.ensures.denomination) in
    let from_in : from.account < 24 = grind (arith, nat_tests) in
    let enough : c.args.amount ≤ b 0 from.account from.denomination = grind (arith, nat_tests) in
    omega (arith, left, same, room_left b 0 from.account from.denomination c.args.amount from_in enough ((g.S.Store.kept store).supplies 0 from.denomination))

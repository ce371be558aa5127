use Rattle.std.proofs.Common.{◌≡◌, ℕ, ◌<◌, None, Option, sym, ap, ◌∙◌, arith}
use Rattle.protocol.specs.Faults.{ledger_number}
use Rattle.protocol.specs.Refusals.{first, unless_refused}
use Rattle.protocol.specs.Ledger.{with_balances, debited, debit_refusals}
use Rattle.ledger.proofs.Answers.{free_from_ok, left_of_ok}
use Rattle.ledger.proofs.Supplies.{move_free, credit_free}
use Rattle.ledger.proofs.Ledger.transfer.Goals as goal

-- the debit was not refused, so the credit is not, and the two make the move
pub returns : goal.returns
returns g c =
    let m = g.Self.Ledger.meaning c.args.self.now in
    let law = g.Self.Ledger.lawful c.args.self.now in
    let from_in : c.args.from < 24 = omega arith in
    let to_in : c.args.to < 24 = omega arith in
    let free : first (debit_refusals m c.args.chain c.args.from c.args.denomination c.args.amount) ≡ None =
    free_from_ok _ tt tt (sym c.in_ok-debit.ensures.answer) in
    let left : g.Self.Ledger.meaning c.debit.new.self ≡ with_balances m (debited m.balance c.args.chain c.args.from c.args.denomination c.args.amount) = c.in_ok-debit.ensures.after in
    let none = credit_free m law c.args.chain c.args.from c.args.to c.args.denomination c.args.amount from_in to_in free in
    let never = move_free m law c.args.chain c.args.from c.args.to c.args.denomination c.args.amount from_in to_in free in
    let told = rw left at c.credit.ensures.answer in
    let ends = rw left at c.credit.ensures.after in
    let refused = λ (o : Option ℕ). unless_refused {X = Unit {0}} o tt in
    record {
      answer = told ∙ ap refused (none ∙ sym never);
      after = ends ∙ left_of_ok ledger_number c.credit.result tt (told ∙ ap refused none) _ m _;
    }

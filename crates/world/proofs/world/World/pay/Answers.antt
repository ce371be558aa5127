use Rattle.std.proofs.Common.{ℕ, sym, ap, ◌∙◌, eq-eqb, ne_eqb}
use borrow.Author.Tests.{lt-leb}
use Rattle.std.proofs.lemmas.Result.{err_from_is_err_and}
use Rattle.denom.specs.Denomination.{same_denom}
use Rattle.denom.specs.Views.{denom_view}
use Rattle.protocol.specs.Faults.{world_number}
use Rattle.protocol.specs.Ledger.{with_balances, moved}
use Rattle.protocol.specs.Calls.{with_ledger, pay, done}
use Rattle.tables.proofs.Kept.{number_some}
use Rattle.world.specs.View.{view}
use Rattle.world.proofs.Verdicts.{stopped, ended_by_ledger, there_was, there_was_none, handed_on}
use Rattle.world.proofs.Issuing.{none_found}
use Rattle.world.proofs.Stops.{pay_no_chain, pay_nothing, pay_unknown}
use Rattle.world.proofs.Ledgers.{pay_left}
use Rattle.world.proofs.world.World.pay.Goals as goal

pub returns-then-not-serves : goal.returns-then-not-serves
returns-then-not-serves g c =
    let w = view g.L.Ledger.meaning g.F.Book.meaning g.S.Book.meaning c.args.self.now in
    let e = denom_view c.args.denomination.now in
    let no = stopped w (pay c.args.chain c.args.user c.args.payee e c.args.amount) 6 (pay_no_chain w c.args.chain c.args.user c.args.payee e c.args.amount (sym c.if-not-serves.ensures)) in
    record { answer = no.0; after = no.1 }

pub returns-then-amount-eq0 : goal.returns-then-amount-eq0
returns-then-amount-eq0 g c =
    let w = view g.L.Ledger.meaning g.F.Book.meaning g.S.Book.meaning c.args.self.now in
    let e = denom_view c.args.denomination.now in
    let no = stopped w (pay c.args.chain c.args.user c.args.payee e c.args.amount) 13 (pay_nothing w c.args.chain c.args.user c.args.payee e c.args.amount (sym c.if-not-serves.ensures) (lt-leb 16 c.args.user c.if-user-ge-USERS.false) (lt-leb 16 c.args.payee c.if-payee-ge-USERS.false) (eq-eqb c.args.amount 0 c.if-amount-eq0.true)) in
    record { answer = no.0; after = no.1 }

pub returns-in_err-number : goal.returns-in_err-number
returns-in_err-number g c =
    let w = view g.L.Ledger.meaning g.F.Book.meaning g.S.Book.meaning c.args.self.now in
    let e = denom_view c.args.denomination.now in
    let none = there_was_none _ _ _ c.in_err-number.ensures.value in
    let by = (pay_unknown w c.args.chain c.args.user c.args.payee e c.args.amount (sym c.if-not-serves.ensures) (lt-leb 16 c.args.user c.if-user-ge-USERS.false) (lt-leb 16 c.args.payee c.if-payee-ge-USERS.false) (ne_eqb c.args.amount 0 c.if-amount-eq0.false) (none_found (same_denom e) (w.register c.args.chain) (sym none.0 ∙ c.number_of.ensures.number))) in
    let no = handed_on w (pay c.args.chain c.args.user c.args.payee e c.args.amount) (λ (x : Unit {0}). done) c.from_residual.result _ 14 (err_from_is_err_and c.from_residual.result c.from_residual.ensures.1) (ap world_number none.1) by in
    record { answer = no.0; after = no.1 }

pub returns : goal.returns
returns g c =
    let w = view g.L.Ledger.meaning g.F.Book.meaning g.S.Book.meaning c.args.self.now in
    let e = denom_view c.args.denomination.now in
    let d = c.in_ok-number.number in
    let found = there_was _ _ _ c.in_ok-number.ensures.value in
    let known = number_some (same_denom e) (w.register c.args.chain) d (sym c.number_of.ensures.number ∙ found) in
    let told = c.transfer.ensures in
    let new = λ (m : ℕ). with_balances w.ledger (moved w.ledger.balance c.args.chain c.args.user c.args.payee m c.args.amount) in
    let s =
    ended_by_ledger w (pay c.args.chain c.args.user c.args.payee e c.args.amount) (new d) _ _ c.transfer.result c.climbed.result
    (pay_left w c.args.chain c.args.user c.args.payee d c.args.amount e (sym c.if-not-serves.ensures) c.if-user-ge-USERS.false c.if-payee-ge-USERS.false (ne_eqb c.args.amount 0 c.if-amount-eq0.false) known.0 known.1 (rw found at c.number_of.ensures.small))
    (ap (λ (m : ℕ). (with_ledger w (new m), done)) known.1) told.answer told.after c.climbed.ensures
    in
    record { answer = s.0; after = s.1 }

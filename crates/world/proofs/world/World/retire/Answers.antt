use Rattle.std.proofs.Common.{ℕ, sym, ap, ◌∙◌, eq-eqb, ne_eqb, le-leb}
use borrow.Author.Tests.{lt-leb}
use Rattle.std.proofs.lemmas.Result.{err_from_is_err_and}
use Rattle.denom.specs.Denomination.{same_denom}
use Rattle.denom.specs.Views.{denom_view}
use Rattle.protocol.specs.Faults.{world_number}
use Rattle.protocol.specs.Ledger.{with_balances, debited}
use Rattle.protocol.specs.Calls.{with_ledger, retire, done}
use Rattle.tables.proofs.Kept.{number_some}
use Rattle.world.specs.View.{view}
use Rattle.world.proofs.Verdicts.{stopped, ended_by_ledger, there_was, there_was_none, handed_on}
use Rattle.world.proofs.Issuing.{none_found}
use Rattle.world.proofs.Stops.{retire_no_chain, retire_no_user, retire_nothing, retire_unknown, retire_voucher}
use Rattle.world.proofs.Ledgers.{retire_left}
use Rattle.world.proofs.world.World.retire.Goals as goal

pub returns-then-not-serves : goal.returns-then-not-serves
returns-then-not-serves g c =
    let w = view g.L.Ledger.meaning g.F.Book.meaning g.S.Book.meaning c.args.self.now in
    let e = denom_view c.args.denomination.now in
    let no = stopped w (retire c.args.chain c.args.user e c.args.amount) 6 (retire_no_chain w c.args.chain c.args.user e c.args.amount (sym c.if-not-serves.ensures)) in
    record { answer = no.0; after = no.1 }

pub returns-then-user-ge-USERS : goal.returns-then-user-ge-USERS
returns-then-user-ge-USERS g c =
    let w = view g.L.Ledger.meaning g.F.Book.meaning g.S.Book.meaning c.args.self.now in
    let e = denom_view c.args.denomination.now in
    let no = stopped w (retire c.args.chain c.args.user e c.args.amount) 12 (retire_no_user w c.args.chain c.args.user e c.args.amount (sym c.if-not-serves.ensures) (le-leb 16 c.args.user c.if-user-ge-USERS.true)) in
    record { answer = no.0; after = no.1 }

pub returns-then-amount-eq0 : goal.returns-then-amount-eq0
returns-then-amount-eq0 g c =
    let w = view g.L.Ledger.meaning g.F.Book.meaning g.S.Book.meaning c.args.self.now in
    let e = denom_view c.args.denomination.now in
    let no = stopped w (retire c.args.chain c.args.user e c.args.amount) 13 (retire_nothing w c.args.chain c.args.user e c.args.amount (sym c.if-not-serves.ensures) (lt-leb 16 c.args.user c.if-user-ge-USERS.false) (eq-eqb c.args.amount 0 c.if-amount-eq0.true)) in
    record { answer = no.0; after = no.1 }

pub returns-in_err-number : goal.returns-in_err-number
returns-in_err-number g c =
    let w = view g.L.Ledger.meaning g.F.Book.meaning g.S.Book.meaning c.args.self.now in
    let e = denom_view c.args.denomination.now in
    let none = there_was_none _ _ _ c.in_err-number.ensures.value in
    let by = (retire_unknown w c.args.chain c.args.user e c.args.amount (sym c.if-not-serves.ensures) (lt-leb 16 c.args.user c.if-user-ge-USERS.false) (ne_eqb c.args.amount 0 c.if-amount-eq0.false) (none_found (same_denom e) (w.register c.args.chain) (sym none.0 ∙ c.number_of.ensures.number))) in
    let no = handed_on w (retire c.args.chain c.args.user e c.args.amount) (λ (x : Unit {0}). done) c.from_residual.result _ 14 (err_from_is_err_and c.from_residual.result c.from_residual.ensures.1) (ap world_number none.1) by in
    record { answer = no.0; after = no.1 }

pub returns-then-not-is_hopless : goal.returns-then-not-is_hopless
returns-then-not-is_hopless g c =
    let w = view g.L.Ledger.meaning g.F.Book.meaning g.S.Book.meaning c.args.self.now in
    let e = denom_view c.args.denomination.now in
    let no = stopped w (retire c.args.chain c.args.user e c.args.amount) 15 (retire_voucher w c.args.chain c.args.user e c.args.amount (sym c.if-not-serves.ensures) (lt-leb 16 c.args.user c.if-user-ge-USERS.false) (ne_eqb c.args.amount 0 c.if-amount-eq0.false) (number_some (same_denom e) (w.register c.args.chain) c.in_ok-number.number (sym c.number_of.ensures.number ∙ there_was _ _ _ c.in_ok-number.ensures.value)).0 (sym c.if-not-is_hopless.ensures)) in
    record { answer = no.0; after = no.1 }

pub returns : goal.returns
returns g c =
    let w = view g.L.Ledger.meaning g.F.Book.meaning g.S.Book.meaning c.args.self.now in
    let e = denom_view c.args.denomination.now in
    let d = c.in_ok-number.number in
    let found = there_was _ _ _ c.in_ok-number.ensures.value in
    let known = number_some (same_denom e) (w.register c.args.chain) d (sym c.number_of.ensures.number ∙ found) in
    let told = c.debit.ensures in
    let new = λ (m : ℕ). with_balances w.ledger (debited w.ledger.balance c.args.chain c.args.user m c.args.amount) in
    let s =
    ended_by_ledger w (retire c.args.chain c.args.user e c.args.amount) (new d) _ _ c.debit.result c.climbed.result
    (retire_left w c.args.chain c.args.user d c.args.amount e (sym c.if-not-serves.ensures) c.if-user-ge-USERS.false (ne_eqb c.args.amount 0 c.if-amount-eq0.false) known.0 known.1 (rw found at c.number_of.ensures.small) (sym c.if-not-is_hopless.ensures))
    (ap (λ (m : ℕ). (with_ledger w (new m), done)) known.1) told.answer told.after c.climbed.ensures
    in
    record { answer = s.0; after = s.1 }

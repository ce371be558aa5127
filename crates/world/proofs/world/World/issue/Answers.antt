use Rattle.std.proofs.Common.{◌≡◌, ℕ, Bool, true, false, not, ◌&&◌, ◌||◌, leb, List, length, Some, None, sym, refl, ap, ◌∙◌, arith, eq-eqb, ne_eqb, le-leb, leb-false}
use borrow.Author.Tests.{lt-leb}
use Rattle.std.proofs.lemmas.Result.{err_from_is_err_and}
use Rattle.ledger.proofs.Answers.{free_from_ok}
use Rattle.register.specs.Keys.{found}
use Rattle.denom.specs.Denomination.{Denom, Token, hopless, same_token}
use Rattle.denom.specs.Views.{denom_view, symbol_of}
use Rattle.protocol.specs.Ledger.{with_balances, credited}
use Rattle.protocol.specs.declared.faults.WorldFault.{WorldFault}
use Rattle.protocol.specs.Faults.{ledger_number, world_number}
use Rattle.protocol.specs.Refusals.{first}
use Rattle.protocol.specs.World.{World, number, registered}
use Rattle.protocol.specs.Calls.{issue, done, no as refused, said, refusals, token_at, token_known, with_ledger, enrolled, token_enrolled}
use Rattle.tables.specs.View.{tokens_in}
use Rattle.world.specs.View.{view}
use Rattle.world.proofs.Verdicts.{stopped, accepted, refused_from_err, there_was, there_was_none, handed_on}
use Rattle.world.proofs.Stops.{issue_no_chain, issue_no_user, issue_nothing, issue_full}
use Rattle.world.proofs.Issuing.{there_if, absent_if, issue_left}
use Rattle.world.proofs.world.World.issue.Goals as goal

-- whether a new key would meet a full register
abbrev full : World → ℕ → List ℕ → Denom → Bool
full w c s e = (not (token_known w (token_at c s)) && leb 64 (length w.tokens)) || (not (registered w c e) && leb 32 (length (w.register c)))

-- a token that is new finds room where nothing is full
new-fits : (b f x : Bool) → ((not b && f) || x) ≡ false → b ≡ false → f ≡ false
new-fits true f x h e = let z : ◌≡◌ {A = ℕ} 0 1 = cc in absurd (omega arith)
new-fits false true x h e = let z : ◌≡◌ {A = ℕ} 0 1 = cc in absurd (omega arith)
new-fits false false x h e = refl

pub returns-then-not-serves : goal.returns-then-not-serves
returns-then-not-serves g c =
    let w = view g.L.Ledger.meaning g.F.Book.meaning g.S.Book.meaning c.args.self.now in
    let s = symbol_of c.args.symbol in
    let no = stopped w (issue c.args.chain c.args.user s c.args.amount) 6 (issue_no_chain w c.args.chain c.args.user s c.args.amount c.args.symbol.spelt (sym c.if-not-serves.ensures)) in
    record { answer = no.0; after = no.1 }

pub returns-then-user-ge-USERS : goal.returns-then-user-ge-USERS
returns-then-user-ge-USERS g c =
    let w = view g.L.Ledger.meaning g.F.Book.meaning g.S.Book.meaning c.args.self.now in
    let s = symbol_of c.args.symbol in
    let no = stopped w (issue c.args.chain c.args.user s c.args.amount) 12 (issue_no_user w c.args.chain c.args.user s c.args.amount c.args.symbol.spelt (sym c.if-not-serves.ensures) (le-leb 16 c.args.user c.if-user-ge-USERS.true)) in
    record { answer = no.0; after = no.1 }

pub returns-then-amount-eq0 : goal.returns-then-amount-eq0
returns-then-amount-eq0 g c =
    let w = view g.L.Ledger.meaning g.F.Book.meaning g.S.Book.meaning c.args.self.now in
    let s = symbol_of c.args.symbol in
    let no = stopped w (issue c.args.chain c.args.user s c.args.amount) 13 (issue_nothing w c.args.chain c.args.user s c.args.amount c.args.symbol.spelt (sym c.if-not-serves.ensures) (lt-leb 16 c.args.user c.if-user-ge-USERS.false) (eq-eqb c.args.amount 0 c.if-amount-eq0.true)) in
    record { answer = no.0; after = no.1 }

pub returns-in_err-number : goal.returns-in_err-number
returns-in_err-number g c =
    let w = view g.L.Ledger.meaning g.F.Book.meaning g.S.Book.meaning c.args.self.now in
    let s = symbol_of c.args.symbol in
    let plain : denom_view c.hopless-denomination.result ≡ hopless s = c.hopless-denomination.ensures in
    let none = there_was_none _ _ _ c.in_err-number.ensures.value in
    let full-one = ap (full w c.args.chain s) (sym plain) ∙ absent_if _ _ (sym none.0 ∙ c.room_for.ensures.number) in
    let by = (issue_full w c.args.chain c.args.user s c.args.amount c.args.symbol.spelt (sym c.if-not-serves.ensures) (lt-leb 16 c.args.user c.if-user-ge-USERS.false) (ne_eqb c.args.amount 0 c.if-amount-eq0.false) full-one) in
    let no = handed_on w (issue c.args.chain c.args.user s c.args.amount) (λ (x : Unit {0}). done) c.from_residual.result _ 23 (err_from_is_err_and c.from_residual.result c.from_residual.ensures.1) (ap world_number none.1) by in
    record { answer = no.0; after = no.1 }

pub returns-in_err-credit : goal.returns-in_err-credit
returns-in_err-credit g c =
    let w = view g.L.Ledger.meaning g.F.Book.meaning g.S.Book.meaning c.args.self.now in
    let chain = c.args.chain in
    let s = symbol_of c.args.symbol in
    let k = issue chain c.args.user s c.args.amount in
    let plain : denom_view c.hopless-denomination.result ≡ hopless s = c.hopless-denomination.ensures in
    let there = there_was _ _ _ c.in_ok-number.ensures.value in
    let told = there_if _ _ _ (sym there ∙ c.room_for.ensures.number) in
    let numbered : number w chain (hopless s) ≡ c.in_ok-number.number = sym (told.1 ∙ ap (number w chain) plain) in
    let room : full w chain s (hopless s) ≡ false = ap (full w chain s) (sym plain) ∙ told.0 in
    let credit = c.in_err-credit.ensures in
    let n = ledger_number c.in_err-credit.field-0.0 in
    let p = err_from_is_err_and c.from_residual-in_err-credit.result c.from_residual-in_err-credit.ensures.1 in
    let by : first (refusals w k) ≡ Some n =
    issue_left w chain c.args.user s c.args.amount c.in_ok-number.number c.args.symbol.spelt (sym c.if-not-serves.ensures) c.if-user-ge-USERS.false (ne_eqb c.args.amount 0 c.if-amount-eq0.false) room numbered (rw there at c.room_for.ensures.small)
    ∙ refused_from_err _ tt n (sym credit.answer)
    in
    let no = stopped w k n by in
    record {
      answer = ap (said (λ (x : Unit {0}). done) world_number) p.1 ∙ ap (λ (f : WorldFault). refused (world_number f)) p.2 ∙ no.0;
      after = ap (with_ledger w) credit.after ∙ no.1;
    }

pub enrol_token-requires : goal.enrol_token-requires
enrol_token-requires g c =
    let there = there_was _ _ _ c.in_ok-number.ensures.value in
    let told = there_if _ _ _ (sym there ∙ c.room_for.ensures.number) in
    let tokens : List Token = tokens_in c.args.self.now.tables.tokens in
    let same : tokens_in c.enrol.new.self.tables.tokens ≡ tokens = ap (λ (x : World). x.tokens) c.enrol.ensures in
    let t = token_at c.args.chain (symbol_of c.args.symbol) in
    record {
      room = λ unknown.
          let before : found (same_token t) tokens ≡ false = ap (λ l. found (same_token t) l) (sym same) ∙ unknown in
          omega (arith, ap length same, leb-false 64 (length tokens) (new-fits (found (same_token t) tokens) (leb 64 (length tokens)) _ told.0 before));
    }

pub returns : goal.returns
returns g c =
    let w = view g.L.Ledger.meaning g.F.Book.meaning g.S.Book.meaning c.args.self.now in
    let chain = c.args.chain in
    let user = c.args.user in
    let s = symbol_of c.args.symbol in
    let n = c.args.amount in
    let k = issue chain user s n in
    let plain : denom_view c.hopless-denomination.result ≡ hopless s = c.hopless-denomination.ensures in
    let there = there_was _ _ _ c.in_ok-number.ensures.value in
    let told = there_if _ _ _ (sym there ∙ c.room_for.ensures.number) in
    let credit = c.in_ok-credit.ensures in
    let numbered : c.in_ok-number.number ≡ number w chain (hopless s) = told.1 ∙ ap (number w chain) plain in
    let room : full w chain s (hopless s) ≡ false = ap (full w chain s) (sym plain) ∙ told.0 in
    let by : first (refusals w k) ≡ None =
    issue_left w chain user s n c.in_ok-number.number c.args.symbol.spelt (sym c.if-not-serves.ensures) c.if-user-ge-USERS.false (ne_eqb n 0 c.if-amount-eq0.false) room (sym numbered) (rw there at c.room_for.ensures.small)
    ∙ free_from_ok _ tt tt (sym credit.answer)
    in
    let step_is = accepted w k by in
    let F : ℕ → Denom → World = λ d e. token_enrolled (enrolled (with_ledger w (with_balances w.ledger (credited w.ledger.balance chain user d n))) chain e) (token_at chain s) in
    record {
      answer = sym (ap (λ p. p.1) step_is);
      after =
          c.enrol_token.ensures
          ∙ ap (λ (x : World). token_enrolled x (token_at chain s)) (c.enrol.ensures ∙ ap (λ l. enrolled (with_ledger w l) chain (denom_view c.hopless-denomination.result)) credit.after)
          ∙ (λ i. F (numbered i) (plain i))
          ∙ sym (ap (λ p. p.0) step_is);
    }

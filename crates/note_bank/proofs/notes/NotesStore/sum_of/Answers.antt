use Rattle.std.proofs.Common.{◌≡◌, ℕ, vec_items, refl, ◌∙◌, arith}
use Rattle.sums.specs.Sums.{sum_below}
use Rattle.sums.proofs.Below.{sum_front}
use Rattle.note_bank.specs.Notes.{note_balances}
use Rattle.note_bank.proofs.Shares.{column_counted}
use Rattle.note_bank.proofs.notes.NotesStore.sum_of.Goals as goal

-- what `add_up` gives is the sum over the accounts
sum_is : (c : goal.After-add_up) → c.add_up.result ≡ sum_below c.args.accounts (λ a. note_balances (vec_items c.args.self.now.places) 0 a c.args.denomination)
sum_is c =
    let bank = c.args.self.now in
    let l = bank.places.ok.0 in
    (rw c.front.ensures at c.add_up.ensures.sum)
    ∙ column_counted (record { denomination = c.args.denomination; from = 0; to = c.args.accounts }) bank.used (vec_items bank.places) bank.rest (omega (arith, c.args.self.now.large)) c.requires.denomination refl c.requires.accounts

-- it is at most the supply
pub overflow_cast-result : goal.overflow_cast-result
overflow_cast-result c =
    let f = λ (a : ℕ). note_balances (vec_items c.args.self.now.places) 0 a c.args.denomination in
    omega (arith, sum_is c, sum_front 24 c.args.accounts f c.requires.accounts, c.args.self.now.supplies 0 c.args.denomination)

pub returns : goal.returns
returns c = sum_is c

use Rattle.std.proofs.Common.{◌+◌, ◌≢◌, sym, ap, ◌∙◌, arith, get_or-set_other, None}
use Rattle.protocol.specs.Ledger.{Balances, put}
use Rattle.ledger.proofs.Supplies.{supplies_left}
use Rattle.note_bank.specs.Notes.{note_balances}
use Rattle.note_bank.proofs.Shares.{note_added}
use Rattle.note_bank.proofs.notes.NotesStore.give.Goals as goal

pub invariant_of-self-clause-supplies : goal.invariant_of-self-clause-supplies
invariant_of-self-clause-supplies c =
    let free = c.free_place-place.new.self in
    let ys = free.places.items in
    let at = c.args.holding in
    let l = free.places.ok.0 in
    let e = note_added ys c.free_place-place.result _ (omega (arith, free.large)) (omega (arith, c.free_place-place.ensures.within, free.front)) c.free_place-place.ensures.free in
    let fits = rw (sym c.free_place-place.ensures.after) at c.requires.fits in
    supplies_left (note_balances ys) _ 0 at.account at.denomination _ e at.account_known free.supplies (omega (arith, fits))

pub invariant_of-self-clause-rest : goal.invariant_of-self-clause-rest
invariant_of-self-clause-rest c k h =
    let free = c.free_place-place.new.self in
    let i = c.free_place-place.result in
    let past : k ≢ i = omega (arith, c.free_place-place.ensures.within) in
    get_or-set_other free.places.items i k _ None past ∙ free.rest k h

pub returns : goal.returns
returns c =
    let free = c.free_place-place.new.self in
    let at = c.args.holding in
    let l = free.places.ok.0 in
    note_added free.places.items c.free_place-place.result _ (omega (arith, free.large)) (omega (arith, c.free_place-place.ensures.within, free.front)) c.free_place-place.ensures.free
    ∙ ap (λ (b : Balances). put b 0 at.account at.denomination (b 0 at.account at.denomination + c.args.amount)) c.free_place-place.ensures.after

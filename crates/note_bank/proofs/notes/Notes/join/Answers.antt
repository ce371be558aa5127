use Rattle.std.proofs.Common.{◌≡◌, ℕ, ◌<◌, ◌≤◌, List, length, get_or, sym, ap, ◌∙◌, subst, arith, get_or-take, None}
use Rattle.ledger.proofs.Lent.{lent_whole}
use Rattle.protocol.specs.House.{most}
use Rattle.protocol.specs.Ledger.{Balances, supply}
use Rattle.note_bank.specs.Notes.{FreeFrom, Alike, held, note_balances, Place}
use Rattle.note_bank.proofs.Fronts.{in_front}
use Rattle.note_bank.proofs.Joins.{joint_fits}
use Rattle.note_bank.proofs.Shares.{balances_same}
use Rattle.note_bank.proofs.notes.Notes.join.Goals as goal

-- the pair that was found can be joined
pub join-requires-clause-fits : goal.join-requires-clause-fits
join-requires-clause-fits c =
    let bank = c.args.self.now in
    let xs = bank.places.items in
    let l = bank.places.ok.0 in
    let i = c.find_pair-first.result.0 in
    let j = c.find_pair-first.result.1 in
    let order = c.find_pair-first.ensures.order in
    let short : bank.used ≤ length xs = omega (arith, bank.front) in
    let lent : xs ≡ c.deref_mut.result.now = sym c.deref_mut.ensures.value in
    let found : j < bank.used = in_front bank.used j xs c.front.result.now short c.front.ensures c.find_pair-first.ensures.within in
    let before : i < bank.used = omega arith in
    let within : j < length xs = omega arith in
    let alike : Alike (get_or xs i None) (get_or xs j None) =
    rw (get_or-take bank.used xs i None before, get_or-take bank.used xs j None found) at (subst (λ (ys : List Place). Alike (get_or ys i None) (get_or ys j None)) c.front.ensures c.find_pair-first.ensures.alike) in
    let fits = joint_fits xs i j order within (omega (arith, c.requires.served)) alike bank.supplies in
    rw lent at fits

-- What is joined are the places that were lent, whole, and they hold what they held.

pub invariant_of-self-clause-supplies : goal.invariant_of-self-clause-supplies
invariant_of-self-clause-supplies c =
    let bank = c.args.self.now in
    let l = bank.places.ok.0 in
    let same : length c.join.new.places ≡ length bank.places.items = omega (arith, c.join.auto.places) in
    let whole = lent_whole bank.places.len c.join.new.places bank.places.items (omega arith) same in
    let balances = balances_same bank.places.items c.join.new.places same (λ a d. c.join.ensures.same a d ∙ ap (λ (zs : List Place). held zs a d) c.deref_mut.ensures.value) in
    let Law : Balances → Type 0 = λ b. (c' d : ℕ) → supply b c' d ≤ most in
    subst Law (sym (ap note_balances whole ∙ balances)) bank.supplies

pub invariant_of-self-clause-rest : goal.invariant_of-self-clause-rest
invariant_of-self-clause-rest c =
    let bank = c.args.self.now in
    let xs = bank.places.items in
    let l = bank.places.ok.0 in
    let short : bank.used ≤ length xs = omega (arith, bank.front) in
    let found = in_front bank.used c.find_pair-first.result.1 xs c.front.result.now short c.front.ensures c.find_pair-first.ensures.within in
    let whole = lent_whole bank.places.len c.join.new.places xs (omega arith) (omega (arith, c.join.auto.places)) in
    let rest : FreeFrom bank.used c.join.new.places =
    λ k h. c.join.ensures.behind k (omega arith) ∙ ap (λ (zs : List Place). get_or zs k None) c.deref_mut.ensures.value ∙ bank.rest k h in
    subst (FreeFrom bank.used) (sym whole) rest

pub returns-clause-after : goal.returns-clause-after
returns-clause-after c =
    let bank = c.args.self.now in
    let l = bank.places.ok.0 in
    let same : length c.join.new.places ≡ length bank.places.items = omega (arith, c.join.auto.places) in
    ap note_balances (lent_whole bank.places.len c.join.new.places bank.places.items (omega arith) same)
    ∙ balances_same bank.places.items c.join.new.places same (λ a d. c.join.ensures.same a d ∙ ap (λ (zs : List Place). held zs a d) c.deref_mut.ensures.value)

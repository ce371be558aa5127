use Rattle.std.proofs.Common.{◌≡◌, ℕ, ◌-◌, ◌<◌, ◌≤◌, List, ◌++◌, map, length, take, sym, ap, ◌∙◌, subst, arith, drop}
use borrow.Rule.Slice.PartMut.{post_of}
use native.Mathlib.Nat.{sub-zero}
use Rattle.std.proofs.lemmas.List.{length-map}
use Rattle.ledger.proofs.Lent.{lent_whole}
use Rattle.protocol.specs.Ledger.{put}
use Rattle.ledger.proofs.Supplies.{supplies_left}
use Rattle.note_bank.specs.Notes.{FreeFrom, released, note_balances, Place}
use Rattle.note_bank.proofs.Shares.{balances_put, held_released, rest_released, front_released}
use Rattle.note_bank.proofs.notes.Notes.release.Goals as goal

-- one balance is empty where the notes are freed
balances-released : (xs : List Place) (a d : ℕ) → 1024 ≤ length xs → a < 24 → d < 32 → note_balances (map (released a d) xs) ≡ put (note_balances xs) 0 a d 0
balances-released xs a d long ha hd = balances_put xs (map (released a d) xs) a d 0 long (simp length-map) ha hd (held_released xs a d)

-- of all places the first n were lent, and freed of the notes: then all are
all-released : (n len a d : ℕ) (xs zs ws : List Place) → len ≡ length xs → FreeFrom n xs → zs ≡ xs → ws ≡ map (released a d) (take (n - 0) zs) → take len ((ws ++ post_of 0 (n - 0) zs) ++ drop (length (ws ++ post_of 0 (n - 0) zs)) xs) ≡ map (released a d) xs
all-released n len a d xs zs ws all rest e f =
    let parts : ws ++ post_of 0 (n - 0) zs ≡ map (released a d) xs = rw (f, e, sub-zero) (front_released n xs a d rest) in
    let same : length (ws ++ post_of 0 (n - 0) zs) ≡ length xs = ap length parts ∙ simp length-map in
    lent_whole len (ws ++ post_of 0 (n - 0) zs) xs all same ∙ parts

pub invariant_of-self-clause-supplies : goal.invariant_of-self-clause-supplies
invariant_of-self-clause-supplies c =
    let bank = c.args.self.now in
    let xs = bank.places.items in
    let l = bank.places.ok.0 in
    let at = c.args.holding in
    let e = all-released bank.used bank.places.len at.account at.denomination xs c.deref_mut.result.now c.release.new.places l bank.rest c.deref_mut.ensures.value c.release.ensures in
    let balances = balances-released xs at.account at.denomination (omega (arith, bank.large)) at.account_known at.denomination_known in
    supplies_left (note_balances xs) _ 0 at.account at.denomination 0 (ap note_balances e ∙ balances) at.account_known bank.supplies (omega (arith, bank.supplies 0 at.denomination))

pub invariant_of-self-clause-rest : goal.invariant_of-self-clause-rest
invariant_of-self-clause-rest c =
    let bank = c.args.self.now in
    let xs = bank.places.items in
    let at = c.args.holding in
    let e = all-released bank.used bank.places.len at.account at.denomination xs c.deref_mut.result.now c.release.new.places bank.places.ok.0 bank.rest c.deref_mut.ensures.value c.release.ensures in
    subst (FreeFrom bank.used) (sym e) (rest_released bank.used xs at.account at.denomination bank.rest)

pub returns : goal.returns
returns c =
    let bank = c.args.self.now in
    let xs = bank.places.items in
    let l = bank.places.ok.0 in
    let at = c.args.holding in
    let e = all-released bank.used bank.places.len at.account at.denomination xs c.deref_mut.result.now c.release.new.places l bank.rest c.deref_mut.ensures.value c.release.ensures in
    ap note_balances e ∙ balances-released xs at.account at.denomination (omega (arith, bank.large)) at.account_known at.denomination_known

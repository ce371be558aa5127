use Rattle.std.proofs.Common.{◌≡◌, ℕ, ◌<◌, true, false, List, length, get_or, set, sym, refl, ◌∙◌, arith, None}
use Rattle.std.proofs.lemmas.List.Edits.{map_over_more}
use Rattle.std.proofs.lemmas.List.{get_or_default}
use Rattle.note_bank.specs.Notes.{belongs, released, Place}
use Rattle.note_bank.proofs.pairs.release.Goals as goal
use Rattle.note_bank.proofs.pairs.release.Goals.{then-is_note_of, else-is_note_of}

-- a place is freed where it is one of those, and else left as it is
freed : (a d : ℕ) (xs : List Place) (i : ℕ) (p : Place) → belongs a d p ≡ true → set xs i None ≡ set xs i (released a d p)
freed a d xs i p e = rw e refl

left : (a d : ℕ) (xs : List Place) (i : ℕ) (p : Place) → belongs a d p ≡ false → set xs i p ≡ set xs i (released a d p)
left a d xs i p e = rw e refl

pub loop-place-preserved : goal.loop-place-preserved
loop-place-preserved c =
    let ys = c.loop-place.places in
    let i = c.loop-place.place-index in
    let a = c.args.holding.account in
    let d = c.args.holding.denomination in
    let x = get_or ys i c.place-item.result in
    let in_ys : i < length ys = omega arith in
    let on : set ys i (released a d x) ≡ _ = map_over_more (released a d) c.args.places.now ys i x (omega arith) c.loop-place.invariant (get_or_default ys i c.place-item.result x in_ys) in
    elim c.if-is_note_of.branch [
      | then-is_note_of w ↦ w.places-is ∙ freed a d ys i x (sym c.is_note_of.ensures ∙ w.if-is_note_of.true) ∙ on
      | else-is_note_of w ↦ w.places-is ∙ left a d ys i x (sym c.is_note_of.ensures ∙ w.if-is_note_of.false) ∙ on
    ]

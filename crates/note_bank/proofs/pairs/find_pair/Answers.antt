use Rattle.std.proofs.Common.{◌∙◌, ◌≡◌, ℕ, ◌+◌, ◌<◌, List, length, is_some, Option, sym, refl, ap, subst, arith, length-set, Some, None}
use Rattle.std.proofs.lemmas.List.{get_or_read}
use Rattle.sums.specs.Sums.{count}
use Rattle.note_bank.specs.Notes.{pair_of}
use Rattle.note_bank.proofs.Seen.{Noted, count_most, count_more, none_seen, noted_more}
use Rattle.note_bank.proofs.pairs.find_pair.Goals as goal
use Rattle.note_bank.proofs.pairs.find_pair.Goals.{in-Some+in_default-seen, in_default}

pub loop-index-init : goal.loop-index-init
loop-index-init c = (refl, λ q k e. absurd (none_seen 768 k q e), refl)

pub returns-in-Some-seen-clause-order : goal.returns-in-Some-seen-clause-order
returns-in-Some-seen-clause-order c =
    let noted = c.loop-index.invariant.1 c.place-pair.result c.in-Some-seen.earlier c.in-Some-seen.is in
    noted.0

pub loop-index-preserved : goal.loop-index-preserved
loop-index-preserved c =
    let xs = c.args.places.now in
    let seen = c.loop-index.seen in
    let i = c.loop-index.index in
    let read = get_or_read xs i c.index-places-index.result c.loop-index-test.true c.index-places-index.is None in
    let Kept : List (Option ℕ) → Type 0 = λ s. (count is_some s ≡ i + 1) × Noted xs s (i + 1) × (length s ≡ 768) in
    elim c.match-place.branch [
      | in-Some+in_default-seen w ↦
          let n = w.in-Some.note in
          let pair = w.place-pair.result in
          let small : pair < 768 = omega (arith, w.place-pair.ensures, n.holding.account_known, n.holding.denomination_known) in
          let within : pair < length seen = omega (arith, c.loop-index.invariant.2) in
          subst Kept (sym w.seen-is) (
            count_more xs seen i pair within w.in_default-seen.is c.loop-index.invariant.0,
            noted_more xs seen i pair within w.in_default-seen.is c.loop-index.invariant.1 (ap pair_of (sym read ∙ w.in-Some.is) ∙ ap Some (sym w.place-pair.ensures)),
            rw length-set c.loop-index.invariant.2,
          )
      | in_default w ↦
          let held = rw (sym read ∙ w.in_default.is) at (c.requires.full i c.loop-index-test.true) in
          let z : ◌≡◌ {A = ℕ} 0 1 = cc in
          absurd (omega arith)
    ]

pub unreachable-requires : goal.unreachable-requires
unreachable-requires c =
    omega (arith, c.loop-index.invariant.0, c.loop-index.invariant.2, count_most is_some c.loop-index.seen, c.requires.many)

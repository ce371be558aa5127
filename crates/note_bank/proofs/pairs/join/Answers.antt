use Rattle.std.proofs.Common.{sym, ap, ◌∙◌, None, arith}
use Rattle.std.proofs.lemmas.List.{get_or_read}
use Rattle.note_bank.specs.Notes.{pair_of}
use Rattle.note_bank.proofs.Joins.{held_joined}
use Rattle.note_bank.proofs.pairs.join.Goals as goal

pub returns-in-Some-Some-clause-same : goal.returns-in-Some-Some-clause-same
returns-in-Some-Some-clause-same c a d =
    let xs = c.args.places.now in
    let i = c.args.first in
    let j = c.args.second in
    let n = c.in-Some-Some.kept in
    let k = c.in-Some-Some.joined in
    let l = c.requires.within in
    let read_i = get_or_read xs i c.index-places-first.result (omega (arith, c.requires.order)) c.index-places-first.is None in
    let read_j = get_or_read xs j c.index-places-second.result l c.index-places-second.is None in
    let at_i = sym read_i ∙ c.in-Some-Some.is-0 in
    let at_j = sym read_j ∙ c.in-Some-Some.is-1 in
    let alike = sym (ap pair_of at_i) ∙ c.requires.alike.1 ∙ ap pair_of at_j in
    held_joined xs i j n k c.joint.result c.requires.order c.requires.within at_i at_j alike c.joint.ensures.holding c.joint.ensures.amount a d

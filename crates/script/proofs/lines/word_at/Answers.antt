use Rattle.std.proofs.Common.{[], ap, ◌∙◌}
use Rattle.std.specs.Option.{unwrap_or}
use Rattle.std.specs.List.{slice_get}
use Rattle.std.proofs.lemmas.Option.{unwrap_or-slice_get}
use Rattle.std.proofs.lemmas.Iterator.Consumers.{nth_from_yields_List}
use Rattle.script.specs.Lines.{words}
use Rattle.script.proofs.Given.{gives_pieces, all_left, read_or}
use Rattle.script.proofs.lines.word_at.Goals as goal

pub returns : goal.returns
returns c =
    let told = c.over.ensures in
    let nth = nth_from_yields_List _ _ _ c.nth.ensures.ran (gives_pieces c.over.result) in
    let left = all_left 32 c.over.result c.args.line.now told.text told.at told.end in
    ap (λ p. p.now) c.unwrap_or.ensures
    ∙ read_or c.nth.result _
    ∙ ap (λ o. unwrap_or o []) (nth ∙ ap (λ ps. slice_get ps c.args.place) left)
    ∙ unwrap_or-slice_get (words c.args.line.now) c.args.place []

use Rattle.std.proofs.Common.{length, ap, ◌∙◌, inl, arith}
use Rattle.std.proofs.lemmas.Iterator.Consumers.{count_from_yields_List}
use Rattle.script.proofs.Cuts.{few_pieces}
use Rattle.script.proofs.Given.{gives_pieces, all_left}
use Rattle.script.proofs.lines.count_words.Goals as goal

pub count-requires-clause-fits : goal.count-requires-clause-fits
count-requires-clause-fits c =
    let told = c.over.ensures in
    inl (omega (arith, ap length (all_left 32 c.over.result c.args.line.now told.text told.at told.end), few_pieces 32 c.args.line.now, c.well_formed.0.0))

pub returns : goal.returns
returns c =
    let told = c.over.ensures in
    count_from_yields_List _ _ c.count.ensures.ran (gives_pieces c.over.result) ∙ ap length (all_left 32 c.over.result c.args.line.now told.text told.at told.end)

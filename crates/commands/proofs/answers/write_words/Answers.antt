use Rattle.std.proofs.Common.{◌≡◌, [], ◌∷◌, codes, sym, refl, subst}
use Rattle.figures.specs.Figures.{figure}
use Rattle.figures.proofs.Parts.{Spaced, word_more, last_word}
use Rattle.commands.specs.Answers.{answer_words, answer_of}
use Rattle.commands.proofs.answers.write_words.Goals as goal

pub returns-in-Err-clause-text : goal.returns-in-Err-clause-text
returns-in-Err-clause-text c =
    let same : answer_words (answer_of c.args.answer) ≡ (codes "no" ∷ figure c.from.result ∷ c.layer_name.result.now ∷ []) =
    rw (c.in-Err.is, c.from.ensures, c.number.ensures, c.layer_name.ensures.value, c.layer.ensures) refl
    in
    (subst (λ ws. Spaced ws c.args.line.now c.word-in-Err.new.self) (sym same) (word_more c.word.ensures (word_more c.figure_word.ensures (last_word c.word-in-Err.ensures)))).wrote

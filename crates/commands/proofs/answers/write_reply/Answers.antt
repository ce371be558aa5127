use Rattle.std.proofs.Common.{◌≡◌, [], ◌∷◌, length, codes, sym, refl, ap, subst, arith, length-take}
use Rattle.figures.specs.Figures.{figure}
use Rattle.figures.proofs.Digits.{length_figure_64}
use Rattle.figures.proofs.Parts.{Spaced, word_more, last_word}
use Rattle.commands.specs.Answers.{answer_words, reply_answer}
use Rattle.commands.proofs.answers.write_reply.Goals as goal

pub returns-in-Number : goal.returns-in-Number
returns-in-Number c =
    let same : answer_words (reply_answer c.args.reply) ≡ (codes "ok" ∷ figure c.from.result ∷ []) = rw (c.in-Number.is, c.from.ensures) refl in
    let told = subst (λ ws. Spaced ws c.args.line.now c.figure_word.new.self) (sym same) (word_more c.word.ensures (last_word c.figure_word.ensures)) in
    record { short = grind (arith, length_figure_64, told.wrote.at, c.word.ensures.at, c.figure_word.ensures.at); text = told.wrote }

pub returns-in-Home : goal.returns-in-Home
returns-in-Home c =
    let token = c.in-Home.token in
    let chain = c.figure_word-in-Home.ensures in
    let symbol = c.word-in-Home.ensures in
    let same : answer_words (reply_answer c.args.reply) ≡ (codes "ok" ∷ figure token.chain ∷ c.as_slice.result.now ∷ []) = rw (c.in-Home.is, c.as_slice.ensures) refl in
    let told = subst (λ ws. Spaced ws c.args.line.now c.word-in-Home.new.self) (sym same) (word_more c.word.ensures (word_more chain (last_word symbol))) in
    record {
      short = grind (arith, length_figure_64, told.wrote.at, c.word.ensures.at, chain.at, symbol.at, ap length c.as_slice.ensures, length-take token.symbol.len token.symbol.bytes, token.symbol.few);
      text = told.wrote;
    }

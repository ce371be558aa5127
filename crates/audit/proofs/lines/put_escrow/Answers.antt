use Rattle.std.proofs.Common.{◌≡◌, [], ◌∷◌, codes, ◌∙◌, rules}
use Rattle.figures.specs.Figures.{figure, line_of, over}
use Rattle.figures.proofs.Parts.{word_more, last_word, line_written}
use Rattle.denom.specs.Text.{denom_text}
use Rattle.denom.specs.Views.{denom_view}
use Rattle.audit.proofs.lines.put_escrow.Goals as goal

pub returns : goal.returns
returns c =
    let start = c.over-line.ensures in
    let figures = word_more c.figure_word-3.ensures (word_more c.figure_word-4.ensures (last_word c.figure_word-5.ensures)) in
    let words = word_more c.figure_word.ensures (word_more c.figure_word-2.ensures (word_more c.denomination_word.ensures.text figures)) in
    let all = line_written c.args.buffer.now (start.at, start.buffer) c.bytes.ensures words c.bytes-2.ensures in
    let filled :
    c.bytes-2.new.self.buffer.now ≡
    over (line_of (codes "escrow") (figure c.args.link ∷ figure c.args.end ∷ denom_text (denom_view c.args.denomination.now) ∷ figure c.args.escrow ∷ figure c.args.vouchers ∷ figure c.args.carried ∷ [])) c.args.buffer.now =
    all.1
    in
    record { length = c.len.ensures ∙ all.0; buffer = search rules }

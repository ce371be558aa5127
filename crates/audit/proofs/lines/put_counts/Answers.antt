use Rattle.std.proofs.Common.{◌≡◌, [], ◌∷◌, codes, ◌∙◌, rules}
use Rattle.figures.specs.Figures.{figure, line_of, over}
use Rattle.figures.proofs.Parts.{word_more, last_word, line_written}
use Rattle.audit.proofs.lines.put_counts.Goals as goal

pub returns : goal.returns
returns c =
    let start = c.over-line.ensures in
    let words = word_more c.figure_word.ensures (word_more c.figure_word-2.ensures (last_word c.figure_word-3.ensures)) in
    let all = line_written c.args.buffer.now (start.at, start.buffer) c.bytes.ensures words c.bytes-2.ensures in
    let filled : c.bytes-2.new.self.buffer.now ≡ over (line_of (codes "audit") (figure c.args.tokens ∷ figure c.args.links ∷ figure c.args.packets ∷ [])) c.args.buffer.now = all.1 in
    record { length = c.len.ensures ∙ all.0; buffer = search rules }

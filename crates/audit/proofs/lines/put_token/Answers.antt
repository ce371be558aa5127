use Rattle.std.proofs.Common.{◌≡◌, ℕ, List, [], ◌∷◌, length, codes, ap, ◌∙◌, arith, length-take, rules}
use Rattle.figures.specs.Figures.{figure, line_of, over}
use Rattle.figures.proofs.Digits.{length_figure_64, length_figure_24}
use Rattle.figures.proofs.Parts.{word_more, last_word, line_written}
use Rattle.denom.specs.Views.{symbol_of}
use Rattle.audit.proofs.lines.put_token.Goals as goal

pub figure_word-requires-4 : goal.figure_word-requires-4
figure_word-requires-4 c =
    let symbol = c.args.symbol.now in
    omega (arith, ap length c.over-line.ensures.buffer, length_figure_64 c.args.chain (omega arith), ap length c.as_slice.ensures, length-take symbol.len symbol.bytes, symbol.few, length_figure_64 c.args.supply (omega arith), length_figure_24 c.args.users c.requires.users, length_figure_24 c.args.carried c.requires.carried)

pub bytes-requires-2 : goal.bytes-requires-2
bytes-requires-2 c =
    let symbol = c.args.symbol.now in
    omega (arith, ap length c.over-line.ensures.buffer, length_figure_64 c.args.chain (omega arith), ap length c.as_slice.ensures, length-take symbol.len symbol.bytes, symbol.few, length_figure_64 c.args.supply (omega arith), length_figure_24 c.args.users c.requires.users, length_figure_24 c.args.carried c.requires.carried)

pub returns : goal.returns
returns c =
    let start = c.over-line.ensures in
    let words = word_more c.figure_word.ensures (word_more c.word.ensures (word_more c.figure_word-2.ensures (word_more c.figure_word-3.ensures (last_word c.figure_word-4.ensures)))) in
    let all = line_written c.args.buffer.now (start.at, start.buffer) c.bytes.ensures words c.bytes-2.ensures in
    let line : List ℕ → List ℕ = λ s. line_of (codes "token") (figure c.args.chain ∷ s ∷ figure c.args.supply ∷ figure c.args.users ∷ figure c.args.carried ∷ []) in
    let filled : c.bytes-2.new.self.buffer.now ≡ over (line (symbol_of c.args.symbol.now)) c.args.buffer.now = all.1 ∙ ap (λ s. over (line s) c.args.buffer.now) c.as_slice.ensures in
    record { length = c.len.ensures ∙ all.0 ∙ ap (λ s. length (line s)) c.as_slice.ensures; buffer = search rules }

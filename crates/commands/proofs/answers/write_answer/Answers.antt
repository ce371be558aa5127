use Rattle.std.proofs.Common.{◌≡◌, rules}
use Rattle.figures.specs.Figures.{over}
use Rattle.figures.proofs.Parts.{line_written}
use Rattle.commands.specs.Answers.{answer_line, answer_of}
use Rattle.commands.proofs.answers.write_answer.Goals as goal

pub returns-clause-buffer : goal.returns-clause-buffer
returns-clause-buffer c =
    let start = c.over-line.ensures in
    let all = line_written c.args.buffer.now (start.at, start.buffer) c.figure.ensures (record { wrote = c.write_words.ensures.text }) c.bytes.ensures in
    let filled : c.bytes.new.self.buffer.now ≡ over (answer_line c.args.number (answer_of c.args.answer)) c.args.buffer.now = all.1 in
    search rules

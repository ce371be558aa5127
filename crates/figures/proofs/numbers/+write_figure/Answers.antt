use Rattle.std.proofs.Common.{◌+◌, ◌/◌, ◌%◌, set, sym, ap, ◌∙◌, arith}
use Rattle.figures.specs.Figures.{over, figure}
use Rattle.figures.proofs.Laid.{lay_more}
use Rattle.figures.proofs.Digits.{figure_step, length_figure_step}
use Rattle.figures.proofs.numbers.+write_figure.Goals as goal

pub write_figure-at-requires : goal.write_figure-at-requires
write_figure-at-requires t c = (omega arith, omega (arith, length_figure_step c.args.n c.if-n-lt10.false, c.requires))

pub bounds-out-at : goal.bounds-out-at
bounds-out-at t c = omega (arith, length_figure_step c.args.n c.if-n-lt10.false, c.requires, c.write_figure-at.ensures.answer, c.write_figure-at.auto.out)

pub returns : goal.returns
returns t c =
    let told = c.write_figure-at.ensures in
    let out = c.args.out.now in
    let ds = figure (c.args.n / 10) in
    let d = 48 + c.args.n % 10 in
    let long = length_figure_step c.args.n c.if-n-lt10.false in
    record {
      answer = omega (arith, long, told.answer);
      buffer =
          (λ i. set (told.buffer i) (told.answer i) d)
          ∙ lay_more ds out d (omega (arith, long, c.requires))
          ∙ sym (ap (λ ds. over ds out) (figure_step c.args.n c.if-n-lt10.false));
    }

use Rattle.figures.proofs.numbers.+write_figure.Given as goal

abbrev pub decreases-write-figure : goal.decreases-write-figure
decreases-write-figure l = l.n

use Rattle.std.proofs.Common.{◌≡◌, codes, sym, refl, arith}
use Rattle.commands.proofs.Spelt.{spelt}
use Rattle.commands.proofs.words.kind_at.Goals as goal

pub returns-in-strict : goal.returns-in-strict
returns-in-strict c =
    let is : c.word_at.result.now ≡ codes "strict" = spelt c.word_at.result.now (codes "strict") (omega arith) (search arith) in
    rw (sym c.word_at.ensures) (rw is refl)

use Rattle.std.proofs.Common.{ap, ◌∙◌, rules}
use Rattle.denom.specs.Text.{denom_of}
use Rattle.commands.specs.Commands.{or_bad}
use Rattle.commands.proofs.Denoms.{or_bad_word}
use Rattle.commands.proofs.words.denomination_at.Goals as goal

pub returns : goal.returns
returns c =
    or_bad_word (denom_of c.word_at.result.now) c.try_from.result c.map_err.result (λ f g q. search rules) c.try_from.ensures c.map_err.ensures.cases
    ∙ ap (λ w. or_bad (denom_of w)) c.word_at.ensures

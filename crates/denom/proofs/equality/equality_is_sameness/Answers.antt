use Rattle.denom.proofs.Same.{denom_to, denom_from, token_to, token_from}
use Rattle.denom.proofs.equality.equality_is_sameness.Goals as goal

pub returns-clause-same_denominations : goal.returns-clause-same_denominations
returns-clause-same_denominations c = λ e f. (denom_to e f, denom_from e f)

pub returns-clause-same_tokens : goal.returns-clause-same_tokens
returns-clause-same_tokens c = λ t v. (token_to t v, token_from t v)

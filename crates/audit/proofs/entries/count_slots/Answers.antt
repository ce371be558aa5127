use Rattle.std.proofs.Common.{arith}
use Rattle.tables.proofs.Taken.{few_rows}
use Rattle.audit.proofs.entries.count_slots.Goals as goal

pub overflow_add-result : goal.overflow_add-result
overflow_add-result g c = omega (arith, c.len-tokens.ensures, few_rows c.tables.result.now.tokens)

pub overflow_mul-result-2 : goal.overflow_mul-result-2
overflow_mul-result-2 g c = omega (arith, c.len-links.ensures, few_rows c.tables-2.result.now.links)

pub overflow_add-result-2 : goal.overflow_add-result-2
overflow_add-result-2 g c =
    omega (arith, c.len-tokens.ensures, c.len-links.ensures, few_rows c.tables.result.now.tokens, few_rows c.tables-2.result.now.links)

use Rattle.std.proofs.Common.{ℕ, ◌+◌, ◌-◌, ◌<◌, List, [], ◌∷◌, ◌++◌, length, get_or, take, drop, sym, subst, arith, false-eqb}
use Rattle.figures.specs.Lines.{Appends}
use Rattle.figures.proofs.Parts.{then_more}
use Rattle.denom.specs.Text.{hop_mark, trace_text}
use Rattle.denom.proofs.Joins.{first_hop}
use Rattle.denom.proofs.writer.+write_trace.Goals as goal

pub returns : goal.returns
returns t c =
    let hops = c.args.hops.now in
    let digit = (48 + get_or hops 0 0) ∷ 47 ∷ [] in
    let rest = trace_text (take (length hops - 1) (drop 1 hops)) c.args.symbol.now in
    let some : 0 < length hops = omega (arith, false-eqb _ 0 c.if-is_empty.ensures) in
    let P : List ℕ → Type 0 = λ text. Appends text c.args.line.now c.write_trace.new.line in
    subst P (sym (first_hop hops c.args.symbol.now some))
    (then_more (hop_mark ++ digit) rest _ _ _ (then_more hop_mark digit _ _ _ c.bytes-2.ensures c.bytes-3.ensures) c.write_trace.ensures)

use Rattle.std.proofs.Common.{◌≡◌, ◌-◌, Err, sym, ap, ◌∙◌, add-zero}
use Rattle.std.specs.Result.{result_map_both}
use Rattle.std.proofs.lemmas.Result.{err_from_is_err_and}
use Rattle.denom.specs.Text.{read_from, only_symbol}
use Rattle.denom.specs.Views.{symbol_answer, hops_after, count_after}
use Rattle.denom.proofs.Steps.{one_hop, no_hop, no_hops, ok_step, err_step, symbol_here}
use Rattle.denom.proofs.reader.+read_from.Goals as goal
use Rattle.denom.proofs.reader.+read_from.Goals.{then-depth-lt-MOST_HOPS+in_default, else-depth-lt-MOST_HOPS}

pub returns-in_err-symbol : goal.returns-in_err-symbol
returns-in_err-symbol t c =
    let p = err_from_is_err_and c.from_residual.result c.from_residual.ensures.1 in
    let told = c.in_err-symbol.ensures in
    let is = one_hop c.args.depth c.in-Some.hop c.args.text.now c.if-depth-lt-MOST_HOPS.true c.in-Some.ensures.value in
    let now = err_step c.in-Some.hop c.args.depth c.args.hops.now.at _ c.args.hops.now.count _ _ _ told.answer told.hops told.count in
    record {
      answer = ap (result_map_both (λ s. s.now) (λ e. e)) p.1 ∙ ap Err p.2 ∙ now.0 ∙ ap symbol_answer (sym is);
      hops = now.1 ∙ ap (λ o. hops_after o c.args.depth c.args.hops.now.at) (sym is);
      count = now.2 ∙ ap (λ o. count_after o c.args.depth c.args.hops.now.count) (sym is);
    }

pub returns-in-Some : goal.returns-in-Some
returns-in-Some t c =
    let told = c.in_ok-symbol.ensures in
    let is = one_hop c.args.depth c.in-Some.hop c.args.text.now c.if-depth-lt-MOST_HOPS.true c.in-Some.ensures.value in
    let now = ok_step c.in-Some.hop c.args.depth c.args.hops.now.at _ c.args.hops.now.count _ _ _ told.answer told.hops told.count in
    record {
      answer = now.0 ∙ ap symbol_answer (sym is);
      hops = now.1 ∙ ap (λ o. hops_after o c.args.depth c.args.hops.now.at) (sym is);
      count = now.2 ∙ ap (λ o. count_after o c.args.depth c.args.hops.now.count) (sym is);
    }

pub returns-clause-count : goal.returns-clause-count
returns-clause-count t c =
    let whole : read_from (6 - c.args.depth) c.args.text.now ≡ only_symbol c.args.text.now =
    elim c.if-depth-lt-MOST_HOPS.branch [ then-depth-lt-MOST_HOPS+in_default w ↦ no_hop _ _ w.if-depth-lt-MOST_HOPS.true w.in_default.ensures.value | else-depth-lt-MOST_HOPS w ↦ no_hops _ _ w.if-depth-lt-MOST_HOPS.false ]
    in
    let is = whole ∙ symbol_here c.args.text.now (sym c.if-not-spells_symbol.ensures) in
    sym (add-zero c.args.depth) ∙ ap (λ o. count_after o c.args.depth c.args.hops.now.count) (sym is)

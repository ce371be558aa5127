use Rattle.std.proofs.Common.{Err, ap, ◌∙◌}
use Rattle.std.specs.Result.{result_map_both}
use Rattle.std.proofs.lemmas.Result.{err_from_is_err_and}
use Rattle.denom.specs.Text.{denom_of}
use Rattle.denom.specs.Views.{hops_of, symbol_of, denom_view}
use Rattle.denom.proofs.Back.{put_together, not_read, answers_symbol}
use Rattle.denom.proofs.reader.DenominationTryFromRefSliceU8.try_from.Goals as goal

pub returns-in_err-read_denomination : goal.returns-in_err-read_denomination
returns-in_err-read_denomination c =
    let p = err_from_is_err_and c.from_residual.result c.from_residual.ensures.1 in
    ap (result_map_both denom_view (λ e. e)) p.1 ∙ ap Err p.2 ∙ not_read (denom_of c.args.text.now) _ c.in_err-read_denomination.ensures.answer

pub copied-symbol-requires : goal.copied-symbol-requires
copied-symbol-requires c = answers_symbol c.args.text.now _ c.in_ok-read_denomination.ensures.answer

pub returns : goal.returns
returns c =
    let told = c.in_ok-read_denomination.ensures in
    put_together (denom_of c.args.text.now) _ (hops_of c.read_denomination.new.hops) (symbol_of c.copied-symbol.result) told.answer told.held c.copied-symbol.ensures

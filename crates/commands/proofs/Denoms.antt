-- A word that is read as a denomination, or is bad.
use Rattle.std.proofs.Common.{◌≡◌, ℕ, Some, None, Ok, Err, MatchResult, Option, Result, ap, ◌∙◌, arith}
use Rattle.std.specs.Result.{result_map_both, IsErrAnd}
use Rattle.std.proofs.lemmas.Result.{err_from_is_err_and}
use Rattle.denom.specs.declared.types.TextFault.{TextFault}
use Rattle.denom.specs.declared.types.Denomination.{Denomination}
use Rattle.denom.specs.Denomination.{Denom}
use Rattle.denom.specs.Views.{denom_view, denom_answer}
use Rattle.protocol.specs.declared.faults.ScriptFault.{ScriptFault}
use Rattle.protocol.specs.declared.faults.ScriptFault.TheVariants.{BadWord}
use Rattle.protocol.specs.Faults.{script_number}
use Rattle.commands.specs.Commands.{or_bad}

-- what the reader of denominations answered, with another fault in place of its own
pub or_bad_word :
    (o : Option Denom) (r : Result Denomination TextFault) (s : Result Denomination ScriptFault) {Q : TextFault → ScriptFault → Type 0} →
    ((f : TextFault) (g : ScriptFault) → Q f g → g ≡ BadWord) → result_map_both denom_view (λ e. e) r ≡ denom_answer o →
    MatchResult r (λ d. s ≡ Ok d) (λ f. IsErrAnd s (Q f)) → result_map_both denom_view script_number s ≡ or_bad o
or_bad_word None (Ok d) s bad told is = let z : ◌≡◌ {A = ℕ} 0 1 = cc in absurd (omega arith)
or_bad_word None (Err f) s bad told is =
    let e = err_from_is_err_and s is in
    ap (result_map_both denom_view script_number) e.1 ∙ ap (λ g. Err (script_number g)) (bad f _ e.2)
or_bad_word (Some t) (Ok d) s bad told is =
    let same : denom_view d ≡ t = cc in
    ap (result_map_both denom_view script_number) is ∙ ap Ok same
or_bad_word (Some t) (Err f) s bad told is = let z : ◌≡◌ {A = ℕ} 0 1 = cc in absurd (omega arith)

-- What a call comes to, once it is known which refusal applies first, or that none does.
use Rattle.std.proofs.Common.{◌≡◌, ℕ, Some, None, Ok, Err, Option, Result, sym, refl, ap, ◌∙◌, arith}
use Rattle.std.specs.Option.{ok_or}
use Rattle.protocol.specs.declared.faults.LedgerFault.{LedgerFault}
use Rattle.protocol.specs.declared.faults.WorldFault.{WorldFault}
use Rattle.protocol.specs.Faults.{told_by, ledger_number, world_number}
use Rattle.protocol.specs.Ledger.{Ledger}
use Rattle.protocol.specs.Refusals.{first, unless_refused, left_by}
use Rattle.protocol.specs.World.{World}
use Rattle.protocol.specs.Calls.{Call, Answer, done, no, said, refusals, outcome, settled_by, step, with_ledger}

pub refused_by : (w : World) (k : Call) (n : ℕ) → first (refusals w k) ≡ Some n → step w k ≡ (w, no n)
refused_by w k n e = ap (λ (o : Option ℕ). settled_by o w (outcome w k)) e

-- both clauses of a call that a refusal stops
pub stopped : (w : World) (k : Call) (n : ℕ) → first (refusals w k) ≡ Some n → (no n ≡ (step w k).1) × (w ≡ (step w k).0)
stopped w k n e =
    let s = refused_by w k n e in
    (sym (ap (λ (x : World × Answer). x.1) s), sym (ap (λ (x : World × Answer). x.0) s))

pub accepted : (w : World) (k : Call) → first (refusals w k) ≡ None → step w k ≡ outcome w k
accepted w k e = ap (λ (o : Option ℕ). settled_by o w (outcome w k)) e

-- a part that answers a fault met the refusal of that number
pub refused_from_err : {X : Type 0} (o : Option ℕ) (x : X) (n : ℕ) → unless_refused o x ≡ Err n → o ≡ Some n
refused_from_err None x n e = let z : ◌≡◌ {A = ℕ} 0 1 = cc in absurd (omega arith)
refused_from_err (Some m) x n e = cc

-- Both clauses of a call that ends at the ledger: new is what an accepted call leaves there, and last what was left.
pub ended_by_ledger :
    (w : World) (k : Call) (new last : Ledger) (o : Option ℕ) (a : Result (Unit {0}) LedgerFault) (r : Result (Unit {0}) WorldFault) →
    first (refusals w k) ≡ o → outcome w k ≡ (with_ledger w new, done) → told_by ledger_number a ≡ unless_refused o tt →
    last ≡ left_by a w.ledger new → told_by world_number r ≡ told_by ledger_number a →
    (said (λ (x : Unit {0}). done) world_number r ≡ (step w k).1) × (with_ledger w last ≡ (step w k).0)
ended_by_ledger w k new last None (Ok x) (Ok y) by out told left climbed =
    let s = accepted w k by ∙ out in
    (sym (ap (λ (z : World × Answer). z.1) s), ap (with_ledger w) left ∙ sym (ap (λ (z : World × Answer). z.0) s))
ended_by_ledger w k new last (Some n) (Err f) (Err g) by out told left climbed =
    let number : world_number g ≡ n = cc in
    let s = refused_by w k n by in
    (ap no number ∙ sym (ap (λ (z : World × Answer). z.1) s), ap (with_ledger w) left ∙ sym (ap (λ (z : World × Answer). z.0) s))
ended_by_ledger w k new last None (Ok x) (Err g) by out told left climbed = let z : ◌≡◌ {A = ℕ} 0 1 = cc in absurd (omega arith)
ended_by_ledger w k new last None (Err f) r by out told left climbed = let z : ◌≡◌ {A = ℕ} 0 1 = cc in absurd (omega arith)
ended_by_ledger w k new last (Some n) (Ok x) r by out told left climbed = let z : ◌≡◌ {A = ℕ} 0 1 = cc in absurd (omega arith)
ended_by_ledger w k new last (Some n) (Err f) (Ok y) by out told left climbed = let z : ◌≡◌ {A = ℕ} 0 1 = cc in absurd (omega arith)

-- what `ok_or` goes on with is what there was
pub there_was : {X E : Type 0} (o : Option X) (e : E) (x : X) → Ok x ≡ ok_or o e → o ≡ Some x
there_was o e x s = grind arith

-- where `ok_or` stops there was nothing, and its fault is the one given
pub there_was_none : {X E : Type 0} (o : Option X) (e f : E) → Err f ≡ ok_or o e → (o ≡ None) × (f ≡ e)
there_was_none None e f s = (refl, cc)
there_was_none (Some x) e f s = let z : ◌≡◌ {A = ℕ} 0 1 = cc in absurd (omega arith)

-- both clauses of a call that a refusal stops, which `?` hands on as the answer r
pub handed_on :
    {X : Type 0} (w : World) (k : Call) (says : X → Answer) (r : Result X WorldFault) (f : WorldFault) (n : ℕ) →
    (g : WorldFault) × (r ≡ Err g) × (g ≡ f) → world_number f ≡ n → first (refusals w k) ≡ Some n →
    (said says world_number r ≡ (step w k).1) × (w ≡ (step w k).0)
handed_on w k says r f n (g, at, same) number by =
    let stop = stopped w k n by in
    (ap (said says world_number) at ∙ ap no (ap world_number same ∙ number) ∙ stop.0, stop.1)

-- What a packet's step tells of the refusals that stand in its place.
use Rattle.std.proofs.Common.{◌≡◌, ℕ, Bool, true, false, not, List, ◌∷◌, is_some, Some, None, Ok, Err, Option, Result, refl, arith}
use Rattle.std.specs.Option.{option_map}
use Rattle.protocol.specs.declared.marks.Mark.{Mark}
use Rattle.protocol.specs.declared.marks.Mark.TheVariants.{Good, TooManyHops, RegisterFull, LedgerRefused}
use Rattle.protocol.specs.declared.faults.WorldFault.{WorldFault}
use Rattle.protocol.specs.Faults.{world_number}
use Rattle.protocol.specs.Refusals.{Refusal, ◌when◌, first}
use Rattle.protocol.specs.Book.{mark_number}
use Rattle.tables.specs.declared.types.Standing.{Standing}
use Rattle.tables.specs.declared.types.Standing.TheVariants.{Stands, Ended}
use Rattle.tables.specs.declared.types.Event.TheVariants.{Receipt, Acknowledgement, Timeout}
use Rattle.tables.specs.declared.types.Effect.{Effect}
use Rattle.tables.specs.Packets.{packet_step}
use Rattle.tables.specs.View.{stands}

-- a mark by its number is a mark
pub some_mapped : (o : Option Mark) → is_some (option_map mark_number o) ≡ is_some o
some_mapped None = refl
some_mapped (Some m) = refl

-- the refusal of a step, or what applies after it
abbrev pub after_step : Result Effect WorldFault → Option ℕ → Option ℕ
after_step (Ok e) o = o
after_step (Err f) o = Some (world_number f)

pub receipt_step :
    (st : Standing) (x : Bool) (mk : Option Mark) (rest : List Refusal) →
    first (19 when not (stands st) ∷ 20 when x ∷ 25 when is_some mk ∷ rest) ≡ after_step (packet_step st (Receipt x) mk) (first rest)
receipt_step Ended x mk rest = refl
receipt_step Stands true mk rest = refl
receipt_step Stands false None rest = refl
receipt_step Stands false (Some m) rest = refl

-- a packet arrives that has no mark yet
pub arrives_unmarked : (st : Standing) (x : Bool) (mk : Option Mark) (e : Effect) → Ok e ≡ packet_step st (Receipt x) mk → is_some mk ≡ false
arrives_unmarked st x None e h = refl
arrives_unmarked Ended x (Some m) e h = let z : ◌≡◌ {A = ℕ} 0 1 = cc in absurd (omega arith)
arrives_unmarked Stands true (Some m) e h = let z : ◌≡◌ {A = ℕ} 0 1 = cc in absurd (omega arith)
arrives_unmarked Stands false (Some m) e h = let z : ◌≡◌ {A = ℕ} 0 1 = cc in absurd (omega arith)

pub acknowledgement_step :
    (st : Standing) (x : Bool) (mk : Option Mark) (rest : List Refusal) →
    first (19 when not (stands st) ∷ 27 when not (is_some mk) ∷ 29 when x ∷ rest) ≡ after_step (packet_step st (Acknowledgement x) mk) (first rest)
acknowledgement_step Ended x mk rest = refl
acknowledgement_step Stands x None rest = refl
acknowledgement_step Stands true (Some m) rest = refl
acknowledgement_step Stands false (Some Good) rest = refl
acknowledgement_step Stands false (Some TooManyHops) rest = refl
acknowledgement_step Stands false (Some RegisterFull) rest = refl
acknowledgement_step Stands false (Some LedgerRefused) rest = refl

pub timeout_step :
    (st : Standing) (x : Bool) (mk : Option Mark) (rest : List Refusal) →
    first (19 when not (stands st) ∷ 21 when not x ∷ 28 when is_some mk ∷ rest) ≡ after_step (packet_step st (Timeout x) mk) (first rest)
timeout_step Ended x mk rest = refl
timeout_step Stands false mk rest = refl
timeout_step Stands true None rest = refl
timeout_step Stands true (Some m) rest = refl

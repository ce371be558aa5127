-- Where lines of an audit may stand, one after another: slot 0 has the counts; then each token has a slot; then each lane, which
-- stands for the end that it leads from, has 32 of them, one for each denomination number. A slot of an escrow may be empty.
use Rattle.std.specs.Prelude.{◌≡◌, ℕ, ◌+◌, ◌-◌, ◌*◌, ◌/◌, ◌%◌, ◌<◌, Bool, true, cond, not, ◌&&◌, List, [], ◌∷◌, length, ◌==◌, nat_le, nat_lt, slice_index_or}
use Rattle.denom.specs.Denomination as denom
use Rattle.denom.specs.Views.{denom_view}
use Rattle.protocol.specs.Audit.{denom_at, escrow_held, count_line, token_line, escrow_line, audit_lines, audit_line}
use Rattle.protocol.specs.Calls.{token_at}
use Rattle.protocol.specs.World.{World, lane, from_end, to_end}
use Rattle.tables.specs.View.{end_view}
use Rattle.audit.specs.declared.slots.Slot.{Slot}
use Rattle.audit.specs.declared.slots.Slot.TheVariants.{Counts, Token, Escrow}
use Rattle.audit.specs.declared.slots.Entry.{Entry}

-- what is read where there is no token
abbrev pub no_token : denom.Token
no_token = token_at 0 []

-- the slot at place s, where there are t tokens
abbrev pub slot_at : ℕ → ℕ → Slot
slot_at t s = cond (s == 0) Counts (cond (nat_le s t) (Token (s - 1)) (Escrow ((s - 1 - t) / 32) ((s - 1 - t) % 32)))

-- whether there is escrow of denomination number d at the end that lane i leads from
abbrev pub has_escrow : World → ℕ → ℕ → Bool
has_escrow w i d =
    nat_lt (i / 2) (length w.links)
    && (nat_lt d (length (w.register (from_end w.links (lane (i / 2) (i % 2))).chain)) && not (escrow_held w (i / 2) (i % 2) d == 0))

-- whether a slot has a line
abbrev pub has_line : World → Slot → Bool
has_line w Counts = true
has_line w (Token q) = nat_lt q (length w.tokens)
has_line w (Escrow i d) = has_escrow w i d

-- the line of a slot that has one
abbrev pub line_in : World → Slot → List ℕ
line_in w Counts = count_line w
line_in w (Token q) = token_line w (slice_index_or w.tokens q no_token)
line_in w (Escrow i d) = escrow_line w (i / 2) (i % 2) d

-- the lines of a slot: one or none
abbrev pub lines_in : World → Slot → List (List ℕ)
lines_in w s = cond (has_line w s) (line_in w s ∷ []) []

-- those of the slot at place s
abbrev pub at_place : World → ℕ → List (List ℕ)
at_place w s = lines_in w (slot_at (length w.tokens) s)

-- how many slots there are
abbrev pub slots : World → ℕ
slots w = 1 + length w.tokens + 64 * length w.links

-- what is known of a denomination's escrow at the end that lane i leads from
pub record Entered (w : World) (i d : ℕ) (e : Entry) : Type 0 where
  pub there : has_escrow w i d ≡ true
  pub lane_is : e.route.lane ≡ lane (i / 2) (i % 2)
  pub far : end_view e.route.far ≡ to_end w.links (lane (i / 2) (i % 2))
  pub denomination : denom_view e.denomination ≡ denom_at w (i / 2) (i % 2) d
  pub held : e.escrow ≡ escrow_held w (i / 2) (i % 2) d

-- slot s has line n of the audit
pub record Nth (w : World) (n : ℕ) (s : Slot) : Type 0 where
  pub there : has_line w s ≡ true
  pub within : n < length (audit_lines w)
  pub line : line_in w s ≡ audit_line w n

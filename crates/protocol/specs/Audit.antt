-- The audit: its lines as text, each with its LF. Line 0 has the counts; then there is a line for each token, in the order of the
-- register; then, by link, end and denomination number, one wherever escrow is not 0.
use Rattle.std.specs.Prelude.{ℕ, ◌+◌, cond, List, [], ◌∷◌, ◌++◌, map, length, codes, ◌==◌, nat_le, nat_lt, slice_index_or}
use Rattle.denom.specs.Denomination.{Denom, Token, hopless, behind}
use Rattle.denom.specs.Text.{denom_text}
use Rattle.figures.specs.Figures.{figure}
use Rattle.protocol.specs.House.{escrow_account, line_room}
use Rattle.protocol.specs.Refusals.{Refusal, ◌when◌}
use Rattle.protocol.specs.World.{World, lane, back, from_end, to_end, numbers_from, no_denom, supply_of, held, open_packets, on_lane_with, of_token}

-- Figures

-- a token's supply at home: of its hopless denomination, escrow accounts and all
abbrev pub token_supply : World → Token → ℕ
token_supply w t = supply_of w t.chain (hopless t.symbol)

-- its open packets
abbrev pub token_open : World → Token → ℕ
token_open w t = open_packets w (of_token w t)

module _ (w : World) (L D d : ℕ) where
  -- the denomination with number d at end D of link L
  abbrev pub denom_at : Denom
  denom_at = slice_index_or (w.register (from_end w.links (lane L D)).chain) d no_denom

  -- its voucher at the far end
  abbrev pub voucher_at : Denom
  voucher_at = behind (to_end w.links (lane L D)).channel denom_at

  -- what the end's account holds of it in escrow
  abbrev pub escrow_held : ℕ
  escrow_held =
      w.ledger.balance (from_end w.links (lane L D)).chain (escrow_account (from_end w.links (lane L D)).channel) d

  -- the whole supply of the voucher at the far end
  abbrev pub vouchers : ℕ
  vouchers = supply_of w (to_end w.links (lane L D)).chain voucher_at

  -- the open packets of that link, outward with the denomination and homeward with the voucher
  abbrev pub escrow_open : ℕ
  escrow_open = open_packets w (on_lane_with (lane L D) denom_at) + open_packets w (on_lane_with (back (lane L D)) voucher_at)

-- Lines

-- words with a space between them, and LF behind the last
abbrev pub line : List (List ℕ) → List ℕ
line [] = 10 ∷ []
line (w ∷ []) = w ++ 10 ∷ []
line (w ∷ v ∷ ws) = w ++ 32 ∷ line (v ∷ ws)

-- line 0: how many tokens, links and packets there have been
abbrev pub count_line : World → List ℕ
count_line w =
    line (codes "audit" ∷ figure (length w.tokens) ∷ figure (length w.links) ∷ figure (length w.packets) ∷ [])

-- a token: its supply at home, what all users hold of it under any trace, and its open packets
abbrev pub token_line : World → Token → List ℕ
token_line w t =
    line
    (codes "token"
    ∷ figure t.chain
    ∷ t.symbol
    ∷ figure (token_supply w t)
    ∷ figure (held w t)
    ∷ figure (token_open w t)
    ∷ [])

-- the escrow of denomination number d at end D of link L: what backs it
abbrev pub escrow_line : World → ℕ → ℕ → ℕ → List ℕ
escrow_line w L D d =
    line
    (codes "escrow"
    ∷ figure L
    ∷ figure D
    ∷ denom_text (denom_at w L D d)
    ∷ figure (escrow_held w L D d)
    ∷ figure (vouchers w L D d)
    ∷ figure (escrow_open w L D d)
    ∷ [])

-- the lines that f gives for each number, one after another
abbrev pub gathered : (ℕ → List (List ℕ)) → List ℕ → List (List ℕ)
gathered f [] = []
gathered f (n ∷ ns) = f n ++ gathered f ns

-- those of an end, by denomination number, wherever escrow is not 0
abbrev pub end_lines : World → ℕ → ℕ → List (List ℕ)
end_lines w L D =
    gathered
    (λ d. cond (escrow_held w L D d == 0) [] (escrow_line w L D d ∷ []))
    (numbers_from 0 (length (w.register (from_end w.links (lane L D)).chain)))

-- those of both ends of every link
abbrev pub escrow_lines : World → List (List ℕ)
escrow_lines w = gathered (λ L. end_lines w L 0 ++ end_lines w L 1) (numbers_from 0 (length w.links))

-- all of them
abbrev pub audit_lines : World → List (List ℕ)
audit_lines w = count_line w ∷ (map (token_line w) w.tokens ++ escrow_lines w)

-- One line is asked for by its number, and written into a buffer.

-- when it is not written
abbrev pub line_refusals : World → ℕ → ℕ → List Refusal
line_refusals w room n = 35 when nat_lt room line_room ∷ 36 when nat_le (length (audit_lines w)) n ∷ []

-- line n
abbrev pub audit_line : World → ℕ → List ℕ
audit_line w n = slice_index_or (audit_lines w) n []

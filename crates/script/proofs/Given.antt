-- The pieces that a reader gives.
use Rattle.std.proofs.Common.{◌≡◌, ℕ, List, ◌∷◌, length, drop, Some, None, Option, Bor, sym, refl, ap, ◌∙◌}
use Rattle.std.specs.Option.{option_map, unwrap_or}
use Rattle.std.proofs.lemmas.Iterator.{YieldsList}
use Rattle.std.proofs.lemmas.Iterator.Consumers.{YieldsList-from_shown}
use Rattle.script.specs.Lines.{pieces}
use Rattle.script.specs.Readers.{left, pieces_left, GivesPiece}
use Rattle.script.specs.declared.reader.Reader.{Reader}

-- a reader gives the pieces that it has left
pub gives_pieces : (r : Reader) → YieldsList GivesPiece (λ p. p.now) r (pieces_left r)
gives_pieces r =
    YieldsList-from_shown GivesPiece (λ p. p.now) pieces_left
    (λ s t g. ap length g.piece.0)
    (λ s p t g. g.piece ∙ (λ i. p.now ∷ pieces (sym g.end i) (left t)))
    r

-- at the beginning of a text these are all of its pieces
pub all_left : (end : ℕ) (r : Reader) (text : List ℕ) → r.text.now ≡ text → r.at ≡ 0 → r.end ≡ end → pieces_left r ≡ pieces end text
all_left end r text is at ends = λ i. pieces (ends i) (drop (at i) (is i))

-- what is read of an item, or of another in its place
pub read_or : (o : Option (Bor (List ℕ))) (d : Bor (List ℕ)) → (unwrap_or o d).now ≡ unwrap_or (option_map (λ p. p.now) o) d.now
read_or None d = refl
read_or (Some p) d = refl

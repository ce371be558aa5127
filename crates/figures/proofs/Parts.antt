-- Texts written to a line one after another.
use Rattle.std.proofs.Common.{◌≡◌, ℕ, ◌+◌, ◌≤◌, List, [], ◌∷◌, ◌++◌, length, take, drop, sym, refl, ap, ◌∙◌, subst, append_assoc, append-nil, arith, length-append, length-take-le}
use Rattle.std.proofs.lemmas.List.{drop-drop, take_at, drop_at}
use Rattle.figures.specs.Figures.{over, into, spaced, line_of, Holds}
use Rattle.figures.specs.Lines.{Appends}
use Rattle.figures.specs.declared.line.Line.{Line}

-- one text behind another
pub into_into : (a b : List ℕ) (at : ℕ) (buf : List ℕ) → at ≤ length buf → into b (at + length a) (into a at buf) ≡ into (a ++ b) at buf
into_into a b at buf fits =
    let pre = take at buf in
    let rest = drop (length a) (drop at buf) in
    let long : length (pre ++ a) ≡ at + length a = length-append pre a ∙ ap (λ n. n + length a) (length-take-le at buf fits) in
    let left : pre ++ (a ++ rest) ≡ (pre ++ a) ++ rest = sym (append_assoc pre a rest) in
    ap (into b (at + length a)) left
    ∙ (λ i. take_at (pre ++ a) rest (at + length a) long i ++ over b (drop_at (pre ++ a) rest (at + length a) long i))
    ∙ append_assoc pre a (over b rest)
    ∙ ap (λ l. pre ++ l) (sym (append_assoc a b (drop (length b) rest)) ∙ ap (λ l. (a ++ b) ++ l) (drop-drop (length b) (length a) (drop at buf) ∙ ap (λ n. drop n (drop at buf)) (sym (length-append a b))))

-- a text and then another
pub then_more : (a b : List ℕ) (l m n : Line) → Appends a l m → Appends b m n → Appends (a ++ b) l n
then_more a b l m n first more =
    record {
      at = omega (arith, first.at, more.at, length-append a b);
      fits = more.fits;
      room = more.room ∙ first.room;
      buffer = more.buffer ∙ (λ i. into b (first.at i) (first.buffer i)) ∙ into_into a b l.at l.buffer.now (omega (arith, first.at, first.fits, first.room));
      lender = more.lender ∙ first.lender;
    }

-- a space and then a text
pub space_more : (w : List ℕ) (l m n : Line) → Appends (32 ∷ []) l m → Appends w m n → Appends (32 ∷ w) l n
space_more w l m n space more = then_more (32 ∷ []) w l m n space more

-- words are written, each with a space before it
pub record Spaced (ws : List (List ℕ)) (before after : Line) : Type 0 where
  pub wrote : Appends (spaced ws) before after

-- the last of them
pub last_word : {w : List ℕ} {l m : Line} → Appends (32 ∷ w) l m → Spaced (w ∷ []) l m
last_word {w} {l} {m} last = let P : List ℕ → Type 0 = λ text. Appends text l m in record { wrote = subst P (sym (append-nil (32 ∷ w))) last }

-- one word, and then others
pub word_more : {w : List ℕ} {ws : List (List ℕ)} {l m n : Line} → Appends (32 ∷ w) l m → Spaced ws m n → Spaced (w ∷ ws) l n
word_more {w} {ws} {l} {m} {n} first more = record { wrote = then_more (32 ∷ w) (spaced ws) l m n first more.wrote }

-- one piece after another
pub into_over : (xs ds base : List ℕ) → into ds (length xs) (over xs base) ≡ over (xs ++ ds) base
into_over xs ds base =
    (λ i. take_at xs (drop (length xs) base) (length xs) refl i ++ over ds (drop_at xs (drop (length xs) base) (length xs) refl i))
    ∙ ap (λ l. xs ++ (ds ++ l)) (drop-drop (length ds) (length xs) base ∙ ap (λ n. drop n base) (sym (length-append xs ds)))
    ∙ sym (append_assoc xs ds (drop (length (xs ++ ds)) base))

-- what a buffer holds then, if it held a text before
pub holds_more :
    (xs text before : List ℕ) (l m : Line) → Holds l.at l.buffer.now xs before → Appends text l m →
    Holds m.at m.buffer.now (xs ++ text) before
holds_more xs text before l m held wrote =
    (omega (arith, wrote.at, held.0, length-append xs text), wrote.buffer ∙ (λ i. into text (held.0 i) (held.1 i)) ∙ into_over xs text before)

-- a line that had nothing has a first word, others and LF
pub line_written :
    {first : List ℕ} {ws : List (List ℕ)} {l m n o : Line} (before : List ℕ) → Holds l.at l.buffer.now [] before →
    Appends first l m → Spaced ws m n → Appends (10 ∷ []) n o → Holds o.at o.buffer.now (line_of first ws) before
line_written {first} {ws} {l} {m} {n} {o} before none word others end =
    holds_more [] (line_of first ws) before l o none
    (then_more first (spaced ws ++ 10 ∷ []) l m o word (then_more (spaced ws) (10 ∷ []) m n o others.wrote end))

-- A text laid over the front of a buffer that has room for it is within the buffer, and can be read there.
module _ (n : ℕ) (text before after : List ℕ) (long : n ≡ length text) (laid-over : after ≡ over text before) where
  pub laid_fits : n ≤ length after
  laid_fits = omega (arith, long, ap length laid-over, length-append text (drop (length text) before))

  pub laid_front : take n after ≡ text
  laid_front = (λ i. take (long i) (laid-over i)) ∙ take_at text (drop (length text) before) (length text) refl

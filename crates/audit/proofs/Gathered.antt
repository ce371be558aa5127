-- The lines of an audit, gathered slot by slot.
use Rattle.std.proofs.Common.{◌≡◌, ℕ, zero, suc, ◌+◌, ◌-◌, ◌*◌, ◌/◌, ◌%◌, ◌<◌, ◌≤◌, Bool, true, false, cond, not, ◌&&◌, eqb, ltb, List, [], ◌∷◌, ◌++◌, map, length, get_or, sym, refl, ap, ◌∙◌, subst, ap₂, append_assoc, append-nil, add-zero, mul-zero, zero-add, mul-suc, arith, filter, Some, None, Option, MatchOption}
use Rattle.std.specs.List.{range_with_len, slice_get}
use Rattle.std.specs.Option.{option_map}
use Rattle.std.proofs.lemmas.Bool.{lt-ltb, le-ltb, le-leb, lt-leb, ne_eqb}
use Rattle.protocol.specs.Audit.{escrow_held, count_line, token_line, escrow_line, gathered, end_lines, audit_lines}
use Rattle.protocol.specs.World.{World, lane, from_end, numbers_from}
use Rattle.audit.specs.declared.slots.Slot.{Slot}
use Rattle.audit.specs.declared.slots.Slot.TheVariants.{Escrow}
use Rattle.figures.specs.Sinks.{Handed}
use Rattle.figures.proofs.Taken.{handed_as, handed_on}
use Rattle.audit.specs.Slots.{no_token, slot_at, has_line, line_in, lines_in, at_place, slots, Nth}

-- numbers in two parts
pub numbers_append : (k a b : ℕ) → numbers_from k (a + b) ≡ numbers_from k a ++ numbers_from (k + a) b
numbers_append k zero b = λ i. numbers_from (sym (add-zero k) i) (zero-add b i)
numbers_append k (suc a) b =
    let more : suc a + b ≡ suc (a + b) = omega arith in
    let start : suc k + a ≡ k + suc a = omega arith in
    ap (numbers_from k) more
    ∙ ap (λ (l : List ℕ). k ∷ l) (numbers_append (suc k) a b ∙ ap (λ (s : ℕ). numbers_from (suc k) a ++ numbers_from s b) start)

pub gathered_append : (f : ℕ → List (List ℕ)) (xs ys : List ℕ) → gathered f (xs ++ ys) ≡ gathered f xs ++ gathered f ys
gathered_append f [] ys = refl
gathered_append f (x ∷ xs) ys = ap (λ (l : List (List ℕ)). f x ++ l) (gathered_append f xs ys) ∙ sym (append_assoc (f x) (gathered f xs) (gathered f ys))

-- the same, of numbers in two parts
pub gathered_parts : (f : ℕ → List (List ℕ)) (k a b : ℕ) → gathered f (numbers_from k (a + b)) ≡ gathered f (numbers_from k a) ++ gathered f (numbers_from (k + a) b)
gathered_parts f k a b = ap (gathered f) (numbers_append k a b) ∙ gathered_append f (numbers_from k a) (numbers_from (k + a) b)

-- one number more
pub gathered_more : (f : ℕ → List (List ℕ)) (p : ℕ) → gathered f (numbers_from 0 (p + 1)) ≡ gathered f (numbers_from 0 p) ++ f p
gathered_more f p =
    gathered_parts f 0 p 1
    ∙ ap (λ (l : List (List ℕ)). gathered f (numbers_from 0 p) ++ l) (append-nil (f (0 + p)) ∙ ap f (zero-add p))

-- numbers that give the same
gathered_same :
    (f g : ℕ → List (List ℕ)) (k j n : ℕ) → ((i : ℕ) → i < n → f (k + i) ≡ g (j + i)) →
    gathered f (numbers_from k n) ≡ gathered g (numbers_from j n)
gathered_same f g k j zero same = refl
gathered_same f g k j (suc n) same =
    let here : f k ≡ g j = ap f (sym (add-zero k)) ∙ same 0 (omega arith) ∙ ap g (add-zero j) in
    ap₂ (λ (l m : List (List ℕ)). l ++ m) here
    (gathered_same f g (suc k) (suc j) n (λ i h.
    let left : suc k + i ≡ k + suc i = omega arith in
    let right : j + suc i ≡ suc j + i = omega arith in
    ap f left ∙ same (suc i) (omega arith) ∙ ap g right))

-- numbers that give nothing
gathered_none : (f : ℕ → List (List ℕ)) (k n : ℕ) → ((i : ℕ) → i < n → f (k + i) ≡ []) → gathered f (numbers_from k n) ≡ []
gathered_none f k zero none = refl
gathered_none f k (suc n) none =
    let here : f k ≡ [] = ap f (sym (add-zero k)) ∙ none 0 (omega arith) in
    ap₂ (λ (l m : List (List ℕ)). l ++ m) here
    (gathered_none f (suc k) n (λ i h. let next : suc k + i ≡ k + suc i = omega arith in ap f next ∙ none (suc i) (omega arith)))

-- a line for each row of a list
gathered_rows :
    {X : Type 0} (f : ℕ → List (List ℕ)) (g : X → List ℕ) (d : X) (k : ℕ) (xs : List X) →
    ((q : ℕ) → q < length xs → f (k + q) ≡ g (get_or xs q d) ∷ []) → gathered f (numbers_from k (length xs)) ≡ map g xs
gathered_rows f g d k [] each = refl
gathered_rows f g d k (x ∷ xs) each =
    let here : f k ≡ g x ∷ [] = ap f (sym (add-zero k)) ∙ each 0 (omega arith) in
    ap₂ (λ (l m : List (List ℕ)). l ++ m) here
    (gathered_rows f g d (suc k) xs (λ q h. let next : suc k + q ≡ k + suc q = omega arith in ap f next ∙ each (suc q) (omega arith)))

-- blocks of m numbers
gathered_blocks :
    (m : ℕ) (f h : ℕ → List (List ℕ)) (k L n : ℕ) → ((j : ℕ) → j < n → gathered f (numbers_from (k + m * j) m) ≡ h (L + j)) →
    gathered f (numbers_from k (m * n)) ≡ gathered h (numbers_from L n)
gathered_blocks m f h k L zero each = let none : m * zero ≡ 0 = omega arith in ap (λ (n : ℕ). gathered f (numbers_from k n)) none
gathered_blocks m f h k L (suc n) each =
    let whole : m * suc n ≡ m + m * n = omega (arith, mul-suc m n) in
    let start : k ≡ k + m * 0 = omega (arith, mul-zero m) in
    let first : gathered f (numbers_from k m) ≡ h L =
    ap (λ (s : ℕ). gathered f (numbers_from s m)) start ∙ each 0 (omega arith) ∙ ap h (add-zero L) in
    ap (λ (n : ℕ). gathered f (numbers_from k n)) whole
    ∙ gathered_parts f k m (m * n)
    ∙ ap₂ (λ (l r : List (List ℕ)). l ++ r) first
    (gathered_blocks m f h (k + m) (suc L) n (λ j lt.
    let next : k + m + m * j ≡ k + m * suc j = omega (arith, mul-suc m j) in
    let link : L + suc j ≡ suc L + j = omega arith in
    ap (λ (s : ℕ). gathered f (numbers_from s m)) next ∙ each (suc j) (omega arith) ∙ ap h link))

module _ (w : World) (few : (c : ℕ) → length (w.register c) ≤ 32) where
  -- a slot of a token
  token_slot : (q : ℕ) → q < length w.tokens → (at_place w) (1 + q) ≡ token_line w (get_or w.tokens q no_token) ∷ []
  token_slot q h =
      let some : 1 + q ≡ 0 → ⊥ = λ e. omega arith in
      let low : 1 + q ≤ length w.tokens = omega arith in
      let same : 1 + q - 1 ≡ q = omega arith in
      rw (ne_eqb (1 + q) 0 some, le-leb (1 + q) (length w.tokens) low, same, lt-ltb q (length w.tokens) h) refl

  -- a slot of an escrow
  escrow_slot :
      (L D d : ℕ) → L < length w.links → D ≤ 1 → d < 32 →
      (at_place w) (1 + length w.tokens + 64 * L + 32 * D + d) ≡
      cond (ltb d (length (w.register (from_end w.links (lane L D)).chain)) && not (eqb (escrow_held w L D d) 0)) (escrow_line w L D d ∷ []) []
  escrow_slot L D d hl hd h =
      let s = 1 + length w.tokens + 64 * L + 32 * D + d in
      let some : s ≡ 0 → ⊥ = λ e. omega arith in
      let past : length w.tokens < s = omega arith in
      let at : (s - 1 - length w.tokens) / 32 ≡ 2 * L + D = omega arith in
      let number : (s - 1 - length w.tokens) % 32 ≡ d = omega arith in
      let link : (2 * L + D) / 2 ≡ L = omega arith in
      let end : (2 * L + D) % 2 ≡ D = omega arith in
      let slot : slot_at (length w.tokens) s ≡ Escrow (2 * L + D) d =
      rw (ne_eqb s 0 some, lt-leb s (length w.tokens) past, at, number) refl in
      ap (lines_in w) slot
      ∙ (λ i. cond (ltb (link i) (length w.links) && (ltb d (length (w.register (from_end w.links (lane (link i) (end i))).chain)) && not (eqb (escrow_held w (link i) (end i) d) 0))) (escrow_line w (link i) (end i) d ∷ []) [])
      ∙ rw (lt-ltb L (length w.links) hl) refl

  -- the slots of an end
  end_slots : (L D : ℕ) → L < length w.links → D ≤ 1 → gathered (at_place w) (numbers_from (1 + length w.tokens + 64 * L + 32 * D) 32) ≡ end_lines w L D
  end_slots L D hl hd =
      let known = length (w.register (from_end w.links (lane L D)).chain) in
      let room = few (from_end w.links (lane L D)).chain in
      let base = 1 + length w.tokens + 64 * L + 32 * D in
      let parts : 32 ≡ known + (32 - known) = omega arith in
      let taken =
      gathered_same (at_place w) (λ d. cond (eqb (escrow_held w L D d) 0) [] (escrow_line w L D d ∷ [])) base 0 known
      (λ d h.
      let low : d < 32 = omega arith in
      escrow_slot L D d hl hd low
      ∙ rw (lt-ltb d known h, zero-add d) (turned (eqb (escrow_held w L D d) 0) (escrow_line w L D d ∷ []))) in
      let free =
      gathered_none (at_place w) (base + known) (32 - known)
      (λ d h.
      let low : known + d < 32 = omega arith in
      let at : base + known + d ≡ base + (known + d) = omega arith in
      let past : known ≤ known + d = omega arith in
      ap (at_place w) at ∙ escrow_slot L D (known + d) hl hd low ∙ rw (le-ltb (known + d) known past) refl) in
      ap (λ (m : ℕ). gathered (at_place w) (numbers_from base m)) parts
      ∙ gathered_parts (at_place w) base known (32 - known)
      ∙ ap₂ (λ (l r : List (List ℕ)). l ++ r) taken free
      ∙ append-nil _
    where
      turned : (b : Bool) (l : List (List ℕ)) → cond (not b) l [] ≡ cond b [] l
      turned true l = refl
      turned false l = refl

  -- the slots of a link
  link_slots : (L : ℕ) → L < length w.links → gathered (at_place w) (numbers_from (1 + length w.tokens + 64 * L) 64) ≡ end_lines w L 0 ++ end_lines w L 1
  link_slots L hl =
      let base = 1 + length w.tokens + 64 * L in
      let first : base ≡ base + 32 * 0 = omega arith in
      gathered_parts (at_place w) base 32 32
      ∙ ap₂ (λ (l r : List (List ℕ)). l ++ r)
      (ap (λ (s : ℕ). gathered (at_place w) (numbers_from s 32)) first ∙ end_slots L 0 hl (omega arith))
      (end_slots L 1 hl (omega arith))

  -- all slots have all the lines
  pub slots_gathered : gathered (at_place w) (numbers_from 0 (slots w)) ≡ audit_lines w
  slots_gathered =
      let tokens = length w.tokens in
      let links = length w.links in
      let shape : slots w ≡ suc (tokens + 64 * links) = omega arith in
      ap (λ (m : ℕ). gathered (at_place w) (numbers_from 0 m)) shape
      ∙ ap (λ (l : List (List ℕ)). count_line w ∷ l)
      (gathered_parts (at_place w) 1 tokens (64 * links)
      ∙ ap₂ (λ (l r : List (List ℕ)). l ++ r)
      (gathered_rows (at_place w) (token_line w) no_token 1 w.tokens token_slot)
      (gathered_blocks 64 (at_place w) (λ L. end_lines w L 0 ++ end_lines w L 1) (1 + tokens) 0 links
      (λ j h. link_slots j h ∙ sym (ap (λ (L : ℕ). end_lines w L 0 ++ end_lines w L 1) (zero-add j)))))

  -- a line that a sink took is that of its slot
  pub slot_handed :
      {X : Type 0} (takes : X → List ℕ → X → Type 0) (a b : X) (place : ℕ) (slot : Slot) (text : List ℕ) → slot ≡ slot_at (length w.tokens) place → has_line w slot ≡ true →
      text ≡ line_in w slot → takes a text b → Handed takes a (at_place w place) b
  slot_handed takes a b place slot text is there same took =
      let P : List (List ℕ) → Type 0 = λ ls. Handed takes a ls b in
      let lines : line_in w slot ∷ [] ≡ at_place w place = sym (ap (λ (x : Bool). cond x (line_in w slot ∷ []) []) there) ∙ ap (lines_in w) is in
      subst P lines (handed_as takes a b text (line_in w slot) same took)

  -- a slot more that a sink was handed
  pub handed_more :
      {X : Type 0} (takes : X → List ℕ → X → Type 0) (a b c : X) (p : ℕ) → Handed takes a (gathered (at_place w) (numbers_from 0 p)) b → Handed takes b (at_place w p) c →
      Handed takes a (gathered (at_place w) (numbers_from 0 (p + 1))) c
  handed_more takes a b c p before here =
      let P : List (List ℕ) → Type 0 = λ ls. Handed takes a ls c in
      subst P (sym (gathered_more (at_place w) p)) (handed_on takes a b c (gathered (at_place w) (numbers_from 0 p)) (at_place w p) before here)

  -- all of them are the audit
  pub handed_all :
      {X : Type 0} (takes : X → List ℕ → X → Type 0) (a b : X) (p : ℕ) → p ≡ slots w → Handed takes a (gathered (at_place w) (numbers_from 0 p)) b →
      Handed takes a (audit_lines w) b
  handed_all takes a b p all h =
      let P : List (List ℕ) → Type 0 = λ ls. Handed takes a ls b in
      subst P (ap (λ (m : ℕ). gathered (at_place w) (numbers_from 0 m)) all ∙ slots_gathered) h

-- The slots from place k on that have a line, and their lines, one for one.
module _ (w : World) where
  abbrev slot : ℕ → Slot
  slot k = slot_at (length w.tokens) k

  -- the slot that is found as the n-th has line n
  abbrev Found : List (List ℕ) → ℕ → Option Slot → Type 0
  Found ls n r = MatchOption r (length ls ≤ n) (λ s. (has_line w s ≡ true) × (n < length ls) × (line_in w s ≡ get_or ls n []))

  nth_of : (m k n : ℕ) (r : Option Slot) → r ≡ slice_get (filter (has_line w) (map slot (range_with_len k m))) n → Found (gathered (at_place w) (numbers_from k m)) n r
  nth_of zero k n None e = omega arith
  nth_of zero k n (Some s) e = let z : ◌≡◌ {A = ℕ} 0 1 = cc in absurd (omega arith)
  nth_of (suc m) k n r e =
      let next : suc k ≡ k + 1 = omega arith in
      go (λ i o s. rw next (nth_of m (k + 1) i o s)) (has_line w (slot k)) refl n r e
    where
      rest : List Slot
      rest = filter (has_line w) (map slot (range_with_len (k + 1) m))

      below : List (List ℕ)
      below = gathered (at_place w) (numbers_from (suc k) m)

      past : (n : ℕ) (r : Option Slot) → Found below n r → Found (line_in w (slot k) ∷ below) (suc n) r
      past n None h = omega (arith, h)
      past n (Some s) h = (h.0, omega (arith, h.1), h.2)

      go :
          ((i : ℕ) (o : Option Slot) → o ≡ slice_get rest i → Found below i o) → (b : Bool) → has_line w (slot k) ≡ b → (n : ℕ) (r : Option Slot) → r ≡ slice_get (cond b (slot k ∷ rest) rest) n → Found (cond b (line_in w (slot k) ∷ []) [] ++ below) n r
      go later false t n r e = later n r e
      go later true t zero None e = let z : ◌≡◌ {A = ℕ} 0 1 = cc in absurd (omega arith)
      go later true t zero (Some s) e = let same : s ≡ slot k = cc in (ap (has_line w) same ∙ t, omega arith, ap (line_in w) same)
      go later true t (suc n) r e = past n r (later n r e)

  -- of all slots the n-th that has a line has line n
  pub nth_slot :
      ((c : ℕ) → length (w.register c) ≤ 32) → (n : ℕ) (r : Option Slot) →
      option_map (λ s. s) r ≡ slice_get (filter (has_line w) (map slot (range_with_len 0 (slots w)))) n → MatchOption r (length (audit_lines w) ≤ n) (λ s. Nth w n s)
  nth_slot few n r e = told r (subst (λ (ls : List (List ℕ)). Found ls n r) (slots_gathered w few) (nth_of (slots w) 0 n r (same r ∙ e)))
    where
      same : (r : Option Slot) → r ≡ option_map (λ s. s) r
      same None = refl
      same (Some s) = refl

      told : (r : Option Slot) → Found (audit_lines w) n r → MatchOption r (length (audit_lines w) ≤ n) (λ s. Nth w n s)
      told None h = h
      told (Some s) h = record { there = h.0; within = h.1; line = h.2 }

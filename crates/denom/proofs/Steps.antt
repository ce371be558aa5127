-- One step of the reader: a byte more of a test over a text, a hop and the rest, or a symbol.
use Rattle.std.specs.Prelude.{◌≡◌, ℕ, suc, ◌+◌, ◌-◌, ◌<◌, ◌≤◌, Bool, true, false, cond, ◌&&◌, List, [], ◌∷◌, length, take, drop, set, Some, None, Ok, Err, Option, Result, ◌==◌, nat_le, slice_index, slice_set, refl}
use Rattle.std.proofs.Common.{sym, ap, ◌∙◌, arith}
use Rattle.std.proofs.lemmas.Bool.Decides.{nat_tests}
use Rattle.std.proofs.lemmas.List.{drop_more, at_drop_more, get_or_past, take_rest}
use Rattle.denom.specs.declared.types.TextFault.{TextFault}
use Rattle.denom.specs.Text.{begins, each, hop_mark, hop_digit, hop_of, read_on, behind_hop, letter, letter_or_digit, is_symbol, only_symbol, read_from}
use Rattle.denom.specs.Denomination.{Denom, hopless}
use Rattle.denom.specs.Views.{symbol_answer, hops_after, count_after}

pub and_false : (a : Bool) → (a && false) ≡ false
and_false true = refl
and_false false = refl

and_assoc : (a b c : Bool) → ((a && b) && c) ≡ (a && (b && c))
and_assoc true b c = refl
and_assoc false b c = refl

pub begins_short : (ps bs : List ℕ) → length bs < length ps → begins ps bs ≡ false
begins_short [] bs h = absurd (omega arith)
begins_short (p ∷ ps) [] h = refl
begins_short (p ∷ ps) (b ∷ bs) h = rw (begins_short ps bs (omega arith)) (and_false (b == p))

pub begins_one : (ps bs : List ℕ) (i : ℕ) → i < length ps → i < length bs → begins (drop i ps) (drop i bs) ≡ (slice_index bs i == slice_index ps i && begins (drop (i + 1) ps) (drop (i + 1) bs))
begins_one ps bs i hp hb = λ j. begins (drop_more ps i 0 hp j) (drop_more bs i 0 hb j)

pub each_one : (p : ℕ → Bool) (bs : List ℕ) (i : ℕ) → i < length bs → each p (drop i bs) ≡ (p (slice_index bs i) && each p (drop (i + 1) bs))
each_one p bs i h = at_drop_more (each p) bs i 0 h

no_slash : (d : ℕ) → hop_digit d 0 ≡ None
no_slash d = rw (and_false (nat_le d 55), and_false (nat_le 48 d)) refl

pub short_hop : (bs : List ℕ) → length bs < 19 → hop_of bs ≡ None
short_hop bs h =
    let P : Bool → Type 0 = λ b. cond b (hop_digit (slice_index bs 17) (slice_index bs 18)) None ≡ None in
    elim (begins hop_mark bs) as P [ true ↦ rw (get_or_past bs 18 0 (omega arith)) (no_slash (slice_index bs 17)) | false ↦ refl ]

pub more_hops : (d : ℕ) (bs : List ℕ) → d < 6 → read_from (6 - d) bs ≡ read_on (hop_of bs) (only_symbol bs) (read_from (6 - (d + 1)) (drop 19 bs))
more_hops d bs h = let e : 6 - d ≡ suc (6 - (d + 1)) = omega arith in ap (λ k. read_from k bs) e

pub no_hops : (d : ℕ) (bs : List ℕ) → 6 ≤ d → read_from (6 - d) bs ≡ only_symbol bs
no_hops d bs h = let e : 6 - d ≡ 0 = omega arith in ap (λ k. read_from k bs) e

-- what a reader has told of a rest, told of the text with one hop before it
module _ (h d : ℕ) (at0 at1 : List ℕ) (n0 n1 : ℕ) where
  pub ok_step : (o : Option Denom) (s : List ℕ) → ◌≡◌ {A = Result (List ℕ) TextFault} (Ok s) (symbol_answer o) → at1 ≡ hops_after o (d + 1) at0 → n1 ≡ count_after o (d + 1) n0 → (◌≡◌ {A = Result (List ℕ) TextFault} (Ok s) (symbol_answer (behind_hop h o))) × (slice_set at1 d h ≡ hops_after (behind_hop h o) d at0) × (n1 ≡ count_after (behind_hop h o) d n0)
  ok_step None s e ea en = let z : ◌≡◌ {A = ℕ} 0 1 = cc in absurd (omega arith)
  ok_step (Some t) s e ea en = (e, ap (λ l. set l d h) ea, omega (arith, en))

  pub err_step : (o : Option Denom) (f : TextFault) → ◌≡◌ {A = Result (List ℕ) TextFault} (Err f) (symbol_answer o) → at1 ≡ hops_after o (d + 1) at0 → n1 ≡ count_after o (d + 1) n0 → (◌≡◌ {A = Result (List ℕ) TextFault} (Err f) (symbol_answer (behind_hop h o))) × (at1 ≡ hops_after (behind_hop h o) d at0) × (n1 ≡ count_after (behind_hop h o) d n0)
  err_step None f e ea en = (e, ea, en)
  err_step (Some t) f e ea en = let z : ◌≡◌ {A = ℕ} 0 1 = cc in absurd (omega arith)

pub symbol_here : (bs : List ℕ) → is_symbol bs ≡ true → only_symbol bs ≡ Some (hopless bs)
symbol_here bs e = rw e refl

pub symbol_none : (bs : List ℕ) → is_symbol bs ≡ false → only_symbol bs ≡ None
symbol_none bs e = rw e refl

sixteen : (n : ℕ) → nat_le (suc n) 16 ≡ nat_le n 15
sixteen n = grind (arith, nat_tests)

pub symbol_is : (bs : List ℕ) → 0 < length bs → ((letter (slice_index bs 0) && nat_le (length bs) 16) && each letter_or_digit (drop 1 bs)) ≡ is_symbol bs
symbol_is [] h = absurd (omega arith)
symbol_is (c ∷ cs) h = and_assoc (letter c) (nat_le (length (c ∷ cs)) 16) (each letter_or_digit cs) ∙ ap (λ b. letter c && (b && each letter_or_digit cs)) (sixteen (length cs))

-- the text as one hop and what is read behind-hop it
pub one_hop : (d h : ℕ) (text : List ℕ) → d < 6 → Some h ≡ hop_of text → read_from (6 - d) text ≡ behind_hop h (read_from (6 - (d + 1)) (take (length text - 19) (drop 19 text)))
one_hop d h text lt is =
    more_hops d text lt
    ∙ ap (λ x. read_on x (only_symbol text) (read_from (6 - (d + 1)) (drop 19 text))) (sym is)
    ∙ ap (λ l. behind_hop h (read_from (6 - (d + 1)) l)) (sym (take_rest text 19))

pub no_hop : (d : ℕ) (text : List ℕ) → d < 6 → None ≡ hop_of text → read_from (6 - d) text ≡ only_symbol text
no_hop d text lt is = more_hops d text lt ∙ ap (λ x. read_on x (only_symbol text) (read_from (6 - (d + 1)) (drop 19 text))) (sym is)

-- A trace is read from just the text that it is written as.
use Rattle.std.proofs.Common.{◌≡◌, ℕ, zero, suc, ◌+◌, ◌-◌, ◌*◌, ◌<◌, ◌≤◌, Bool, true, false, cond, ◌&&◌, eqb, ltb, leb, List, [], ◌∷◌, ◌++◌, length, get_or, take, drop, IfSome, IfOk, Some, None, Ok, Err, Option, Result, sym, refl, ap, ◌∙◌, subst, ⊎_elim, arith, Bor, ltb-true, lt-ltb, eqb-true, le-leb, leb-true}
use Rattle.std.proofs.lemmas.Bool.{and_parts}
use Rattle.std.specs.Result.{result_map_both}
use Rattle.std.proofs.lemmas.List.{drop_more, drop-drop, drop-set, length-set, get_or_past}
use Rattle.std.proofs.str.Laws.{order}
use Rattle.denom.specs.declared.types.TextFault.{TextFault}
use Rattle.denom.specs.declared.types.TextFault.TheVariants.{NotADenomination}
use Rattle.denom.specs.Denomination.{Denom, hopless, behind}
use Rattle.denom.specs.Text.{hop_mark, hop_text, trace_text, denom_text, begins, hop_digit, hop_of, letter, letter_or_digit, each, is_symbol, only_symbol, behind_hop, read_on, read_from, denom_of}
use Rattle.denom.specs.Views.{symbol_answer, denom_answer, put_hops, hops_after, count_after}
use Rattle.denom.specs.Laws.{DenomsReadBack, DenomsWriteBack}
use Rattle.denom.proofs.Steps.{symbol_here}

-- tests
cond_some : {X : Type 0} (b : Bool) (x y : X) → cond b (Some x) None ≡ Some y → (b ≡ true) × (x ≡ y)
cond_some true x y e = (refl, cc)
cond_some false x y e = let z : ◌≡◌ {A = ℕ} 0 1 = cc in absurd (omega arith)

-- a text that begins with ps is ps and the rest
begins_front : (ps bs : List ℕ) → begins ps bs ≡ true → bs ≡ ps ++ drop (length ps) bs
begins_front [] bs e = refl
begins_front (p ∷ ps) [] e = let z : ◌≡◌ {A = ℕ} 0 1 = cc in absurd (omega arith)
begins_front (p ∷ ps) (b ∷ bs) e =
    let h = and_parts (eqb b p) (begins ps bs) e in
    (λ i. eqb-true b p h.0 i ∷ begins_front ps bs h.1 i)

begins_each : (p : ℕ → Bool) (ps bs : List ℕ) → begins ps bs ≡ true → each p bs ≡ true → each p ps ≡ true
begins_each p [] bs e a = refl
begins_each p (q ∷ ps) [] e a = let z : ◌≡◌ {A = ℕ} 0 1 = cc in absurd (omega arith)
begins_each p (q ∷ ps) (b ∷ bs) e a =
    let h = and_parts (eqb b q) (begins ps bs) e in
    let k = and_parts (p b) (each p bs) a in
    let first : p q ≡ true = ap p (sym (eqb-true b q h.0)) ∙ k.0 in
    let rest = begins_each p ps bs h.1 k.1 in
    rw (first, rest) refl

digit_inv : (d slash h : ℕ) → hop_digit d slash ≡ Some h → (48 + h ≡ d) × (h < 8) × (slash ≡ 47)
digit_inv d slash h e =
    let c = cond_some (leb 48 d && (leb d 55 && eqb slash 47)) (d - 48) h e in
    let p = and_parts (leb 48 d) (leb d 55 && eqb slash 47) c.0 in
    let q = and_parts (leb d 55) (eqb slash 47) p.1 in
    let low = leb-true 48 d p.0 in
    let high = leb-true d 55 q.0 in
    (omega (arith, c.1), omega (arith, c.1), eqb-true slash 47 q.1)

hop_inv : (bs : List ℕ) (h : ℕ) → hop_of bs ≡ Some h → (h < 8) × (bs ≡ hop_text h ++ drop 19 bs)
hop_inv bs h e =
    let P : Bool → Type 0 = λ b. begins hop_mark bs ≡ b → cond b (hop_digit (get_or bs 17 0) (get_or bs 18 0)) None ≡ Some h → (h < 8) × (bs ≡ hop_text h ++ drop 19 bs) in
    let go : (b : Bool) → P b = λ b. elim b as P [
      | true ↦ λ m f.
          let k = digit_inv (get_or bs 17 0) (get_or bs 18 0) h f in
          let long : 18 < length bs = ⊎_elim (λ l. l) (λ l. absurd (omega (arith, k.2, get_or_past bs 18 0 l))) (order 18 (length bs)) in
          let rest : drop 17 bs ≡ (48 + h) ∷ 47 ∷ drop 19 bs =
          drop_more bs 17 0 (omega arith) ∙ (λ i. sym k.0 i ∷ drop_more bs 18 0 long i) ∙ ap (λ x. (48 + h) ∷ x ∷ drop 19 bs) k.2
          in
          (k.1, begins_front hop_mark bs m ∙ ap (λ l. hop_mark ++ l) rest)
      | false ↦ λ m f. let z : ◌≡◌ {A = ℕ} 0 1 = cc in absurd (omega arith)
    ] in
    go (begins hop_mark bs) refl e

hop_back : (h : ℕ) (rest : List ℕ) → h < 8 → hop_of (hop_text h ++ rest) ≡ Some h
hop_back h rest lt =
    let low : leb 48 (48 + h) ≡ true = le-leb 48 (48 + h) (omega arith) in
    let high : leb (48 + h) 55 ≡ true = le-leb (48 + h) 55 (omega arith) in
    let back : 48 + h - 48 ≡ h = omega arith in
    rw (low, high, back) refl

symbol_no_hop : (s : List ℕ) → is_symbol s ≡ true → hop_of s ≡ None
symbol_no_hop [] e = let z : ◌≡◌ {A = ℕ} 0 1 = cc in absurd (omega arith)
symbol_no_hop (c ∷ cs) e =
    let P : Bool → Type 0 = λ b. begins hop_mark (c ∷ cs) ≡ b → cond b (hop_digit (get_or (c ∷ cs) 17 0) (get_or (c ∷ cs) 18 0)) None ≡ None in
    let go : (b : Bool) → P b = λ b. elim b as P [
      | true ↦ λ m.
          let tail = (and_parts (eqb c 116) (begins (drop 1 hop_mark) cs) m).1 in
          let all = (and_parts (leb (length cs) 15) (each letter_or_digit cs) (and_parts (letter c) _ e).1).1 in
          let never : false ≡ true = begins_each letter_or_digit (drop 1 hop_mark) cs tail all in
          let z : ◌≡◌ {A = ℕ} 0 1 = cc in absurd (omega arith)
      | false ↦ λ m. refl
    ] in
    go (begins hop_mark (c ∷ cs)) refl

-- what is known of a denomination that was read from bs, k hops at most
pub record Known (k : ℕ) (bs : List ℕ) (e : Denom) : Type 0 where
  pub few : length e.hops ≤ k
  pub channels : each (λ h. ltb h 8) e.hops ≡ true
  pub symbol : is_symbol e.symbol ≡ true
  pub text : denom_text e ≡ bs
  pub place : e.symbol ≡ drop (19 * length e.hops) bs

only_known : (k : ℕ) (bs : List ℕ) (e : Denom) → only_symbol bs ≡ Some e → Known k bs e
only_known k bs e is =
    let c = cond_some (is_symbol bs) (hopless bs) e is in
    subst (Known k bs) c.1 (record { few = omega arith; channels = refl; symbol = c.0; text = refl; place = refl })

hop_known : (k h : ℕ) (bs : List ℕ) (e : Denom) → hop_of bs ≡ Some h → Known k (drop 19 bs) e → Known (suc k) bs (behind h e)
hop_known k h bs e is n =
    let f = hop_inv bs h is in
    record {
      few = omega (arith, n.few);
      channels = rw (lt-ltb h 8 f.0) n.channels;
      symbol = n.symbol;
      text = ap (λ l. hop_text h ++ l) n.text ∙ sym f.1;
      place = n.place ∙ drop-drop (19 * length e.hops) 19 bs ∙ ap (λ m. drop m bs) (omega arith);
    }

behind_known :
    (k h : ℕ) (bs : List ℕ) (e : Denom) (o : Option Denom) → hop_of bs ≡ Some h →
    ((f : Denom) → o ≡ Some f → Known k (drop 19 bs) f) → behind_hop h o ≡ Some e → Known (suc k) bs e
behind_known k h bs e None is inner t = let z : ◌≡◌ {A = ℕ} 0 1 = cc in absurd (omega arith)
behind_known k h bs e (Some f) is inner t =
    let same : behind h f ≡ e = cc in
    subst (Known (suc k) bs) same (hop_known k h bs f is (inner f refl))

pub known : (k : ℕ) (bs : List ℕ) (e : Denom) → read_from k bs ≡ Some e → Known k bs e
known zero bs e is = only_known zero bs e is
known (suc k) bs e is =
    let P : Option ℕ → Type 0 = λ o. hop_of bs ≡ o → read_on o (only_symbol bs) (read_from k (drop 19 bs)) ≡ Some e → Known (suc k) bs e in
    let go : (o : Option ℕ) → P o = λ o. elim o as P [
      | None ↦ λ hop f. only_known (suc k) bs e f
      | Some h ↦ λ hop f. behind_known k h bs e (read_from k (drop 19 bs)) hop (known k (drop 19 bs)) f
    ] in
    go (hop_of bs) refl is

-- a denomination's text reads back, by its hops
forth :
    (k : ℕ) (hs s : List ℕ) → length hs ≤ k → each (λ h. ltb h 8) hs ≡ true → is_symbol s ≡ true →
    read_from k (trace_text hs s) ≡ Some (record { hops = hs; symbol = s })
forth zero [] s few ch ok = symbol_here s ok
forth zero (h ∷ hs) s few ch ok = absurd (omega arith)
forth (suc k) [] s few ch ok =
    ap (λ o. read_on o (only_symbol s) (read_from k (drop 19 s))) (symbol_no_hop s ok) ∙ symbol_here s ok
forth (suc k) (h ∷ hs) s few ch ok =
    let c = and_parts (ltb h 8) (each (λ x. ltb x 8) hs) ch in
    ap (λ o. read_on o (only_symbol (trace_text (h ∷ hs) s)) (read_from k (trace_text hs s))) (hop_back h (trace_text hs s) (ltb-true h 8 c.0))
    ∙ ap (behind_hop h) (forth k hs s (omega arith) c.1 ok)

pub reads_back : DenomsReadBack
reads_back e ok =
    let b = and_parts (leb (length e.hops) 6 && each (λ h. ltb h 8) e.hops) (is_symbol e.symbol) ok in
    let t = and_parts (leb (length e.hops) 6) (each (λ h. ltb h 8) e.hops) b.0 in
    forth 6 e.hops e.symbol (leb-true (length e.hops) 6 t.0) t.1 b.1

pub writes_back : DenomsWriteBack
writes_back bs e is =
    let n = known 6 bs e is in
    (rw (le-leb (length e.hops) 6 n.few, n.channels) n.symbol, n.text)

-- where the symbol stands that a reader answers
pub placed :
    (bs : List ℕ) (r : Result (Bor (List ℕ)) TextFault) (n n0 : ℕ) →
    result_map_both (λ s. s.now) (λ e. e) r ≡ symbol_answer (denom_of bs) → n ≡ count_after (denom_of bs) 0 n0 →
    IfOk r (λ s. s.now ≡ drop (19 * n) bs)
placed bs (Err f) n n0 e m = tt
placed bs (Ok s) n n0 e m =
    let P : Option Denom → Type 0 = λ o. denom_of bs ≡ o → ◌≡◌ {A = Result (List ℕ) TextFault} (Ok s.now) (symbol_answer o) → n ≡ count_after o 0 n0 → s.now ≡ drop (19 * n) bs in
    let go : (o : Option Denom) → P o = λ o. elim o as P [
      | None ↦ λ is f g. let z : ◌≡◌ {A = ℕ} 0 1 = cc in absurd (omega arith)
      | Some t ↦ λ is f g.
          let same : s.now ≡ t.symbol = cc in
          let count : length t.hops ≡ n = omega (arith, g) in
          same ∙ (known 6 bs t is).place ∙ ap (λ m. drop (19 * m) bs) count
    ] in
    go (denom_of bs) refl e m

length_put : (hs : List ℕ) (d : ℕ) (at : List ℕ) → length (put_hops hs d at) ≡ length at
length_put [] d at = refl
length_put (h ∷ hs) d at = length-set (put_hops hs (d + 1) at) d h ∙ length_put hs (d + 1) at

put_held : (hs : List ℕ) (d : ℕ) (at : List ℕ) → d + length hs ≤ length at → take (length hs) (drop d (put_hops hs d at)) ≡ hs
put_held [] d at h = refl
put_held (x ∷ hs) d at h =
    ap (take (suc (length hs))) (drop-set (put_hops hs (d + 1) at) d x (omega (arith, length_put hs (d + 1) at)))
    ∙ ap (λ l. x ∷ l) (put_held hs (d + 1) at (omega arith))

-- the record holds the hops that were read
pub held :
    (bs at0 at1 : List ℕ) (n n0 : ℕ) → length at0 ≡ 6 → at1 ≡ hops_after (denom_of bs) 0 at0 →
    n ≡ count_after (denom_of bs) 0 n0 → IfSome (denom_of bs) (λ t. take n at1 ≡ t.hops)
held bs at0 at1 n n0 six e m =
    let P : Option Denom → Type 0 = λ o. denom_of bs ≡ o → at1 ≡ hops_after o 0 at0 → n ≡ count_after o 0 n0 → IfSome o (λ t. take n at1 ≡ t.hops) in
    let go : (o : Option Denom) → P o = λ o. elim o as P [
      | None ↦ λ is f g. tt
      | Some t ↦ λ is f g.
          let count : n ≡ length t.hops = omega (arith, g) in
          (λ i. take (count i) (f i)) ∙ put_held t.hops 0 at0 (omega (arith, (known 6 bs t is).few))
    ] in
    go (denom_of bs) refl e m

-- Hops and symbol put together are the denomination that was read.

pub put_together :
    (o : Option Denom) (s hs sy : List ℕ) → ◌≡◌ {A = Result (List ℕ) TextFault} (Ok s) (symbol_answer o) →
    IfSome o (λ e. hs ≡ e.hops) → sy ≡ s →
    ◌≡◌ {A = Result Denom TextFault} (Ok (record { hops = hs; symbol = sy })) (denom_answer o)
put_together None s hs sy is h e = let z : ◌≡◌ {A = ℕ} 0 1 = cc in absurd (omega arith)
put_together (Some t) s hs sy is h e =
    let same : s ≡ t.symbol = cc in
    λ i. Ok (record { hops = h i; symbol = (e ∙ same) i })

pub not_read : (o : Option Denom) (f : TextFault) → ◌≡◌ {A = Result (List ℕ) TextFault} (Err f) (symbol_answer o) → ◌≡◌ {A = Result Denom TextFault} (Err f) (denom_answer o)
not_read None f is = let same : f ≡ NotADenomination = cc in ap Err same
not_read (Some t) f is = let z : ◌≡◌ {A = ℕ} 0 1 = cc in absurd (omega arith)

-- what the reader answers is a symbol
pub answers_symbol : (bs s : List ℕ) → ◌≡◌ {A = Result (List ℕ) TextFault} (Ok s) (symbol_answer (denom_of bs)) → is_symbol s ≡ true
answers_symbol bs s is = go (denom_of bs) refl is
  where
    go : (o : Option Denom) → denom_of bs ≡ o → ◌≡◌ {A = Result (List ℕ) TextFault} (Ok s) (symbol_answer o) → is_symbol s ≡ true
    go None e f = let z : ◌≡◌ {A = ℕ} 0 1 = cc in absurd (omega arith)
    go (Some t) e f = let same : s ≡ t.symbol = cc in ap is_symbol same ∙ (known 6 bs t e).symbol

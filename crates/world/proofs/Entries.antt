-- Registers in which a key was entered that they have room for.
use Rattle.std.proofs.Common.{◌≡◌, ℕ, ◌<◌, Bool, true, false, cond, not, ◌&&◌, eqb, leb, ◌≢◌, List, [], ◌∷◌, ◌++◌, length, get_or, set, is_some, Some, None, refl, ap, ◌∙◌, ⊎_elim, arith, get_or-set_same, get_or-set_other, lt-ltb, leb-false, eq-eqb, ne_eqb}
use Rattle.std.proofs.lemmas.Bool.{cases_eq}
use Rattle.std.proofs.lemmas.List.{get_or_default}
use Rattle.register.specs.Keys.{place, found, number_of}
use Rattle.denom.specs.Denomination.{Denom, same_denom}
use Rattle.denom.specs.declared.types.Denomination.{Denomination}
use Rattle.tables.specs.declared.types.Rows.{Rows}
use Rattle.tables.specs.Registers.{joined, number_for}
use Rattle.tables.specs.View.{denoms_in, denoms_of, no_denominations}

-- a key that there is room for stands behind the others, unless it was there
pub entered_one :
    {K : Type 0} (p : K → Bool) (k : K) (room : ℕ) (ks : List K) → (found p ks ≡ false → length ks < room) →
    joined room k ks (number_of p ks) ≡ cond (found p ks) ks (ks ++ k ∷ [])
entered_one p k room ks fits = go (found p ks) refl
  where
    go : (b : Bool) → found p ks ≡ b → joined room k ks (cond b (Some (place p ks)) None) ≡ cond b ks (ks ++ k ∷ [])
    go true t = refl
    go false t = rw (lt-ltb (length ks) room (fits t)) refl

-- a register in which a denomination has or would get a number has room for it
has_room : (e : Denom) (es : List Denom) → is_some (number_for e es) ≡ true → found (same_denom e) es ≡ false → length es < 32
has_room e es some new = go (leb 32 (length es)) refl (rw new at some)
  where
    go : (l : Bool) → leb 32 (length es) ≡ l → is_some (cond (not false && l) None (Some (place (same_denom e) es))) ≡ true → length es < 32
    go true t h = let z : ◌≡◌ {A = ℕ} 0 1 = cc in absurd (omega arith)
    go false t h = leb-false 32 (length es) t

-- The registers of all chains where a denomination was entered in that of chain c.
module _ (rows : List (Rows Denomination 32)) (c : ℕ) (new d : Rows Denomination 32) (e : Denom) where
  pub registers_after :
      c < length rows → is_some (number_for e (denoms_of rows c)) ≡ true →
      denoms_in new ≡ joined 32 e (denoms_in (get_or rows c d)) (number_of (same_denom e) (denoms_in (get_or rows c d))) → (c' : ℕ) →
      denoms_of (set rows c new) c' ≡ cond (eqb c' c && not (found (same_denom e) (denoms_of rows c))) (denoms_of rows c' ++ e ∷ []) (denoms_of rows c')
  registers_after h room after c' =
      ⊎_elim
      (λ (same : c' ≡ c).
      rw (same, eq-eqb c c refl)
      (ap denoms_in (get_or-set_same rows c new no_denominations h)
      ∙ after
      ∙ (λ i. joined 32 e (is i) (number_of (same_denom e) (is i)))
      ∙ entered_one (same_denom e) e 32 (denoms_of rows c) (has_room e (denoms_of rows c) room)
      ∙ turned (found (same_denom e) (denoms_of rows c))))
      (λ (other : c' ≢ c). rw (ne_eqb c' c other) (ap denoms_in (get_or-set_other rows c c' new no_denominations other)))
      (cases_eq c' c)
    where
      is : denoms_in (get_or rows c d) ≡ denoms_of rows c
      is = ap denoms_in (get_or_default rows c d no_denominations h)

      turned : (b : Bool) → cond b (denoms_of rows c) (denoms_of rows c ++ e ∷ []) ≡ cond (not b) (denoms_of rows c ++ e ∷ []) (denoms_of rows c)
      turned true = refl
      turned false = refl

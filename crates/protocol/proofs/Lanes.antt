-- Which lane a denomination goes by decides which escrow and which voucher it concerns.
use Rattle.std.proofs.Common.{◌≡◌, ℕ, ◌<◌, true, false, ◌&&◌, eqb, List, [], ◌∷◌, length, sym, refl, ap, ◌∙◌, subst, ap₂, arith}
use Rattle.std.proofs.lemmas.Bool.{eqb-true, eq-eqb, and_parts, and_from, both_ways}
use Rattle.denom.specs.Denomination.{Denom, same_denom, behind, stripped, came_by, first_hop, later_hops}
use Rattle.protocol.specs.House.{escrow_account}
use Rattle.protocol.specs.World.{End, Link, ends, back, from_end, to_end}
use Rattle.protocol.proofs.Bools.{bool_same, bool_false}
use Rattle.protocol.proofs.Places.{same_denom_true, same_denom_refl}
use Rattle.protocol.proofs.Homes.{Apart, back_back, back_in}

-- ends with the same chain and channel
end_path : (e f : End) → e.chain ≡ f.chain → e.channel ≡ f.channel → e ≡ f
end_path e f p q = λ i. record { chain = p i; channel = q i }

-- e came in by k: it is some denomination behind k
came_is : (k : ℕ) (e : Denom) → came_by k e ≡ true → e ≡ behind k (stripped e)
came_is k e h = go e.hops h
  where
    go :
        (hs : List ℕ) → first_hop hs k ≡ true →
        ◌≡◌ {A = Denom} (record { hops = hs; symbol = e.symbol }) (record { hops = k ∷ later_hops hs; symbol = e.symbol })
    go [] f = absurd (both_ways false refl f)
    go (x ∷ xs) f = ap (λ y. record { hops = y ∷ xs; symbol = e.symbol }) (eqb-true x k f)

-- what stands behind one channel stands behind no other
behind_channel : (j k : ℕ) (e f : Denom) → behind j e ≡ behind k f → j ≡ k
behind_channel j k e f p = ap (λ (x : Denom). head x.hops) p
  where
    head : List ℕ → ℕ
    head [] = 0
    head (x ∷ xs) = x

-- and only one denomination stands behind it
behind_denom : (j k : ℕ) (e f : Denom) → behind j e ≡ behind k f → e ≡ f
behind_denom j k e f p = ap stripped p

-- i₀ is the lane of the law and e₀ its denomination; i is a packet's lane and f its denomination
module _ (ls : List Link) (apart : Apart ls) (i₀ : ℕ) (in₀ : i₀ < length (ends ls)) (e₀ : Denom)
    (not_back : came_by (from_end ls i₀).channel e₀ ≡ false) (i : ℕ) (in' : i < length (ends ls)) (f : Denom) where
  -- the voucher of the law
  abbrev voucher : Denom
  voucher = behind (to_end ls i₀).channel e₀

  -- a lane out of the law's far end is its lane back
  same_lane : from_end ls i ≡ to_end ls i₀ → i ≡ back i₀
  same_lane e = apart i (back i₀) in' (back_in ls apart i₀ in₀) e

  -- by the channel by which it came, it is not the denomination of the law
  pub out_never : came_by (from_end ls i).channel f ≡ true → (eqb i i₀ && same_denom f e₀) ≡ false
  out_never h = bool_false (eqb i i₀ && same_denom f e₀) (λ t.
      let b = and_parts (eqb i i₀) (same_denom f e₀) t in
      let x = eqb-true i i₀ b.0 in
      let y = same_denom_true f e₀ b.1 in
      both_ways (came_by (from_end ls i₀).channel e₀) not_back (ap₂ (λ z (g : Denom). came_by (from_end ls z).channel g) (sym x) (sym y) ∙ h))

  -- by another channel, it is not the voucher on its way home
  pub home_never : came_by (from_end ls i).channel f ≡ false → (eqb i (back i₀) && same_denom f (behind (to_end ls i₀).channel e₀)) ≡ false
  home_never h = bool_false (eqb i (back i₀) && same_denom f voucher) (λ t.
      let b = and_parts (eqb i (back i₀)) (same_denom f voucher) t in
      let x = eqb-true i (back i₀) b.0 in
      let y = same_denom_true f voucher b.1 in
      both_ways (came_by (from_end ls i).channel f) h
      (ap₂ (λ z (g : Denom). came_by (from_end ls z).channel g) x y ∙ eq-eqb (to_end ls i₀).channel (to_end ls i₀).channel refl))

  -- burnt on the way home
  pub burn_is :
      came_by (from_end ls i).channel f ≡ true →
      (eqb (to_end ls i₀).chain (from_end ls i).chain && same_denom (behind (to_end ls i₀).channel e₀) f) ≡
      (eqb i (back i₀) && same_denom f (behind (to_end ls i₀).channel e₀))
  burn_is h =
      bool_same (eqb (to_end ls i₀).chain (from_end ls i).chain && same_denom voucher f) (eqb i (back i₀) && same_denom f voucher)
      (λ t.
      let b = and_parts (eqb (to_end ls i₀).chain (from_end ls i).chain) (same_denom voucher f) t in
      let x = eqb-true (to_end ls i₀).chain (from_end ls i).chain b.0 in
      let y = same_denom_true voucher f b.1 in
      let k = behind_channel (to_end ls i₀).channel (from_end ls i).channel e₀ (stripped f) (y ∙ came_is (from_end ls i).channel f h) in
      let l = same_lane (end_path (from_end ls i) (to_end ls i₀) (sym x) (sym k)) in
      and_from (eqb i (back i₀)) (same_denom f voucher) (eq-eqb i (back i₀) l) (subst (λ (g : Denom). same_denom g voucher ≡ true) y (same_denom_refl voucher)))
      (λ t.
      let b = and_parts (eqb i (back i₀)) (same_denom f voucher) t in
      let x = eqb-true i (back i₀) b.0 in
      let y = same_denom_true f voucher b.1 in
      and_from (eqb (to_end ls i₀).chain (from_end ls i).chain) (same_denom voucher f)
      (eq-eqb (to_end ls i₀).chain (from_end ls i).chain (ap (λ z. (from_end ls z).chain) (sym x)))
      (subst (λ (g : Denom). same_denom voucher g ≡ true) (sym y) (same_denom_refl voucher)))

  -- locked on the way out
  pub lock_is :
      (eqb (from_end ls i₀).chain (from_end ls i).chain && eqb (escrow_account (from_end ls i₀).channel) (escrow_account (from_end ls i).channel) && same_denom e₀ f) ≡
      (eqb i i₀ && same_denom f e₀)
  lock_is =
      let P = eqb (from_end ls i₀).chain (from_end ls i).chain in
      let Q = eqb (escrow_account (from_end ls i₀).channel) (escrow_account (from_end ls i).channel) in
      bool_same (P && Q && same_denom e₀ f) (eqb i i₀ && same_denom f e₀)
      (λ t.
      let b = and_parts (P && Q) (same_denom e₀ f) t in
      let c = and_parts P Q b.0 in
      let x = eqb-true (from_end ls i₀).chain (from_end ls i).chain c.0 in
      let y : (from_end ls i₀).channel ≡ (from_end ls i).channel =
      omega (arith, eqb-true (escrow_account (from_end ls i₀).channel) (escrow_account (from_end ls i).channel) c.1) in
      let z = same_denom_true e₀ f b.1 in
      and_from (eqb i i₀) (same_denom f e₀) (eq-eqb i i₀ (apart i i₀ in' in₀ (end_path (from_end ls i) (from_end ls i₀) (sym x) (sym y))))
      (subst (λ (g : Denom). same_denom g e₀ ≡ true) z (same_denom_refl e₀)))
      (λ t.
      let b = and_parts (eqb i i₀) (same_denom f e₀) t in
      let x = eqb-true i i₀ b.0 in
      let y = same_denom_true f e₀ b.1 in
      and_from (P && Q) (same_denom e₀ f)
      (and_from P Q (eq-eqb (from_end ls i₀).chain (from_end ls i).chain (ap (λ z. (from_end ls z).chain) (sym x)))
      (eq-eqb (escrow_account (from_end ls i₀).channel) (escrow_account (from_end ls i).channel) (ap (λ z. escrow_account (from_end ls z).channel) (sym x))))
      (subst (λ (g : Denom). same_denom e₀ g ≡ true) (sym y) (same_denom_refl e₀)))

  -- a lane to the law's far end is its lane
  same_back : to_end ls i ≡ to_end ls i₀ → i ≡ i₀
  same_back e =
      sym (back_back i) ∙ ap back (apart (back i) (back i₀) (back_in ls apart i in') (back_in ls apart i₀ in₀) e) ∙ back_back i₀

  -- a lane to its near end is its lane back
  other_back : to_end ls i ≡ from_end ls i₀ → i ≡ back i₀
  other_back e = sym (back_back i) ∙ ap back (apart (back i) i₀ (back_in ls apart i in') in₀ e)

  -- made at the far end
  pub mint_is :
      (eqb (to_end ls i₀).chain (to_end ls i).chain && same_denom (behind (to_end ls i₀).channel e₀) (behind (to_end ls i).channel f)) ≡
      (eqb i i₀ && same_denom f e₀)
  mint_is =
      let P = eqb (to_end ls i₀).chain (to_end ls i).chain in
      let v = behind (to_end ls i).channel f in
      bool_same (P && same_denom voucher v) (eqb i i₀ && same_denom f e₀)
      (λ t.
      let b = and_parts P (same_denom voucher v) t in
      let x = eqb-true (to_end ls i₀).chain (to_end ls i).chain b.0 in
      let y = same_denom_true voucher v b.1 in
      let k = behind_channel (to_end ls i₀).channel (to_end ls i).channel e₀ f y in
      let z = behind_denom (to_end ls i₀).channel (to_end ls i).channel e₀ f y in
      and_from (eqb i i₀) (same_denom f e₀) (eq-eqb i i₀ (same_back (end_path (to_end ls i) (to_end ls i₀) (sym x) (sym k))))
      (subst (λ (g : Denom). same_denom g e₀ ≡ true) z (same_denom_refl e₀)))
      (λ t.
      let b = and_parts (eqb i i₀) (same_denom f e₀) t in
      let x = eqb-true i i₀ b.0 in
      let y = same_denom_true f e₀ b.1 in
      and_from P (same_denom voucher v) (eq-eqb (to_end ls i₀).chain (to_end ls i).chain (ap (λ z. (to_end ls z).chain) (sym x)))
      (subst (λ (g : Denom). same_denom voucher g ≡ true) (ap₂ (λ z (g : Denom). behind (to_end ls z).channel g) (sym x) (sym y)) (same_denom_refl voucher)))

  -- let go at home
  pub free_is :
      came_by (from_end ls i).channel f ≡ true →
      (eqb (from_end ls i₀).chain (to_end ls i).chain && eqb (escrow_account (from_end ls i₀).channel) (escrow_account (to_end ls i).channel) && same_denom e₀ (stripped f)) ≡
      (eqb i (back i₀) && same_denom f (behind (to_end ls i₀).channel e₀))
  free_is h =
      let P = eqb (from_end ls i₀).chain (to_end ls i).chain in
      let Q = eqb (escrow_account (from_end ls i₀).channel) (escrow_account (to_end ls i).channel) in
      bool_same (P && Q && same_denom e₀ (stripped f)) (eqb i (back i₀) && same_denom f voucher)
      (λ t.
      let b = and_parts (P && Q) (same_denom e₀ (stripped f)) t in
      let c = and_parts P Q b.0 in
      let x = eqb-true (from_end ls i₀).chain (to_end ls i).chain c.0 in
      let y : (from_end ls i₀).channel ≡ (to_end ls i).channel =
      omega (arith, eqb-true (escrow_account (from_end ls i₀).channel) (escrow_account (to_end ls i).channel) c.1) in
      let z = same_denom_true e₀ (stripped f) b.1 in
      let l = other_back (end_path (to_end ls i) (from_end ls i₀) (sym x) (sym y)) in
      let v : f ≡ voucher = came_is (from_end ls i).channel f h ∙ ap₂ (λ k (g : Denom). behind (from_end ls k).channel g) l (sym z) in
      and_from (eqb i (back i₀)) (same_denom f voucher) (eq-eqb i (back i₀) l) (subst (λ (g : Denom). same_denom g voucher ≡ true) (sym v) (same_denom_refl voucher)))
      (λ t.
      let b = and_parts (eqb i (back i₀)) (same_denom f voucher) t in
      let x = eqb-true i (back i₀) b.0 in
      let y = same_denom_true f voucher b.1 in
      let e : to_end ls i ≡ from_end ls i₀ = ap (to_end ls) x ∙ ap (from_end ls) (back_back i₀) in
      and_from (P && Q) (same_denom e₀ (stripped f))
      (and_from P Q (eq-eqb (from_end ls i₀).chain (to_end ls i).chain (ap (λ (z : End). z.chain) (sym e)))
      (eq-eqb (escrow_account (from_end ls i₀).channel) (escrow_account (to_end ls i).channel) (ap (λ (z : End). escrow_account z.channel) (sym e))))
      (subst (λ (g : Denom). same_denom e₀ (stripped g) ≡ true) (sym y) (same_denom_refl e₀)))

-- A mark written under a key, seen from that key and from every other.
use Rattle.std.proofs.Common.{◌≡◌, ℕ, Bool, true, false, cond, ◌&&◌, eqb, Some, refl, ap, ◌∙◌, ap₂}
use Rattle.std.proofs.lemmas.Bool.{eqb-true, eq-eqb, both_ways}
use Rattle.protocol.specs.Book.{taken}
use Rattle.protocol.specs.World.{Packet, World, mark_of, link_kind}
use Rattle.protocol.specs.Calls.{mark_written, same_kind}
use Rattle.protocol.proofs.Bools.{same_kind_refl}
use Rattle.protocol.proofs.Good.{Key, key}

module _ (w : World) (i s m : ℕ) where
  -- a mark under another key stays
  pub mark_other : (p : Packet) → (key p ≡ (i, s) → ⊥) → mark_of (mark_written w i s m) p ≡ mark_of w p
  mark_other p ne = go (same_kind (link_kind w p.lane) (link_kind w i))
    where
      inner :
          (b c : Bool) → (b ≡ true → p.lane ≡ i) → (c ≡ true → p.sequence ≡ s) →
          cond (b && c) (Some m) ((w.books (link_kind w p.lane)).mark p.lane p.sequence) ≡ mark_of w p
      inner true true f g = absurd (ne (λ k. (f refl k, g refl k)))
      inner true false f g = refl
      inner false c f g = refl

      go :
          (a : Bool) →
          (cond a (taken (w.books (link_kind w p.lane)) i s m) (w.books (link_kind w p.lane))).mark p.lane p.sequence ≡ mark_of w p
      go false = refl
      go true = inner (eqb p.lane i) (eqb p.sequence s) (eqb-true p.lane i) (eqb-true p.sequence s)

  -- the mark under this key is the one written
  pub mark_here : (p : Packet) → key p ≡ (i, s) → mark_of (mark_written w i s m) p ≡ Some m
  mark_here p e =
      ap (λ (k : Key). ((mark_written w i s m).books (link_kind w k.0)).mark k.0 k.1) e ∙
      go (same_kind (link_kind w i) (link_kind w i)) (same_kind_refl (link_kind w i))
    where
      go :
          (a : Bool) → a ≡ true →
          (cond a (taken (w.books (link_kind w i)) i s m) (w.books (link_kind w i))).mark i s ≡ Some m
      go true f = ap₂ (λ x y. cond (x && y) (Some m) ((w.books (link_kind w i)).mark i s)) (eq-eqb i i refl) (eq-eqb s s refl)
      go false f = absurd (both_ways false refl f)

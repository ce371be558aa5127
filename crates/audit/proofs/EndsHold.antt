-- What a route and a chain's denominations tell of escrow at the end that a lane leads from.
use Rattle.std.proofs.Common.{◌≡◌, ℕ, ◌+◌, ◌-◌, ◌*◌, ◌/◌, ◌%◌, ◌<◌, Bool, true, false, not, ◌&&◌, eqb, ltb, List, map, length, get_or, sym, refl, ap, ◌∙◌, ⊎_elim, arith}
use lib.ListN.{length-map}
use Rattle.std.proofs.lemmas.List.{get_or-map}
use Rattle.std.proofs.lemmas.Bool.{lt-ltb, eq-eqb, ne_eqb, and_parts, cases_eq}
use Rattle.denom.specs.Denomination.{Denom}
use Rattle.denom.specs.declared.types.Denomination.{Denomination}
use Rattle.denom.specs.Views.{denom_view}
use Rattle.protocol.specs.House.{escrow_account}
use Rattle.protocol.specs.Audit.{escrow_held}
use Rattle.protocol.specs.World.{World, End, lane, back, from_end, no_denom}
use Rattle.tables.specs.declared.types.Route.{Route}
use Rattle.tables.specs.Routes.{Leads}
use Rattle.audit.specs.Slots.{Entered}

-- the lane that leads back, by the link and the end of a lane
pub leads_back : (i : ℕ) → 2 * (i / 2) + (1 - i % 2) ≡ back (lane (i / 2) (i % 2))
leads_back i =
    ⊎_elim
    (λ (even : i % 2 ≡ 0).
    let first : (2 * (i / 2) + i % 2) % 2 ≡ 0 = omega arith in
    rw (eq-eqb ((2 * (i / 2) + i % 2) % 2) 0 first) (omega arith))
    (λ (odd : i % 2 ≡ 0 → ⊥).
    let second : (2 * (i / 2) + i % 2) % 2 ≡ 0 → ⊥ = λ e. odd (omega arith) in
    rw (ne_eqb ((2 * (i / 2) + i % 2) % 2) 0 second) (omega arith))
    (cases_eq (i % 2) 0)

module _ (w : World) (i d : ℕ) (closed : ℕ → Bool) (r : Route) (leads : Leads w.links closed (i / 2) (i % 2) r) (es : List Denomination) (known : map denom_view es ≡ w.register r.near.chain) where
  -- the end's chain has these denominations
  there : map denom_view es ≡ w.register (from_end w.links (lane (i / 2) (i % 2))).chain
  there = known ∙ ap (λ (e : End). w.register e.chain) leads.near

  as_many : length (w.register (from_end w.links (lane (i / 2) (i % 2))).chain) ≡ length es
  as_many = sym (ap length there) ∙ length-map es denom_view

  all : (a b c : Bool) → a ≡ true → b ≡ true → c ≡ false → (a && (b && not c)) ≡ true
  all a b c e f h = rw (e, f, h) refl

  -- the figure of the end's account
  pub held_there : (s : ℕ) → s ≡ w.ledger.balance r.near.chain (escrow_account r.near.channel) d → s ≡ escrow_held w (i / 2) (i % 2) d
  held_there s e = e ∙ ap (λ (n : End). w.ledger.balance n.chain (escrow_account n.channel) d) leads.near

  -- an entry that is there
  pub entered :
      (x : Denomination) (s : ℕ) → d < length es → x ≡ get_or es d x → s ≡ w.ledger.balance r.near.chain (escrow_account r.near.channel) d → (s ≡ 0 → ⊥) →
      Entered w i d (record { route = r; denomination = x; escrow = s })
  entered x s h read held some =
      let is = held_there s held in
      record {
        there =
            all (ltb (i / 2) (length w.links)) (ltb d (length (w.register (from_end w.links (lane (i / 2) (i % 2))).chain))) (eqb (escrow_held w (i / 2) (i % 2) d) 0)
            (and_parts _ _ leads.there).0
            (lt-ltb d _ (omega (arith, as_many)))
            (ne_eqb (escrow_held w (i / 2) (i % 2) d) 0 (λ e. some (is ∙ e)));
        lane_is = leads.lane_is;
        far = leads.far;
        denomination = ap denom_view read ∙ sym (get_or-map denom_view es d x no_denom h) ∙ ap (λ (l : List Denom). get_or l d no_denom) there;
        held = is;
      }

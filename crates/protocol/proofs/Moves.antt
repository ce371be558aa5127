-- Where a call goes two ways: how a packet leaves, arrives, and is refunded.
use Rattle.std.proofs.Common.{◌≡◌, ℕ, ◌<◌, ◌≤◌, Bool, true, false, cond, not, ◌&&◌, ◌||◌, eqb, leb, List, length, sym, refl, ap, subst}
use Rattle.std.proofs.lemmas.Bool.{both_ways, ltb-true, ltb-false, leb-false, not-false, or_parts}
use Rattle.denom.specs.Denomination.{Denom, behind, stripped, came_by}
use Rattle.protocol.specs.House.{denoms_most, hops_most, escrow_account}
use Rattle.protocol.specs.Refusals.{Refusal, first}
use Rattle.protocol.specs.Ledger.{Ledger, credit_refusals, move_refusals, Balances, credited, debited, moved, too_large}
use Rattle.protocol.specs.World.{near, far, Packet, World, number, registered}
use Rattle.protocol.specs.Calls.{refused, with_bal, enrolled, arrival_mark, delivered, refunded, refund_refused, sent_off}
use Rattle.protocol.proofs.Good.{Names, names_found}
use Rattle.protocol.proofs.Views.{Clear, clear_first, is_none}

-- what a ledger that does not refuse tells

-- a list of refusals none of which applies
clear_of : (rs : List Refusal) → refused rs ≡ false → Clear rs
clear_of rs h = clear_first rs (is_none (first rs) h)

-- a credit leaves the supply in bounds
credits_small :
    (l : Ledger) (c a d n : ℕ) → refused (credit_refusals l c a d n) ≡ false → too_large l.balance c d n ≡ false
credits_small l c a d n h = (clear_of (credit_refusals l c a d n) h).1.1.1.1.0

-- what is moved is there
moves_enough : (l : Ledger) (c a a' d n : ℕ) → refused (move_refusals l c a a' d n) ≡ false → n ≤ l.balance c a d
moves_enough l c a a' d n h = ltb-false (l.balance c a d) n (clear_of (move_refusals l c a a' d n) h).1.1.1.1.1.0

module _ (w : World) (p : Packet) where
  -- the world in which it has come home
  abbrev pub homeward : World
  homeward =
      with_bal
      w
      (moved w.ledger.balance (far w p).chain (escrow_account (far w p).channel) p.receiver (number w (far w p).chain (stripped p.denom)) p.amount)

  -- the world in which it has gone out
  abbrev pub outward : World
  outward =
      with_bal
      (enrolled w (far w p).chain (behind (far w p).channel p.denom))
      (credited w.ledger.balance (far w p).chain p.receiver (number w (far w p).chain (behind (far w p).channel p.denom)) p.amount)

  -- it is homeward, and the far chain's ledger moves it out of escrow
  pub record Homeward : Type 0 where
    pub came : came_by (near w p).channel p.denom ≡ true
    pub named : Names w.register (far w p).chain (number w (far w p).chain (stripped p.denom)) (stripped p.denom)
    pub enough :
        p.amount ≤
        w.ledger.balance (far w p).chain (escrow_account (far w p).channel) (number w (far w p).chain (stripped p.denom))

  -- it is outward, and the far chain's ledger credits its voucher
  pub record Outward : Type 0 where
    pub came : came_by (near w p).channel p.denom ≡ false
    pub short : length p.denom.hops < hops_most
    pub room : (not (registered w (far w p).chain (behind (far w p).channel p.denom)) && leb denoms_most (length (w.register (far w p).chain))) ≡ false
    pub small : too_large w.ledger.balance (far w p).chain (number w (far w p).chain (behind (far w p).channel p.denom)) p.amount ≡ false

  -- when a packet does not come home, and when the three ways in which it does not go out
  abbrev home_bad : Bool
  home_bad =
      not (registered w (far w p).chain (stripped p.denom))
      || refused (move_refusals w.ledger (far w p).chain (escrow_account (far w p).channel) p.receiver (number w (far w p).chain (stripped p.denom)) p.amount)

  -- too many hops
  abbrev out_long : Bool
  out_long = leb hops_most (length p.denom.hops)

  -- no room for a new voucher
  abbrev out_full : Bool
  out_full = not (registered w (far w p).chain (behind (far w p).channel p.denom)) && leb denoms_most (length (w.register (far w p).chain))

  -- the ledger refuses the credit
  abbrev out_bad : Bool
  out_bad = refused (credit_refusals w.ledger (far w p).chain p.receiver (number w (far w p).chain (behind (far w p).channel p.denom)) p.amount)

  -- mark 1 says that none of the three applies
  out_clear :
      (a b c : Bool) → eqb (cond a 2 (cond b 3 (cond c 4 1))) 1 ≡ true →
      (a ≡ false) × (b ≡ false) × (c ≡ false)
  out_clear true b c h = absurd (both_ways false refl h)
  out_clear false true c h = absurd (both_ways false refl h)
  out_clear false false true h = absurd (both_ways false refl h)
  out_clear false false false h = (refl, refl, refl)

  -- mark 1 says that it comes home
  home_clear : (a : Bool) → eqb (cond a 4 1) 1 ≡ true → a ≡ false
  home_clear true h = absurd (both_ways false refl h)
  home_clear false h = refl

  -- a packet that arrives: nothing moves, it comes home, or it goes out
  pub arrival_by :
      (P : World → Type 0) → (eqb (arrival_mark w p) 1 ≡ false → P w) →
      (eqb (arrival_mark w p) 1 ≡ true → Homeward → P homeward) →
      (eqb (arrival_mark w p) 1 ≡ true → Outward → P outward) →
      P (cond (eqb (arrival_mark w p) 1) (delivered w p) w)
  arrival_by P bad home' out = go (came_by (near w p).channel p.denom) refl
    where
      hm : ℕ
      hm = cond home_bad 4 1

      om : ℕ
      om = cond out_long 2 (cond out_full 3 (cond out_bad 4 1))

      is : (b : Bool) → came_by (near w p).channel p.denom ≡ b → arrival_mark w p ≡ cond b hm om
      is b e = ap (λ b. cond b hm om) e

      ds : (b : Bool) → came_by (near w p).channel p.denom ≡ b → delivered w p ≡ cond b homeward outward
      ds b e = ap (λ b. cond b homeward outward) e

      way : (b : Bool) → came_by (near w p).channel p.denom ≡ b → eqb (arrival_mark w p) 1 ≡ true → P (cond b homeward outward)
      way true e m =
          let c = home_clear home_bad (subst (λ x. eqb x 1 ≡ true) (is true e) m) in
          let o = or_parts (not (registered w (far w p).chain (stripped p.denom))) _ c in
          home' m (record {
            came = e;
            named =
                names_found w.register (far w p).chain (stripped p.denom)
                (ltb-true (number w (far w p).chain (stripped p.denom)) (length (w.register (far w p).chain)) (not-false (registered w (far w p).chain (stripped p.denom)) o.0));
            enough =
                moves_enough w.ledger (far w p).chain (escrow_account (far w p).channel) p.receiver (number w (far w p).chain (stripped p.denom)) p.amount o.1;
          })
      way false e m =
          let c = out_clear out_long out_full out_bad (subst (λ x. eqb x 1 ≡ true) (is false e) m) in
          out m (record {
            came = e;
            short = leb-false hops_most (length p.denom.hops) c.0;
            room = c.1;
            small = credits_small w.ledger (far w p).chain p.receiver (number w (far w p).chain (behind (far w p).channel p.denom)) p.amount c.2;
          })

      go : (b : Bool) → came_by (near w p).channel p.denom ≡ b → P (cond (eqb (arrival_mark w p) 1) (delivered w p) w)
      go b e = inner (eqb (arrival_mark w p) 1) refl
        where
          inner : (g : Bool) → eqb (arrival_mark w p) 1 ≡ g → P (cond g (delivered w p) w)
          inner true m = subst P (sym (ds b e)) (way b e m)
          inner false m = bad m

  -- a refund: credited again, or moved back
  pub refund_by :
      (P : World → Type 0) → refund_refused w p ≡ false →
      (came_by (near w p).channel p.denom ≡ true →
      too_large w.ledger.balance (near w p).chain (number w (near w p).chain p.denom) p.amount ≡ false →
      P (with_bal w (credited w.ledger.balance (near w p).chain p.sender (number w (near w p).chain p.denom) p.amount))) →
      (came_by (near w p).channel p.denom ≡ false →
      p.amount ≤ w.ledger.balance (near w p).chain (escrow_account (near w p).channel) (number w (near w p).chain p.denom) →
      P (with_bal w (moved w.ledger.balance (near w p).chain (escrow_account (near w p).channel) p.sender (number w (near w p).chain p.denom) p.amount))) →
      P (refunded w p)
  refund_by P h burnt kept =
      go (came_by (near w p).channel p.denom) refl (or_parts (not (registered w (near w p).chain p.denom)) _ h).1
    where
      go :
          (b : Bool) → came_by (near w p).channel p.denom ≡ b →
          cond
          b
          (refused (credit_refusals w.ledger (near w p).chain p.sender (number w (near w p).chain p.denom) p.amount))
          (refused (move_refusals w.ledger (near w p).chain (escrow_account (near w p).channel) p.sender (number w (near w p).chain p.denom) p.amount)) ≡ false →
          P
          (with_bal
          w
          (cond
          b
          (credited w.ledger.balance (near w p).chain p.sender (number w (near w p).chain p.denom) p.amount)
          (moved w.ledger.balance (near w p).chain (escrow_account (near w p).channel) p.sender (number w (near w p).chain p.denom) p.amount)))
      go true e f =
          burnt e (credits_small w.ledger (near w p).chain p.sender (number w (near w p).chain p.denom) p.amount f)
      go false e f =
          kept e (moves_enough w.ledger (near w p).chain (escrow_account (near w p).channel) p.sender (number w (near w p).chain p.denom) p.amount f)

-- a packet that leaves: debited, or moved into escrow
pub sent_by :
    (w : World) (c k u : ℕ) (e : Denom) (n : ℕ) (P : Balances → Type 0) →
    (came_by k e ≡ true → P (debited w.ledger.balance c u (number w c e) n)) →
    (came_by k e ≡ false → P (moved w.ledger.balance c u (escrow_account k) (number w c e) n)) → P (sent_off w c k u e n)
sent_by w c k u e n P burnt held = go (came_by k e) refl
  where
    go :
        (b : Bool) → came_by k e ≡ b →
        P (cond b (debited w.ledger.balance c u (number w c e) n) (moved w.ledger.balance c u (escrow_account k) (number w c e) n))
    go true x = burnt x
    go false x = held x

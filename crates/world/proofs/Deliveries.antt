-- What a packet's arrival comes to, once it is known what register and ledger said.
use Rattle.std.proofs.Common.{◌≡◌, ℕ, Bool, true, false, cond, not, ◌&&◌, ◌||◌, leb, length, is_some, Some, None, Option, sym, refl, ap, ◌∙◌}
use Rattle.register.specs.Keys.{number_of}
use Rattle.denom.specs.Denomination.{Denom, same_denom, stripped, behind}
use Rattle.protocol.specs.House.{escrow_account, denoms_most}
use Rattle.protocol.specs.Refusals.{first}
use Rattle.protocol.specs.Ledger.{credited, moved, credit_refusals, move_refusals}
use Rattle.protocol.specs.World.{World, End, registered, number}
use Rattle.protocol.specs.World as protocol
use Rattle.protocol.specs.Calls.{with_bal, enrolled}
use Rattle.tables.specs.Registers.{number_for}
use Rattle.world.specs.Receiving.{home_mark, at_home, voucher_mark, with_voucher}
use Rattle.tables.proofs.Kept.{number_some}
use Rattle.world.proofs.Issuing.{there_if, absent_if}

-- On the way home: a is the escrow account, d the number of what is left without the first hop.
module _ (w : World) (f : End) (p : protocol.Packet) (a d : ℕ) (e : Denom) (escrow : a ≡ escrow_account f.channel) (freed : e ≡ stripped p.denom) (known : number_of (same_denom e) (w.register f.chain) ≡ Some d) where
  numbered : (registered w f.chain (stripped p.denom) ≡ true) × (number w f.chain (stripped p.denom) ≡ d)
  numbered = number_some (same_denom (stripped p.denom)) (w.register f.chain) d (ap (λ x. number_of (same_denom x) (w.register f.chain)) (sym freed) ∙ known)

  asked : (o : Option ℕ) → first (move_refusals w.ledger f.chain a p.receiver d p.amount) ≡ o → first (move_refusals w.ledger f.chain (escrow_account f.channel) p.receiver (number w f.chain (stripped p.denom)) p.amount) ≡ o
  asked o e = (λ i. first (move_refusals w.ledger f.chain (sym escrow i) p.receiver (numbered.1 i) p.amount)) ∙ e

  pub home_good : first (move_refusals w.ledger f.chain a p.receiver d p.amount) ≡ None → 1 ≡ home_mark w f p
  home_good e = sym (λ i. cond (not (numbered.0 i) || is_some (asked None e i)) 4 1)

  pub home_refused : (n : ℕ) → first (move_refusals w.ledger f.chain a p.receiver d p.amount) ≡ Some n → 4 ≡ home_mark w f p
  home_refused n e = sym (λ i. cond (not (numbered.0 i) || is_some (asked (Some n) e i)) 4 1)

  pub home_left : with_bal w (moved w.ledger.balance f.chain a p.receiver d p.amount) ≡ at_home w f p
  home_left = λ i. with_bal w (moved w.ledger.balance f.chain (escrow i) p.receiver (sym numbered.1 i) p.amount)

first_false : (x y : Bool) → (x || y) ≡ false → x ≡ false
first_false true y e = e
first_false false y e = refl

first_true : (x y : Bool) → (x || y) ≡ true → y ≡ false → x ≡ true
first_true true y e n = refl
first_true false y e n = sym n ∙ e

-- no voucher is made of a denomination that has as many hops as there may be
pub voucher_too_long :
    (w : World) (f : End) (p : protocol.Packet) (e : Denom) → None ≡ cond (leb 6 (length p.denom.hops) || leb 8 f.channel) None (Some e) →
    leb 8 f.channel ≡ false → 2 ≡ voucher_mark w f p
voucher_too_long w f p e none low =
    let long = first_true (leb 6 (length p.denom.hops)) (leb 8 f.channel) (absent_if _ _ none) low in
    rw long

-- and a new one finds no place in a full register
pub voucher_full :
    (w : World) (f : End) (p : protocol.Packet) (e : Denom) →
    Some e ≡ cond (leb 6 (length p.denom.hops) || leb 8 f.channel) None (Some (behind f.channel p.denom)) →
    None ≡ number_for e (w.register f.chain) → 3 ≡ voucher_mark w f p
voucher_full w f p e made none =
    let fits = there_if _ _ _ made in
    let short = first_false (leb 6 (length p.denom.hops)) (leb 8 f.channel) fits.0 in
    let full =
    ap (λ (x : Denom). not (registered w f.chain x) && leb denoms_most (length (w.register f.chain))) (sym fits.1)
    ∙ absent_if _ _ none
    in
    rw (short, full)

-- With a voucher: e is the voucher, d the number that it has or will get.
module _ (w : World) (f : End) (p : protocol.Packet) (d : ℕ) (e : Denom) (made : Some e ≡ cond (leb 6 (length p.denom.hops) || leb 8 f.channel) None (Some (behind f.channel p.denom))) (known : Some d ≡ number_for e (w.register f.chain)) where
  abbrev voucher : Denom
  voucher = behind f.channel p.denom

  fits : ((leb 6 (length p.denom.hops) || leb 8 f.channel) ≡ false) × (e ≡ voucher)
  fits = there_if _ _ _ made

  short : leb 6 (length p.denom.hops) ≡ false
  short = first_false (leb 6 (length p.denom.hops)) (leb 8 f.channel) fits.0

  placed : ((not (registered w f.chain voucher) && leb denoms_most (length (w.register f.chain))) ≡ false) × (d ≡ number w f.chain voucher)
  placed = there_if _ _ _ (known ∙ ap (λ x. number_for x (w.register f.chain)) fits.1)

  credit_asked : (o : Option ℕ) → first (credit_refusals w.ledger f.chain p.receiver d p.amount) ≡ o → first (credit_refusals w.ledger f.chain p.receiver (number w f.chain voucher) p.amount) ≡ o
  credit_asked o e = ap (λ m. first (credit_refusals w.ledger f.chain p.receiver m p.amount)) (sym placed.1) ∙ e

  pub voucher_good : first (credit_refusals w.ledger f.chain p.receiver d p.amount) ≡ None → 1 ≡ voucher_mark w f p
  voucher_good e = sym (λ i. cond (short i) 2 (cond (placed.0 i) 3 (cond (is_some (credit_asked None e i)) 4 1)))

  pub voucher_refused : (n : ℕ) → first (credit_refusals w.ledger f.chain p.receiver d p.amount) ≡ Some n → 4 ≡ voucher_mark w f p
  voucher_refused n e = sym (λ i. cond (short i) 2 (cond (placed.0 i) 3 (cond (is_some (credit_asked (Some n) e i)) 4 1)))

  pub voucher_left :
      enrolled (with_bal w (credited w.ledger.balance f.chain p.receiver d p.amount)) f.chain e ≡ with_voucher w f p
  voucher_left =
      λ i. enrolled (with_bal w (credited w.ledger.balance f.chain p.receiver (placed.1 i) p.amount)) f.chain (fits.1 i)

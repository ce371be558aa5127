-- What came in by a channel is never in that channel's escrow: by it, it is burnt.
use Rattle.std.proofs.Common.{◌≡◌, ℕ, ◌+◌, ◌-◌, ◌<◌, ◌≤◌, Bool, true, false, cond, not, ◌&&◌, eqb, List, [], ◌∷◌, length, get_or, sym, refl, ap, ◌∙◌, ⊎_elim, arith}
use Rattle.std.proofs.lemmas.Bool.{eqb-true, both_ways, cases_lt}
use Rattle.denom.specs.Denomination.{Denom, hopless, behind, stripped, came_by}
use Rattle.protocol.specs.House.{users, escrow_account}
use Rattle.protocol.specs.Ledger.{Ledger, Balances, put, credited, debited, moved}
use Rattle.protocol.specs.Book.{Book, is_one}
use Rattle.protocol.specs.World.{Packet, World, lane, number, no_denom, mark_at, near, far}
use Rattle.protocol.specs.Calls.{Call, open_link, issue, retire, pay, send, receive, ack, timeout, tick, bar, unbar, home, refusals, outcome, ended, mark_written, packet_place, packet_at, arrival_mark, refunded, refund_refused}
use Rattle.protocol.specs.Laws.{world}
use Rattle.protocol.proofs.Good.{Registers, Blank, Names, Sound, Good, grown, grown_old}
use Rattle.protocol.proofs.Views.{Clear, step_by, issue_facts, pay_facts, send_facts, receive_facts, ack_facts, timeout_facts}
use Rattle.protocol.proofs.Moves.{arrival_by, refund_by, sent_by}
use Rattle.protocol.proofs.Kept.{good_world, sound_at}

-- the statement, by numbers
abbrev pub Unlocked : Registers → Balances → Type 0
Unlocked reg b =
    (c k d : ℕ) → d < length (reg c) → came_by k (get_or (reg c) d no_denom) ≡ true → b c (escrow_account k) d ≡ 0

module _ (reg : Registers) (b : Balances) (c d : ℕ) (h : Unlocked reg b) where
  -- a user's balance changes
  unlocked_user : (u x : ℕ) → u < users → Unlocked reg (put b c u d x)
  unlocked_user u x l c' k d' m came = go (eqb c' c) (eqb (escrow_account k) u) (eqb d' d) (eqb-true (escrow_account k) u)
    where
      go : (p q r : Bool) → (q ≡ true → escrow_account k ≡ u) → cond (p && q && r) x (b c' (escrow_account k) d') ≡ 0
      go true true r e = absurd (omega (arith, e refl))
      go true false r e = h c' k d' m came
      go false q r e = h c' k d' m came

  -- a balance gets no larger
  unlocked_less : (a x : ℕ) → x ≤ b c a d → Unlocked reg (put b c a d x)
  unlocked_less a x l c' k d' m came =
      go (eqb c' c) (eqb (escrow_account k) a) (eqb d' d) (eqb-true c' c) (eqb-true (escrow_account k) a) (eqb-true d' d)
    where
      go :
          (p q r : Bool) → (p ≡ true → c' ≡ c) → (q ≡ true → escrow_account k ≡ a) → (r ≡ true → d' ≡ d) →
          cond (p && q && r) x (b c' (escrow_account k) d') ≡ 0
      go true true true e f g =
          let s : b c' (escrow_account k) d' ≡ b c a d = cc (e refl, f refl, g refl) in
          omega (arith, h c' k d' m came)
      go true true false e f g = h c' k d' m came
      go true false r e f g = h c' k d' m came
      go false q r e f g = h c' k d' m came

  -- an escrow changes under a denomination that did not come by its channel
  unlocked_into : (j x : ℕ) (e : Denom) → Names reg c d e → came_by j e ≡ false → Unlocked reg (put b c (escrow_account j) d x)
  unlocked_into j x e n not_back c' k d' m came =
      go (eqb c' c) (eqb (escrow_account k) (escrow_account j)) (eqb d' d) (eqb-true c' c) (eqb-true (escrow_account k) (escrow_account j)) (eqb-true d' d)
    where
      go :
          (p q r : Bool) → (p ≡ true → c' ≡ c) → (q ≡ true → escrow_account k ≡ escrow_account j) → (r ≡ true → d' ≡ d) →
          cond (p && q && r) x (b c' (escrow_account k) d') ≡ 0
      go true true true f g i =
          let k-is : k ≡ j = omega (arith, g refl) in
          let same : came_by k (get_or (reg c') d' no_denom) ≡ came_by j e =
          ap (λ y. came_by y (get_or (reg c') d' no_denom)) k-is ∙
          ap (λ y. came_by j (get_or (reg y) d' no_denom)) (f refl) ∙
          ap (λ y. came_by j (get_or (reg c) y no_denom)) (i refl) ∙
          ap (came_by j) n.1 in
          absurd (both_ways (came_by j e) not_back (sym same ∙ came))
      go true true false f g i = h c' k d' m came
      go true false r f g i = h c' k d' m came
      go false q r f g i = h c' k d' m came

-- a debit
unlocked_debit : (reg : Registers) (b : Balances) (c a d n : ℕ) → Unlocked reg b → Unlocked reg (debited b c a d n)
unlocked_debit reg b c a d n h = unlocked_less reg b c d h a (b c a d - n) (omega arith)

-- a credit to a user
unlocked_credit : (reg : Registers) (b : Balances) (c u d n : ℕ) → u < users → Unlocked reg b → Unlocked reg (credited b c u d n)
unlocked_credit reg b c u d n l h = unlocked_user reg b c d h u (b c u d + n) l

-- out of any account to a user
unlocked_move : (reg : Registers) (b : Balances) (c a u d n : ℕ) → u < users → Unlocked reg b → Unlocked reg (moved b c a u d n)
unlocked_move reg b c a u d n l h = unlocked_credit reg (debited b c a d n) c u d n l (unlocked_debit reg b c a d n h)

-- a denomination enrolled: its balances are blank
unlocked_grown :
    (reg : Registers) (b : Balances) (c : ℕ) (e : Denom) → Blank reg b → Unlocked reg b → Unlocked (grown reg c e) b
unlocked_grown reg b c e blank h c' k d m came =
    ⊎_elim
    (λ l. h c' k d l (ap (came_by k) (sym (grown_old reg c e c' d l)) ∙ came))
    (λ l. blank c' (escrow_account k) d l)
    (cases_lt d (length (reg c')))

-- the statement of a world
abbrev UnlockedIn : World → Type 0
UnlockedIn w = Unlocked w.register w.ledger.balance

-- a refund goes to a user
unlocked_refunded :
    (w : World) (p : Packet) → Sound w.links w.register p → refund_refused w p ≡ false → UnlockedIn w → UnlockedIn (refunded w p)
unlocked_refunded w p s r h =
    let b = w.ledger.balance in
    let c = (near w p).chain in
    let d = number w c p.denom in
    refund_by w p UnlockedIn r
    (λ _ _. unlocked_credit w.register b c p.sender d p.amount s.sender_in h)
    (λ _ _. unlocked_move w.register b c (escrow_account (near w p).channel) p.sender d p.amount s.sender_in h)

-- every call
unlocked_outcome : (w : World) (c : Call) → Good w → UnlockedIn w → Clear (refusals w c) → UnlockedIn (outcome w c).0
unlocked_outcome w (open_link a b k) g h r = h
unlocked_outcome w (issue c u s n) g h r =
    unlocked_credit (grown w.register c (hopless s)) w.ledger.balance c u (number w c (hopless s)) n (issue_facts w c u s n r).u_in
    (unlocked_grown w.register w.ledger.balance c (hopless s) g.blank h)
unlocked_outcome w (retire c u e n) g h r = unlocked_debit w.register w.ledger.balance c u (number w c e) n h
unlocked_outcome w (pay c u v e n) g h r =
    unlocked_move w.register w.ledger.balance c u v (number w c e) n (pay_facts w c u v e n r).1 h
unlocked_outcome w (send c k u v e n t) g h r =
    let b = w.ledger.balance in
    let d = number w c e in
    sent_by w c k u e n (Unlocked w.register)
    (λ _. unlocked_debit w.register b c u d n h)
    (λ not_back.
    unlocked_into w.register (debited b c u d n) c d (unlocked_debit w.register b c u d n h) k _ e (send_facts w c k u v e n t r).has.named not_back)
unlocked_outcome w (receive l d s) g h r =
    let f = receive_facts w l d s r in
    let i = lane l d in
    let p = packet_at w i s in
    let so = sound_at w i s g f.0 in
    let b = w.ledger.balance in
    let c = (far w p).chain in
    let e = behind (far w p).channel p.denom in
    arrival_by w p (λ x. UnlockedIn (mark_written x i s (arrival_mark w p)))
    (λ _. h)
    (λ _ _. unlocked_move w.register b c (escrow_account (far w p).channel) p.receiver (number w c (stripped p.denom)) p.amount so.receiver_in h)
    (λ _ _.
    unlocked_credit (grown w.register c e) b c p.receiver (number w c e) p.amount so.receiver_in
    (unlocked_grown w.register b c e g.blank h))
unlocked_outcome w (ack l d s) g h r = go (is_one (mark_at w (lane l d) s)) (ack_facts w l d s r).2
  where
    go :
        (b : Bool) → (not b && refund_refused w (packet_at w (lane l d) s)) ≡ false →
        UnlockedIn (ended (cond b w (refunded w (packet_at w (lane l d) s))) (packet_place w (lane l d) s))
    go true _ = h
    go false x = unlocked_refunded w (packet_at w (lane l d) s) (sound_at w (lane l d) s g (ack_facts w l d s r).0) x h
unlocked_outcome w (timeout l d s) g h r =
    let f = timeout_facts w l d s r in
    unlocked_refunded w (packet_at w (lane l d) s) (sound_at w (lane l d) s g f.0) f.2 h
unlocked_outcome w (tick c n) g h r = h
unlocked_outcome w (bar c u) g h r = h
unlocked_outcome w (unbar c u) g h r = h
unlocked_outcome w (home c e) g h r = h

-- at every moment
pub unlocked_world : (l : Ledger) (bs : Bool → Book) (past : List Call) → UnlockedIn (world l bs past)
unlocked_world l bs [] = λ c k d m came. refl
unlocked_world l bs (c ∷ past) =
    step_by (world l bs past) c (λ r. UnlockedIn r.0) (λ _. unlocked_world l bs past)
    (unlocked_outcome (world l bs past) c (good_world l bs past) (unlocked_world l bs past))

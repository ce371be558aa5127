-- The house's bounds, the ledger's two laws and registers without repeats hold at every moment.
use Rattle.std.proofs.Common.{◌≡◌, ℕ, suc, ◌+◌, ◌<◌, ◌≤◌, Bool, true, false, cond, not, ◌&&◌, eqb, ltb, leb, List, [], ◌∷◌, ◌++◌, map, length, get_or, sym, refl, ap, ◌∙◌, subst, ap₂, ⊎_elim, arith}
use Rattle.std.specs.List.{AllByRecursion as All}
use Rattle.std.proofs.ByRecursion.{All-push, All-set, All-get_or}
use Rattle.std.proofs.lemmas.List.{length_push, get_or_push, length-set, length-map, get_or-map}
use Rattle.std.proofs.lemmas.Bool.{eqb-true, eqb-false, and_parts, and_from, or_parts, and_cases, both_ways, cases_lt, ltb-false, leb-false, le-ltb, lt-ltb, le-leb, not-false, not_from_false, cond_both}
use Rattle.sums.specs.Sums.{gate, count}
use Rattle.register.specs.Keys.{place, found}
use Rattle.denom.specs.Denomination.{Denom, Token, same_denom, same_token, hopless, behind, stripped}
use Rattle.denom.specs.Text.{each, is_trace, is_symbol, is_denom}
use Rattle.protocol.specs.House.{most, links_most, packets_most, tokens_most, denoms_most, channels_most, hops_most, accounts, escrow_account, chains_most}
use Rattle.protocol.specs.Ledger.{Ledger, Balances, supply, Lawful, credited, debited, moved, too_large, with_balances, bar_set}
use Rattle.protocol.specs.Book.{Book, is_one}
use Rattle.protocol.specs.World.{Packet, World, made, lane, no_denom, number, registered, mark_at, end_at, lowest_unused, back, near, far}
use Rattle.protocol.specs.Calls.{Call, open_link, issue, retire, pay, send, receive, ack, timeout, tick, bar, unbar, home, refusals, outcome, token_known, token_at, token_enrolled, packet_place, packet_at, no_packet, no_more_standing, arrival_mark, refunded, refund_refused, sent_packet, with_bal, with_ledger, ended, mark_written}
use Rattle.protocol.specs.Laws.{world, Bounded}
use Rattle.protocol.proofs.Sums.{sum_part, sum_zero}
use Rattle.protocol.proofs.Measures.{supply_measure, credit_moves, debit_moves, move_moves}
use Rattle.protocol.proofs.Places.{place_first, same_denom_refl, same_token_refl}
use Rattle.protocol.proofs.Homes.{back_in}
use Rattle.protocol.proofs.Good.{Key, no_key, key, Registers, Sound, Good, grown, grown_cases, grown_old}
use Rattle.protocol.proofs.Grow.{Distinct, distinct_push}
use Rattle.protocol.proofs.Views.{Clear, step_by, issue_facts, retire_facts, pay_facts, send_facts, receive_facts, ack_facts, timeout_facts}
use Rattle.protocol.proofs.Moves.{homeward, outward, arrival_by, refund_by, sent_by}
use Rattle.protocol.proofs.Kept.{sound_at, good_world}

-- Supplies

-- no supply passes 2^64 - 1
abbrev Supplies : Balances → Type 0
Supplies b = (c d : ℕ) → supply b c d ≤ most

-- a credit that is not too large
supplies_credit :
    (b : Balances) (c u d n : ℕ) → too_large b c d n ≡ false → Supplies b → Supplies (credited b c u d n)
supplies_credit b c u d n h s c' d' =
    go (ltb u accounts) (eqb c' c) (eqb d' d) (eqb-true c' c) (eqb-true d' d)
    (credit_moves (λ b. supply b c' d') (λ c a d. ltb a accounts && (eqb c' c && eqb d' d)) (supply_measure c' d') b c u d n)
  where
    go :
        (x y z : Bool) → (y ≡ true → c' ≡ c) → (z ≡ true → d' ≡ d) →
        supply (credited b c u d n) c' d' ≡ supply b c' d' + gate (x && (y && z)) n → supply (credited b c u d n) c' d' ≤ most
    go true true true f g e = omega (arith, ap₂ (supply b) (f refl) (g refl), ltb-false most (supply b c d + n) h)
    go true true false f g e = omega (arith, s c' d')
    go true false z f g e = omega (arith, s c' d')
    go false y z f g e = omega (arith, s c' d')

-- a debit of what is there
supplies_debit : (b : Balances) (c u d n : ℕ) → n ≤ b c u d → Supplies b → Supplies (debited b c u d n)
supplies_debit b c u d n h s c' d' =
    omega (
      arith,
      debit_moves (λ b. supply b c' d') (λ c a d. ltb a accounts && (eqb c' c && eqb d' d)) (supply_measure c' d') b c u d n h,
      s c' d',
    )

-- what counts under two tests counts under one
gate_under : (x y : Bool) (n : ℕ) → gate (x && y) n ≤ gate (true && y) n
gate_under true y n = omega arith
gate_under false true n = omega arith
gate_under false false n = omega arith

-- a move of what is there
supplies_move :
    (b : Balances) (c a a' d n : ℕ) → a < accounts → n ≤ b c a d → Supplies b → Supplies (moved b c a a' d n)
supplies_move b c a a' d n l h s c' d' =
    omega (
      arith,
      move_moves (λ b. supply b c' d') (λ c a d. ltb a accounts && (eqb c' c && eqb d' d)) (supply_measure c' d') b c a a' d n h,
      ap (λ x. gate (x && (eqb c' c && eqb d' d)) n) (lt-ltb a accounts l),
      gate_under (ltb a' accounts) (eqb c' c && eqb d' d) n,
      s c' d',
    )

-- Registers

-- registers within their counts, without repeats, with proper denominations
record RegistersFine (reg : Registers) : Type 0 where
  few : (c : ℕ) → length (reg c) ≤ denoms_most
  apart : (c : ℕ) → Distinct no_denom (reg c)
  proper : (c d : ℕ) → d < length (reg c) → is_denom (get_or (reg c) d no_denom) ≡ true

-- a proper denomination enrolled where there is room
fine_grown :
    (reg : Registers) (c : ℕ) (e : Denom) → (not (found (same_denom e) (reg c)) && leb denoms_most (length (reg c))) ≡ false →
    is_denom e ≡ true → RegistersFine reg → RegistersFine (grown reg c e)
fine_grown reg c e room l f =
    record {
      few = λ x. ⊎_elim (λ h. omega (arith, f.few x, ap length h)) (few' x) (grown_cases reg c e x);
      apart = λ x. ⊎_elim (λ h. subst (Distinct no_denom) (sym h) (f.apart x)) (apart' x) (grown_cases reg c e x);
      proper = λ x d m. ⊎_elim (λ h. rw (grown_old reg c e x d h) (f.proper x d h)) (proper' x d m) (cases_lt d (length (reg x)));
    }
  where
    few' : (x : ℕ) → (x ≡ c) × (length (reg c) ≤ place (same_denom e) (reg c)) × (grown reg c e x ≡ reg x ++ e ∷ []) → length (grown reg c e x) ≤ denoms_most
    few' x h =
        let nf : found (same_denom e) (reg c) ≡ false = le-ltb (place (same_denom e) (reg c)) (length (reg c)) h.1 in
        let lt : length (reg c) < denoms_most =
        ⊎_elim
        (λ y. absurd (both_ways (not (found (same_denom e) (reg c))) y (not_from_false (found (same_denom e) (reg c)) nf)))
        (λ y. leb-false denoms_most (length (reg c)) y)
        (and_cases (not (found (same_denom e) (reg c))) (leb denoms_most (length (reg c))) room) in
        omega (arith, ap length h.2, length_push (reg x) e, ap (λ y. length (reg y)) h.0)

    apart' : (x : ℕ) → (x ≡ c) × (length (reg c) ≤ place (same_denom e) (reg c)) × (grown reg c e x ≡ reg x ++ e ∷ []) → Distinct no_denom (grown reg c e x)
    apart' x h =
        subst (Distinct no_denom) (sym h.2) (distinct_push no_denom (reg x) e (f.apart x) (λ i m y.
        let hit : same_denom e (get_or (reg x) i no_denom) ≡ true = subst (λ (z : Denom). same_denom e z ≡ true) (sym y) (same_denom_refl e) in
        omega (arith, place_first (same_denom e) (reg x) i no_denom m hit, h.1, ap (λ y. length (reg y)) h.0, ap (λ y. place (same_denom e) (reg y)) h.0)))

    proper' : (x d : ℕ) → d < length (grown reg c e x) → length (reg x) ≤ d → is_denom (get_or (grown reg c e x) d no_denom) ≡ true
    proper' x d m n =
        ⊎_elim
        (λ h. absurd (omega (arith, ap length h)))
        (λ h.
        let is : get_or (grown reg c e x) d no_denom ≡ e =
        ap (λ (xs : List Denom). get_or xs d no_denom) h.2 ∙ get_or_push (reg x) e no_denom d (omega (arith, ap length h.2, length_push (reg x) e)) in
        rw is l)
        (grown_cases reg c e x)

-- a denomination behind one more hop
behind_proper :
    (j : ℕ) (e : Denom) → j < channels_most → length e.hops < hops_most → is_denom e ≡ true → is_denom (behind j e) ≡ true
behind_proper j e j-in short h =
    let a = and_parts (is_trace e.hops) (is_symbol e.symbol) h in
    let b = and_parts (leb (length e.hops) hops_most) (each (λ k. ltb k channels_most) e.hops) a.0 in
    and_from (is_trace (j ∷ e.hops)) (is_symbol e.symbol)
    (and_from (leb (suc (length e.hops)) hops_most) (each (λ k. ltb k channels_most) (j ∷ e.hops))
    (le-leb (suc (length e.hops)) hops_most (omega arith))
    (and_from (ltb j channels_most) (each (λ k. ltb k channels_most) e.hops) (lt-ltb j channels_most j-in) b.1))
    a.1

-- Tokens

-- a token of one of the world's chains, with a symbol
abbrev Proper : Token → Type 0
Proper t = (t.chain < chains_most) × (is_symbol t.symbol ≡ true)

-- tokens within their count, without repeats, each proper
record TokensFine (ts : List Token) : Type 0 where
  few : length ts ≤ tokens_most
  apart : Distinct (token_at 0 []) ts
  proper : All Proper ts

-- a token enrolled where there is room
token_fine :
    (w : World) (t : Token) → (not (token_known w t) && leb tokens_most (length w.tokens)) ≡ false → Proper t → TokensFine w.tokens →
    TokensFine (token_enrolled w t).tokens
token_fine w t r in' h = go (token_known w t) refl r
  where
    go :
        (b : Bool) → token_known w t ≡ b → (not b && leb tokens_most (length w.tokens)) ≡ false →
        TokensFine (cond b w.tokens (w.tokens ++ t ∷ []))
    go true e f = h
    go false e f =
        record {
          few = omega (arith, leb-false tokens_most (length w.tokens) f, length_push w.tokens t);
          apart = distinct_push (token_at 0 []) w.tokens t h.apart (λ i m y.
              let hit : same_token t (get_or w.tokens i (token_at 0 [])) ≡ true =
              subst (λ (z : Token). same_token t z ≡ true) (sym y) (same_token_refl t) in
              omega (
                arith,
                place_first (same_token t) w.tokens i (token_at 0 []) m hit,
                ltb-false (place (same_token t) w.tokens) (length w.tokens) e,
              ));
          proper = All-push Proper w.tokens t h.proper in';
        }

-- Packets: each has a sequence from 1 and an amount from 1 to 2^64 - 1

abbrev Paid : Packet → Type 0
Paid p = (1 ≤ p.amount) × (p.amount ≤ most) × (1 ≤ p.sequence)

-- no more rows pass than there are
count_le : {X : Type 0} (test : X → Bool) (xs : List X) → count test xs ≤ length xs
count_le test [] = omega arith
count_le test (x ∷ xs) = go (test x) (count_le test xs)
  where
    go : (b : Bool) → count test xs ≤ length xs → gate b 1 + count test xs ≤ suc (length xs)
    go true h = omega arith
    go false h = omega arith

-- a sequence is no more than the packets of its lane, and these no more than all
sequence_in :
    (w : World) (q : ℕ) → Good w → length w.packets ≤ packets_most → q < length w.packets →
    (get_or w.packets q no_packet).sequence ≤ packets_most
sequence_in w q g few l =
    let n = length-map w.packets key in
    let is = get_or-map key w.packets q no_packet no_key l in
    omega (
      arith,
      g.numbered.upto q (omega arith),
      count_le (λ (k : Key). eqb k.0 (get_or (map key w.packets) q no_key).0) (map key w.packets),
      ap (λ (k : Key). k.1) is,
    )

-- What a world keeps beside what `Good` says of it

record Fine (w : World) : Type 0 where
  lawful : Lawful w.ledger
  links : length w.links ≤ links_most
  packets : length w.packets ≤ packets_most
  tokens : TokensFine w.tokens
  registers : RegistersFine w.register
  heights : (c : ℕ) → w.height c ≤ most
  paid : All Paid w.packets

-- other balances under the same bars
lawful_bal : (w : World) → Fine w → (b : Balances) → Supplies b → Lawful (with_balances w.ledger b)
lawful_bal w h b s = record { supplies = s; bars = h.lawful.bars }

-- balances change
fine_bal : (w : World) → Fine w → (b : Balances) → Supplies b → Fine (with_bal w b)
fine_bal w h b s =
    record { lawful = lawful_bal w h b s; links = h.links; packets = h.packets; tokens = h.tokens; registers = h.registers; heights = h.heights; paid = h.paid }

-- a refund
fine_refunded :
    (w : World) (p : Packet) → Good w → Fine w → Sound w.links w.register p → refund_refused w p ≡ false → Fine (refunded w p)
fine_refunded w p g h s r =
    let b = w.ledger.balance in
    let c = (near w p).chain in
    let k = (near w p).channel in
    let d = number w c p.denom in
    refund_by w p Fine r
    (λ _ small. fine_bal w h (credited b c p.sender d p.amount) (supplies_credit b c p.sender d p.amount small h.lawful.supplies))
    (λ _ enough.
    fine_bal w h (moved b c (escrow_account k) p.sender d p.amount)
    (supplies_move b c (escrow_account k) p.sender d p.amount (omega (arith, g.wired.narrow p.lane s.lane_in)) enough h.lawful.supplies))

-- a packet ends
fine_ended : (w : World) (q : ℕ) → q < length w.packets → Fine w → Fine (ended w q)
fine_ended w q l h =
    record {
      lawful = h.lawful;
      links = h.links;
      packets = rw length-set h.packets;
      tokens = h.tokens;
      registers = h.registers;
      heights = h.heights;
      paid = All-set Paid w.packets q (no_more_standing (get_or w.packets q no_packet)) (All-get_or Paid w.packets q no_packet l h.paid) h.paid;
    }

-- a mark is written
fine_mark : (w : World) (i s m : ℕ) → Fine w → Fine (mark_written w i s m)
fine_mark w i s m h =
    record { lawful = h.lawful; links = h.links; packets = h.packets; tokens = h.tokens; registers = h.registers; heights = h.heights; paid = h.paid }

-- a user is barred or not, on a chain that serves bars
fine_barred : (w : World) (c u : ℕ) (b : Bool) → not (w.ledger.serves_bars c) ≡ false → Fine w → Fine (with_ledger w (bar_set w.ledger c u b))
fine_barred w c u b r h =
    record {
      lawful = record { supplies = h.lawful.supplies; bars = λ c' u' n. go c' u' n (eqb c' c) (eqb u' u) (eqb-true c' c) };
      links = h.links;
      packets = h.packets;
      tokens = h.tokens;
      registers = h.registers;
      heights = h.heights;
      paid = h.paid;
    }
  where
    go :
        (c' u' : ℕ) → w.ledger.serves_bars c' ≡ false → (x y : Bool) → (x ≡ true → c' ≡ c) → cond (x && y) b (w.ledger.barred c' u') ≡ false
    go c' u' n true true f =
        absurd
        (both_ways (w.ledger.serves_bars c) (ap w.ledger.serves_bars (sym (f refl)) ∙ n) (not-false (w.ledger.serves_bars c) r))
    go c' u' n true false f = h.lawful.bars c' u' n
    go c' u' n false y f = h.lawful.bars c' u' n

-- the denomination of a packet that stands is within bounds
denom_proper : (w : World) (p : Packet) → Fine w → Sound w.links w.register p → is_denom p.denom ≡ true
denom_proper w p h s =
    let c = (near w p).chain in
    subst (λ (e : Denom). is_denom e ≡ true) s.named.1 (h.registers.proper c (place (same_denom p.denom) (w.register c)) s.named.0)

-- every call
fine_outcome : (w : World) (c : Call) → Good w → Fine w → Clear (refusals w c) → Fine (outcome w c).0
fine_outcome w (open_link a b k) g h r =
    record {
      lawful = h.lawful;
      links =
          omega (
            arith,
            leb-false links_most (length w.links) r.1.1.0,
            length_push w.links (record { end₀ = end_at a (lowest_unused w.links a); end₁ = end_at b (lowest_unused w.links b); kind = k }),
          );
      packets = h.packets;
      tokens = h.tokens;
      registers = h.registers;
      heights = h.heights;
      paid = h.paid;
    }
fine_outcome w (issue c u s n) g h r =
    let e = hopless s in
    let room =
    or_parts (not (token_known w (token_at c s)) && leb tokens_most (length w.tokens)) (not (registered w c e) && leb denoms_most (length (w.register c))) r.1.1.1.1.0 in
    record {
      lawful = lawful_bal w h _ (supplies_credit w.ledger.balance c u (number w c e) n r.1.1.1.1.1.0 h.lawful.supplies);
      links = h.links;
      packets = h.packets;
      tokens = token_fine w (token_at c s) room.0 ((issue_facts w c u s n r).c_in, not-false (is_symbol s) r.0) h.tokens;
      registers = fine_grown w.register c e room.1 (not-false (is_symbol s) r.0) h.registers;
      heights = h.heights;
      paid = h.paid;
    }
fine_outcome w (retire c u e n) g h r =
    let f = (retire_facts w c u e n r).0 in
    fine_bal w h _ (supplies_debit w.ledger.balance c u (number w c e) n f.enough h.lawful.supplies)
fine_outcome w (pay c u v e n) g h r =
    let f = (pay_facts w c u v e n r).0 in
    fine_bal w h _ (supplies_move w.ledger.balance c u v (number w c e) n (omega (arith, f.u_in)) f.enough h.lawful.supplies)
fine_outcome w (send c k u v e n t) g h r =
    let f = (send_facts w c k u v e n t r).has in
    let b = w.ledger.balance in
    let d = number w c e in
    record {
      lawful =
          sent_by w c k u e n (λ b. Lawful (with_balances w.ledger b))
          (λ _. lawful_bal w h _ (supplies_debit b c u d n f.enough h.lawful.supplies))
          (λ _. lawful_bal w h _ (supplies_move b c u (escrow_account k) d n (omega (arith, f.u_in)) f.enough h.lawful.supplies));
      links = h.links;
      packets =
          omega (arith, leb-false packets_most (length w.packets) r.1.1.1.1.1.1.1.0, length_push w.packets (sent_packet w c k u v e n t));
      tokens = h.tokens;
      registers = h.registers;
      heights = h.heights;
      paid =
          All-push Paid w.packets (sent_packet w c k u v e n t) h.paid (
            (let ne = eqb-false n 0 r.1.1.1.0 in omega arith),
            omega (arith, f.enough, sum_part accounts (λ a. b c a d) u (omega (arith, f.u_in)), h.lawful.supplies c d),
            omega arith,
          );
    }
fine_outcome w (receive l d s) g h r =
    let f = receive_facts w l d s r in
    let i = lane l d in
    let p = packet_at w i s in
    let m = arrival_mark w p in
    let so = sound_at w i s g f.0 in
    let b = w.ledger.balance in
    let c = (far w p).chain in
    let j = (far w p).channel in
    let j-in = g.wired.narrow (back p.lane) (back_in w.links g.wired.apart p.lane so.lane_in) in
    arrival_by w p (λ x. Fine (mark_written x i s m))
    (λ _. fine_mark w i s m h)
    (λ _ hm.
    fine_mark (homeward w p) i s m
    (fine_bal w h _ (supplies_move b c (escrow_account j) p.receiver (number w c (stripped p.denom)) p.amount (omega (arith, j-in)) hm.enough h.lawful.supplies)))
    (λ _ ow.
    let e = behind j p.denom in
    fine_mark (outward w p) i s m
    (record {
      lawful = lawful_bal w h _ (supplies_credit b c p.receiver (number w c e) p.amount ow.small h.lawful.supplies);
      links = h.links;
      packets = h.packets;
      tokens = h.tokens;
      registers = fine_grown w.register c e ow.room (behind_proper j p.denom j-in ow.short (denom_proper w p h so)) h.registers;
      heights = h.heights;
      paid = h.paid;
    }))
fine_outcome w (ack l d s) g h r = go (is_one (mark_at w (lane l d) s)) (ack_facts w l d s r).2
  where
    go :
        (b : Bool) → (not b && refund_refused w (packet_at w (lane l d) s)) ≡ false →
        Fine (ended (cond b w (refunded w (packet_at w (lane l d) s))) (packet_place w (lane l d) s))
    go true _ = fine_ended w (packet_place w (lane l d) s) (ack_facts w l d s r).0.place_in h
    go false x =
        fine_ended (refunded w (packet_at w (lane l d) s)) (packet_place w (lane l d) s) (ack_facts w l d s r).0.place_in
        (fine_refunded w (packet_at w (lane l d) s) g h (sound_at w (lane l d) s g (ack_facts w l d s r).0) x)
fine_outcome w (timeout l d s) g h r =
    let f = timeout_facts w l d s r in
    let i = lane l d in
    let p = packet_at w i s in
    let x = fine_ended (refunded w p) (packet_place w i s) f.0.place_in (fine_refunded w p g h (sound_at w i s g f.0) f.2) in
    record { lawful = x.lawful; links = x.links; packets = x.packets; tokens = x.tokens; registers = x.registers; heights = x.heights; paid = x.paid }
fine_outcome w (tick c n) g h r =
    record {
      lawful = h.lawful;
      links = h.links;
      packets = h.packets;
      tokens = h.tokens;
      registers = h.registers;
      heights = λ x. cond_both (eqb x c) (w.height c + n) (w.height x) (λ y. y ≤ most) (λ _. ltb-false most (w.height c + n) r.1.1.0) (λ _. h.heights x);
      paid = h.paid;
    }
fine_outcome w (bar c u) g h r = fine_barred w c u true r.1.1.0 h
fine_outcome w (unbar c u) g h r = fine_barred w c u false r.1.1.0 h
fine_outcome w (home c e) g h r = h

-- a world as it is made
fine_made : (l : Ledger) (bs : Bool → Book) → Fine (made l bs)
fine_made l bs =
    record {
      lawful = record { supplies = λ c d. omega (arith, sum_zero accounts (λ _. 0) (λ _. refl)); bars = λ c u h. refl };
      links = omega arith;
      packets = omega arith;
      tokens = record { few = omega arith; apart = λ q r h. absurd (omega arith); proper = tt };
      registers = record { few = λ c. omega arith; apart = λ c q r h. absurd (omega arith); proper = λ c d h. absurd (omega arith) };
      heights = λ c. omega arith;
      paid = tt;
    }

-- at every moment
fine_world : (l : Ledger) (bs : Bool → Book) (past : List Call) → Fine (world l bs past)
fine_world l bs [] = fine_made l bs
fine_world l bs (c ∷ past) =
    step_by (world l bs past) c (λ r. Fine r.0) (λ _. fine_world l bs past)
    (fine_outcome (world l bs past) c (good_world l bs past) (fine_world l bs past))

-- what is fine and good of a world is within bounds
pub bounded : Bounded
bounded l bs past =
    let w = world l bs past in
    let g = good_world l bs past in
    let f = fine_world l bs past in
    record {
      lawful = f.lawful;
      links = f.links;
      packets = f.packets;
      tokens = f.tokens.few;
      denoms = f.registers.few;
      denoms_differ = λ c. f.registers.apart c;
      tokens_differ = f.tokens.apart;
      token_in = λ q l. All-get_or Proper w.tokens q (token_at 0 []) l f.tokens.proper;
      denom_in = f.registers.proper;
      heights = f.heights;
      end_in = λ i l. (g.wired.small i l, g.wired.narrow i l);
      packet_in = λ q l.
          let s = All-get_or (Sound w.links w.register) w.packets q no_packet l g.sound in
          let p = All-get_or Paid w.packets q no_packet l f.paid in
          record {
            lane_in = s.lane_in;
            sequence_least = p.2;
            sequence_most = sequence_in w q g f.packets l;
            sender_in = s.sender_in;
            receiver_in = s.receiver_in;
            amount_least = p.0;
            amount_most = p.1;
          };
    }

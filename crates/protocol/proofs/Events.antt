-- Part c: what has been done to a packet, told by its standing and mark.
use Rattle.std.proofs.Common.{◌≡◌, ℕ, ◌+◌, ◌/◌, ◌<◌, ◌≤◌, Bool, true, false, cond, not, ◌&&◌, ◌||◌, eqb, ◌↔◌, List, [], ◌∷◌, ◌++◌, map, length, get_or, set, is_some, Some, None, Option, sym, refl, ap, ◌∙◌, subst, ap₂, ⊎_elim, arith}
use Rattle.std.proofs.ByRecursion.{All-get_or}
use Rattle.std.proofs.lemmas.List.{get_or_append_left, length_push, get_or_push, length-set, get_or-set_same, get_or-set_other, length-map, get_or-map}
use Rattle.std.proofs.lemmas.Bool.{eqb-true, eq-eqb, and_parts, and_from, both_ways, cases_lt, cases_eq}
use Rattle.sums.specs.Sums.{gate}
use Rattle.denom.specs.Denomination.{Denom}
use Rattle.protocol.specs.Ledger.{Ledger}
use Rattle.protocol.specs.Book.{Book, is_one}
use Rattle.protocol.specs.World.{Link, Packet, World, end_at, lane_out, lowest_unused, mark_of, is_open, lane, link_kind, no_link, mark_at}
use Rattle.protocol.specs.Calls.{Answer, done, says, no, Call, open_link, issue, retire, pay, send, receive, ack, timeout, tick, bar, unbar, home, refusals, outcome, step, ended, mark_written, no_packet, no_more_standing, packet_place, packet_at, arrival_mark, refunded, sent_packet, next_sequence}
use Rattle.protocol.specs.Laws.{settlements, world, receives, good_receipt, bad_receipt, refund, good_receipts, badly_received, refunds, answer}
use Rattle.protocol.proofs.Bools.{bool_false, and_true, and_false, or_false}
use Rattle.protocol.proofs.Places.{place_hit, place_first}
use Rattle.protocol.proofs.Homes.{length_ends}
use Rattle.protocol.proofs.Good.{Sound, Key, no_key, key, on_lane, Good}
use Rattle.protocol.proofs.Grow.{on_lane_keys}
use Rattle.protocol.proofs.Marking.{mark_other, mark_here}
use Rattle.protocol.proofs.Views.{Clear, step_by, Stands, marked_at, receive_facts, ack_facts, timeout_facts}
use Rattle.protocol.proofs.Moves.{arrival_by}
use Rattle.protocol.proofs.Kept.{good_world}

-- a mark other than 1
abbrev pub is_bad : Option ℕ → Bool
is_bad None = false
is_bad (Some m) = not (eqb m 1)

-- of one packet: how often it was settled and whether it was badly received, told by its standing and mark
abbrev pub Told : World → (ℕ → ℕ → ℕ) → (ℕ → ℕ → Bool) → Packet → Type 0
Told w ev bd p =
    (ev p.lane p.sequence ≡ gate (not (is_open w p)) 1) × (bd p.lane p.sequence ≡ is_bad (mark_of w p))

-- no packet has this key
abbrev pub Unsent : List Packet → ℕ → ℕ → Type 0
Unsent ps i s = (q : ℕ) → q < length ps → key (get_or ps q no_packet) ≡ (i, s) → ⊥

-- of all keys: so of those that were sent, and nothing of the others
abbrev pub Tells : World → (ℕ → ℕ → ℕ) → (ℕ → ℕ → Bool) → Type 0
Tells w ev bd =
    ((q : ℕ) → q < length w.packets → Told w ev bd (get_or w.packets q no_packet)) ×
    ((i s : ℕ) → Unsent w.packets i s → (ev i s ≡ 0) × (bd i s ≡ false))

-- figures that are the same tell the same
tells_as :
    (w : World) (ev ev' : ℕ → ℕ → ℕ) (bd bd' : ℕ → ℕ → Bool) → ((i s : ℕ) → ev' i s ≡ ev i s) → ((i s : ℕ) → bd' i s ≡ bd i s) →
    Tells w ev bd → Tells w ev' bd'
tells_as w ev ev' bd bd' x y t = (
  λ q l.
      let p = get_or w.packets q no_packet in
      (x p.lane p.sequence ∙ (t.0 q l).0, y p.lane p.sequence ∙ (t.0 q l).1),
  λ i s h. (x i s ∙ (t.1 i s h).0, y i s ∙ (t.1 i s h).1),
)

-- two packets under one key are one
one_place :
    (w : World) → Good w → (q r : ℕ) → q < length w.packets → r < length w.packets →
    key (get_or w.packets q no_packet) ≡ key (get_or w.packets r no_packet) → q ≡ r
one_place w g q r l m e =
    g.numbered.distinct q r (rw (length-map w.packets key) l) (rw (length-map w.packets key) m)
    (get_or-map key w.packets q no_packet no_key l ∙ e ∙ sym (get_or-map key w.packets r no_packet no_key m))

-- a call about the key (i, s) is about no other
about_other : (i s : ℕ) (p : Packet) → (key p ≡ (i, s) → ⊥) → (eqb i p.lane && eqb s p.sequence) ≡ false
about_other i s p ne = bool_false (eqb i p.lane && eqb s p.sequence) (λ t.
    let b = and_parts (eqb i p.lane) (eqb s p.sequence) t in
    let x = eqb-true i p.lane b.0 in
    let y = eqb-true s p.sequence b.1 in
    ne (λ k. (sym x k, sym y k)))

-- a call about a packet's key is about it
about_this : (i s : ℕ) (p : Packet) → key p ≡ (i, s) → (eqb i p.lane && eqb s p.sequence) ≡ true
about_this i s p e =
    and_from (eqb i p.lane) (eqb s p.sequence) (eq-eqb i p.lane (ap (λ (k : Key). k.0) (sym e)))
    (eq-eqb s p.sequence (ap (λ (k : Key). k.1) (sym e)))

-- keys apart
about_key : (i s j r : ℕ) → (◌≡◌ {A = Key} (i, s) (j, r) → ⊥) → (eqb i j && eqb s r) ≡ false
about_key i s j r ne = bool_false (eqb i j && eqb s r) (λ t.
    let b = and_parts (eqb i j) (eqb s r) t in
    let x = eqb-true i j b.0 in
    let y = eqb-true s r b.1 in
    ne (λ k. (x k, y k)))

-- A packet once sent stays in its place; only its standing changes.

-- each packet is in its place, the same but for its standing
abbrev pub Stays : List Packet → List Packet → Type 0
Stays ps ps' =
    (q : ℕ) → q < length ps →
    (q < length ps') × (no_more_standing (get_or ps' q no_packet) ≡ no_more_standing (get_or ps q no_packet))

-- nothing changed
stays_same : (ps : List Packet) → Stays ps ps
stays_same ps q l = (l, refl)

-- a packet recorded behind
stays_push : (ps : List Packet) (p : Packet) → Stays ps (ps ++ p ∷ [])
stays_push ps p q l = (omega (arith, length_push ps p), ap no_more_standing (get_or_append_left ps (p ∷ []) no_packet q l))

-- a packet that ends
stays_set : (ps : List Packet) (r : ℕ) → r < length ps → Stays ps (set ps r (no_more_standing (get_or ps r no_packet)))
stays_set ps r m q l = (
  rw length-set l,
  ⊎_elim
      (λ e. subst (λ x. no_more_standing (get_or (set ps r (no_more_standing (get_or ps r no_packet))) x no_packet) ≡ no_more_standing (get_or ps x no_packet)) (sym e) (ap no_more_standing (get_or-set_same ps r (no_more_standing (get_or ps r no_packet)) no_packet m)))
      (λ ne. ap no_more_standing (get_or-set_other ps r q (no_more_standing (get_or ps r no_packet)) no_packet ne))
      (cases_eq q r),
)

-- One call

module _ (w : World) (g : Good w) (G R : ℕ → ℕ → ℕ) (B : ℕ → ℕ → Bool) (t : Tells w (λ i s. G i s + R i s) B) where
  -- what is told after a call with this answer
  abbrev After : Call → World × Answer → Type 0
  After c r =
      Tells
      r.0
      (λ i s. (G i s + gate (good_receipt i s c r.1) 1) + (R i s + gate (refund i s c r.1 (B i s)) 1))
      (λ i s. B i s || bad_receipt i s c r.1)

  -- a call that is not about packets
  quiet : (w' : World) → Tells w' (λ i s. G i s + R i s) B → Tells w' (λ i s. (G i s + 0) + (R i s + 0)) (λ i s. B i s || false)
  quiet w' = tells_as w' (λ i s. G i s + R i s) (λ i s. (G i s + 0) + (R i s + 0)) B (λ i s. B i s || false) (λ i s. omega arith) (λ i s. or_false (B i s))

  -- a refused call tells nothing new
  tells_refused : (c : Call) (n : ℕ) → After c (w, no n)
  tells_refused c n =
      tells_as w (λ i s. G i s + R i s) (λ i s. (G i s + gate (good_receipt i s c (no n)) 1) + (R i s + 0)) B
      (λ i s. B i s || bad_receipt i s c (no n))
      (λ i s. omega (arith, ap (λ x. gate x 1) (and_false (receives i s c))))
      (λ i s. ap (λ x. B i s || x) (and_false (receives i s c)) ∙ or_false (B i s))
      t

  -- a link opened leaves all marks
  tells_open : (a b : ℕ) (k : Bool) → Tells (outcome w (open_link a b k)).0 (λ i s. G i s + R i s) B
  tells_open a b k = (
    λ q l.
        let p = get_or w.packets q no_packet in
        let so = All-get_or (Sound w.links w.register) w.packets q no_packet l g.sound in
        let half : p.lane / 2 < length w.links = omega (arith, so.lane_in, length_ends w.links) in
        let ms : List Link = record { end₀ = end_at a (lowest_unused w.links a); end₁ = end_at b (lowest_unused w.links b); kind = k } ∷ [] in
        let e : mark_of w p ≡ mark_of (outcome w (open_link a b k)).0 p =
        ap (λ (y : Link). (w.books y.kind).mark p.lane p.sequence)
        (sym (get_or_append_left w.links ms no_link (p.lane / 2) half)) in
        ((t.0 q l).0 ∙ ap (λ o. gate (not (p.standing && not (is_one o))) 1) e, (t.0 q l).1 ∙ ap is_bad e),
    t.1,
  )

  -- a packet sent is not settled, since its key is new
  tells_send :
      (c k u v : ℕ) (e : Denom) (n T : ℕ) → Tells (outcome w (send c k u v e n T)).0 (λ i s. G i s + R i s) B
  tells_send c k u v e n T = (
    λ q l. ⊎_elim (old q) (last q l) (cases_lt q (length w.packets)),
    λ i s h.
        t.1 i s (λ q l x.
        h q (omega (arith, length_push w.packets p)) (ap key (get_or_append_left w.packets (p ∷ []) no_packet q l) ∙ x)),
  )
    where
      p : Packet
      p = sent_packet w c k u v e n T

      i : ℕ
      i = lane_out w.links c k

      This : Packet → Type 0
      This = Told w (λ i s. G i s + R i s) B

      old : (q : ℕ) → q < length w.packets → This (get_or (w.packets ++ p ∷ []) q no_packet)
      old q l = subst This (sym (get_or_append_left w.packets (p ∷ []) no_packet q l)) (t.0 q l)

      none : (kd : Bool) → (w.books kd).mark i (next_sequence w i) ≡ None
      none kd = g.numbered.fresh kd i (next_sequence w i) (omega (arith, on_lane_keys i w.packets))

      fresh_key : Unsent w.packets i (next_sequence w i)
      fresh_key q l x =
          let m : q < length (map key w.packets) = rw (length-map w.packets key) l in
          let is : get_or (map key w.packets) q no_key ≡ (i, next_sequence w i) = get_or-map key w.packets q no_packet no_key l ∙ x in
          let up : next_sequence w i ≤ on_lane i (map key w.packets) =
          subst (λ (y : Key). y.1 ≤ on_lane y.0 (map key w.packets)) is (g.numbered.upto q m) in
          omega (arith, on_lane_keys i w.packets)

      new : This p
      new =
          let z = t.1 i (next_sequence w i) fresh_key in
          (z.0 ∙ ap (λ o. gate (not (true && not (is_one o))) 1) (sym (none (link_kind w i))), z.1 ∙ ap is_bad (sym (none (link_kind w i))))

      last : (q : ℕ) → q < length (w.packets ++ p ∷ []) → length w.packets ≤ q → This (get_or (w.packets ++ p ∷ []) q no_packet)
      last q l m = subst This (sym (get_or_push w.packets p no_packet q (omega (arith, length_push w.packets p)))) new

  -- a receive that writes the mark m
  module _ (l d s m : ℕ) (st : Stands w (lane l d) s) (none : mark_at w (lane l d) s ≡ None) where
    -- whether it is about this key
    abbrev about : ℕ → ℕ → Bool
    about j r = eqb (lane l d) j && eqb s r

    -- what is told of a packet after it
    abbrev Marked : Packet → Type 0
    Marked =
        Told
        (mark_written w (lane l d) s m)
        (λ j r. (G j r + gate (about j r && eqb m 1) 1) + (R j r + 0))
        (λ j r. B j r || (about j r && not (eqb m 1)))

    not_not : (b : Bool) → not (not b) ≡ b
    not_not true = refl
    not_not false = refl

    -- the packet that it is about
    marked_here : Marked (packet_at w (lane l d) s)
    marked_here =
        let p = packet_at w (lane l d) s in
        let was = marked_at w (lane l d) s st ∙ none in
        let a = about_this (lane l d) s p st.key_is in
        let o = t.0 (packet_place w (lane l d) s) st.place_in in
        let open_was : gate (not (is_open w p)) 1 ≡ 0 = ap₂ (λ x y. gate (not (x && not (is_one y))) 1) st.standing was in
        let mk = mark_here w (lane l d) s m p st.key_is in
        let open_is : gate (not (is_open (mark_written w (lane l d) s m) p)) 1 ≡ gate (eqb m 1) 1 =
        ap₂ (λ x y. gate (not (x && not (is_one y))) 1) st.standing mk ∙ ap (λ x. gate x 1) (not_not (eqb m 1)) in
        let bad-was : B p.lane p.sequence ≡ false = o.1 ∙ ap is_bad was in (
          omega (arith, o.0, open_was, open_is, ap (λ x. gate (x && eqb m 1) 1) a),
          ap₂ (λ x y. x || (y && not (eqb m 1))) bad-was a ∙ ap is_bad (sym mk),
        )

    -- every other
    marked_other : (q : ℕ) → q < length w.packets → (q ≡ packet_place w (lane l d) s → ⊥) → Marked (get_or w.packets q no_packet)
    marked_other q h ne =
        let p = get_or w.packets q no_packet in
        let k : key p ≡ (lane l d, s) → ⊥ = λ x. ne (one_place w g q (packet_place w (lane l d) s) h st.place_in (x ∙ sym st.key_is)) in
        let a = about_other (lane l d) s p k in
        let mk = mark_other w (lane l d) s m p k in
        let o = t.0 q h in (
          omega (arith, o.0, ap (λ x. gate (not (p.standing && not (is_one x))) 1) mk, ap (λ x. gate (x && eqb m 1) 1) a),
          ap (λ x. B p.lane p.sequence || (x && not (eqb m 1))) a ∙ or_false (B p.lane p.sequence) ∙ o.1 ∙ ap is_bad (sym mk),
        )

    -- all keys
    tells_mark : After (receive l d s) (mark_written w (lane l d) s m, says m)
    tells_mark = (
      λ q h.
          ⊎_elim
          (λ e. subst (λ x. Marked (get_or w.packets x no_packet)) (sym e) marked_here)
          (marked_other q h)
          (cases_eq q (packet_place w (lane l d) s)),
      λ j r h.
          let a : about j r ≡ false = about_key (lane l d) s j r (λ x. h (packet_place w (lane l d) s) st.place_in (st.key_is ∙ x)) in (
            omega (arith, ap (λ x. gate (x && eqb m 1) 1) a, (t.1 j r h).0),
            ap₂ (λ x y. x || (y && not (eqb m 1))) (t.1 j r h).1 a,
          ),
    )

  -- a call that ends a packet: it is a refund of that key where `counts` says so
  module _ (i s : ℕ) (counts : Bool → Bool) (st : Stands w i s)
      (one : gate (not (is_open w (packet_at w i s))) 1 + gate (counts (B (packet_at w i s).lane (packet_at w i s).sequence)) 1 ≡ 1) where
    -- the packets with this one ended
    abbrev rest : List Packet
    rest = set w.packets (packet_place w i s) (no_more_standing (packet_at w i s))

    -- what is told of a packet after it
    abbrev Ended : Packet → Type 0
    Ended = Told w (λ j r. (G j r + 0) + (R j r + gate ((eqb i j && eqb s r) && counts (B j r)) 1)) (λ j r. B j r || false)

    -- the packet that it is about
    ended_here : Ended (get_or rest (packet_place w i s) no_packet)
    ended_here =
        let p = packet_at w i s in
        let o = t.0 (packet_place w i s) st.place_in in
        let a = about_this i s p st.key_is in
        let b : gate ((eqb i p.lane && eqb s p.sequence) && counts (B p.lane p.sequence)) 1 ≡ gate (counts (B p.lane p.sequence)) 1 =
        ap (λ x. gate (x && counts (B p.lane p.sequence)) 1) a in
        let r : Ended (no_more_standing p) = (omega (arith, o.0, one, b), or_false (B p.lane p.sequence) ∙ o.1) in
        subst Ended (sym (get_or-set_same w.packets (packet_place w i s) (no_more_standing p) no_packet st.place_in)) r

    -- every other
    ended_other : (q : ℕ) → q < length w.packets → (q ≡ packet_place w i s → ⊥) → Ended (get_or rest q no_packet)
    ended_other q h ne =
        let p = get_or w.packets q no_packet in
        let k : key p ≡ (i, s) → ⊥ = λ x. ne (one_place w g q (packet_place w i s) h st.place_in (x ∙ sym st.key_is)) in
        let a = about_other i s p k in
        let o = t.0 q h in
        let r : Ended p =
        (omega (arith, o.0, ap (λ x. gate (x && counts (B p.lane p.sequence)) 1) a), or_false (B p.lane p.sequence) ∙ o.1) in
        subst Ended (sym (get_or-set_other w.packets (packet_place w i s) q (no_more_standing (packet_at w i s)) no_packet ne)) r

    -- keys stay
    key_stays : (q : ℕ) → q < length w.packets → key (get_or rest q no_packet) ≡ key (get_or w.packets q no_packet)
    key_stays q l = ap key (stays_set w.packets (packet_place w i s) st.place_in q l).1

    -- all keys
    tells_ended :
        Tells
        (ended w (packet_place w i s))
        (λ j r. (G j r + 0) + (R j r + gate ((eqb i j && eqb s r) && counts (B j r)) 1))
        (λ j r. B j r || false)
    tells_ended = (
      λ q h.
          ⊎_elim
          (λ e. subst (λ x. Ended (get_or rest x no_packet)) (sym e) ended_here)
          (ended_other q (rw length-set at h))
          (cases_eq q (packet_place w i s)),
      λ j r h.
          let u : Unsent w.packets j r = λ q l x. h q (rw length-set l) (key_stays q l ∙ x) in
          let a : (eqb i j && eqb s r) ≡ false = about_key i s j r (λ x. u (packet_place w i s) st.place_in (st.key_is ∙ x)) in
          (omega (arith, (t.1 j r u).0, ap (λ x. gate (x && counts (B j r)) 1) a), or_false (B j r) ∙ (t.1 j r u).1),
    )

  -- every call
  tells_outcome : (c : Call) → Clear (refusals w c) → After c (outcome w c)
  tells_outcome (open_link a b k) h = quiet (outcome w (open_link a b k)).0 (tells_open a b k)
  tells_outcome (issue c u s n) h = quiet (outcome w (issue c u s n)).0 t
  tells_outcome (retire c u e n) h = quiet (outcome w (retire c u e n)).0 t
  tells_outcome (pay c u v e n) h = quiet (outcome w (pay c u v e n)).0 t
  tells_outcome (send c k u v e n T) h = quiet (outcome w (send c k u v e n T)).0 (tells_send c k u v e n T)
  tells_outcome (receive l d s) h =
      let f = receive_facts w l d s h in
      let m = arrival_mark w (packet_at w (lane l d) s) in
      let r = tells_mark l d s m f.0 f.1 in
      arrival_by w (packet_at w (lane l d) s) (λ x. After (receive l d s) (mark_written x (lane l d) s m, says m)) (λ _. r) (λ _ _. r) (λ _ _. r)
  tells_outcome (ack l d s) h = go (is_one (mark_at w (lane l d) s))
    where
      one :
          (o : Option ℕ) (x : Bool) → is_some o ≡ true → x ≡ is_bad o → gate (not (true && not (is_one o))) 1 + gate x 1 ≡ 1
      one None x e y = absurd (both_ways false refl e)
      one (Some m) x e y = split (eqb m 1) y
        where
          split : (b : Bool) → x ≡ not b → gate (not (true && not b)) 1 + gate x 1 ≡ 1
          split true z = omega (arith, ap (λ y. gate y 1) z)
          split false z = omega (arith, ap (λ y. gate y 1) z)

      r :
          Tells
          (ended w (packet_place w (lane l d) s))
          (λ j r. (G j r + 0) + (R j r + gate ((eqb (lane l d) j && eqb s r) && B j r) 1))
          (λ j r. B j r || false)
      r =
          let p = packet_at w (lane l d) s in
          let some : is_some (mark_of w p) ≡ true = ap is_some (marked_at w (lane l d) s (ack_facts w l d s h).0) ∙ (ack_facts w l d s h).1 in
          tells_ended (lane l d) s (λ x. x) (ack_facts w l d s h).0
          (ap (λ y. gate (not (y && not (is_one (mark_of w p)))) 1 + gate (B p.lane p.sequence) 1) (ack_facts w l d s h).0.standing ∙
          one (mark_of w p) (B p.lane p.sequence) some (t.0 (packet_place w (lane l d) s) (ack_facts w l d s h).0.place_in).1)

      go : (b : Bool) → After (ack l d s) (ended (cond b w (refunded w (packet_at w (lane l d) s))) (packet_place w (lane l d) s), done)
      go true = r
      go false = r
  tells_outcome (timeout l d s) h =
      let f = timeout_facts w l d s h in
      let p = packet_at w (lane l d) s in
      let none : mark_of w p ≡ None = marked_at w (lane l d) s f.0 ∙ f.1 in
      let w' = (outcome w (timeout l d s)).0 in
      let e = tells_ended (lane l d) s (λ _. true) f.0 (ap₂ (λ x y. gate (not (x && not (is_one y))) 1 + 1) f.0.standing none) in
      tells_as w' (λ j r. (G j r + 0) + (R j r + gate ((eqb (lane l d) j && eqb s r) && true) 1))
      (λ j r. (G j r + 0) + (R j r + gate ((eqb (lane l d) j && eqb s r) || false) 1)) (λ j r. B j r || false) (λ j r. B j r || false)
      (λ j r. ap (λ x. (G j r + 0) + (R j r + gate x 1)) (or_false (eqb (lane l d) j && eqb s r) ∙ sym (and_true (eqb (lane l d) j && eqb s r)))) (λ j r. refl) e
  tells_outcome (tick c n) h = quiet (outcome w (tick c n)).0 t
  tells_outcome (bar c u) h = quiet (outcome w (bar c u)).0 t
  tells_outcome (unbar c u) h = quiet (outcome w (unbar c u)).0 t
  tells_outcome (home c e) h = quiet w t

module _ (l : Ledger) (bs : Bool → Book) where
  -- at every moment the settlements of a packet are told by its standing and mark
  pub tells_world :
      (past : List Call) →
      Tells (world l bs past) (λ i s. settlements l bs i s past) (λ i s. badly_received l bs i s past)
  tells_world [] = (λ q h. absurd (omega arith), λ i s h. (refl, refl))
  tells_world (c ∷ past) =
      let w = world l bs past in
      let G : ℕ → ℕ → ℕ = λ i s. good_receipts l bs i s past in
      let R : ℕ → ℕ → ℕ = λ i s. refunds l bs i s past in
      let B : ℕ → ℕ → Bool = λ i s. badly_received l bs i s past in
      step_by w c (After w (good_world l bs past) G R B (tells_world past) c) (tells_refused w (good_world l bs past) G R B (tells_world past) c)
      (tells_outcome w (good_world l bs past) G R B (tells_world past) c)

-- every call
stays_outcome : (w : World) (c : Call) → Clear (refusals w c) → Stays w.packets (outcome w c).0.packets
stays_outcome w (open_link a b k) h = stays_same w.packets
stays_outcome w (issue c u s n) h = stays_same w.packets
stays_outcome w (retire c u e n) h = stays_same w.packets
stays_outcome w (pay c u v e n) h = stays_same w.packets
stays_outcome w (send c k u v e n t) h = stays_push w.packets (sent_packet w c k u v e n t)
stays_outcome w (receive l d s) h =
    let r = stays_same w.packets in
    arrival_by w (packet_at w (lane l d) s) (λ x. Stays w.packets x.packets) (λ _. r) (λ _ _. r) (λ _ _. r)
stays_outcome w (ack l d s) h = go (is_one (mark_at w (lane l d) s))
  where
    r : Stays w.packets (ended w (packet_place w (lane l d) s)).packets
    r = stays_set w.packets (packet_place w (lane l d) s) (ack_facts w l d s h).0.place_in

    go : (b : Bool) → Stays w.packets (ended (cond b w (refunded w (packet_at w (lane l d) s))) (packet_place w (lane l d) s)).packets
    go true = r
    go false = r
stays_outcome w (timeout l d s) h = stays_set w.packets (packet_place w (lane l d) s) (timeout_facts w l d s h).0.place_in
stays_outcome w (tick c n) h = stays_same w.packets
stays_outcome w (bar c u) h = stays_same w.packets
stays_outcome w (unbar c u) h = stays_same w.packets
stays_outcome w (home c e) h = stays_same w.packets

module _ (l : Ledger) (bs : Bool → Book) where
  -- from any moment to any later one
  pub stays_world : (later past : List Call) → Stays (world l bs past).packets (world l bs (later ++ past)).packets
  stays_world [] past = stays_same (world l bs past).packets
  stays_world (c ∷ later) past = λ q h.
      let a = stays_world later past q h in
      let b = one (world l bs (later ++ past)) q a.0 in
      (b.0, b.1 ∙ a.1)
    where
      one : (w : World) → Stays w.packets (step w c).0.packets
      one w = step_by w c (λ r. Stays w.packets r.0.packets) (λ _. stays_same w.packets) (stays_outcome w c)

  -- an accepted send has its packet from then on
  sent_there :
      (w : World) (c k u v : ℕ) (e : Denom) (n t s : ℕ) → (step w (send c k u v e n t)).1 ≡ says s →
      (q : ℕ) × (q < length (step w (send c k u v e n t)).0.packets) ×
      (key (get_or (step w (send c k u v e n t)).0.packets q no_packet) ≡ (lane_out w.links c k, s))
  sent_there w c k u v e n t s =
      step_by w (send c k u v e n t)
      (λ r. r.1 ≡ says s → (q : ℕ) × (q < length r.0.packets) × (key (get_or r.0.packets q no_packet) ≡ (lane_out w.links c k, s)))
      (λ m x. absurd (let z : ◌≡◌ {A = ℕ} 0 1 = cc in omega arith))
      (λ h x.
      let p = sent_packet w c k u v e n t in
      let y : next_sequence w (lane_out w.links c k) ≡ s = cc in (
        length w.packets,
        omega (arith, length_push w.packets p),
        ap key (get_or_push w.packets p no_packet (length w.packets) refl) ∙ (λ j. (lane_out w.links c k, y j)),
      ))

-- the packet of an accepted send is settled at most once, and not at all exactly while it is open
pub settled_once :
    (l : Ledger) (bs : Bool → Book) (c k u v : ℕ) (e : Denom) (n t s : ℕ) (later past : List Call) →
    answer l bs (send c k u v e n t) past ≡ says s →
    let i = lane_out (world l bs past).links c k in
    let whole = later ++ send c k u v e n t ∷ past in
    let w = world l bs whole in
    (settlements l bs i s whole ≤ 1) × (settlements l bs i s whole ≡ 0 ↔ is_open w (packet_at w i s) ≡ true)
settled_once l bs c k u v e n t s later past x =
    let w₀ = world l bs past in
    let i = lane_out w₀.links c k in
    let whole = later ++ send c k u v e n t ∷ past in
    let w = world l bs whole in
    let a = sent_there l bs w₀ c k u v e n t s x in
    let b = stays_world l bs later (send c k u v e n t ∷ past) a.0 a.1 in
    let is : key (get_or w.packets a.0 no_packet) ≡ (i, s) = ap key b.1 ∙ a.2 in
    let test : Packet → Bool = λ p. eqb p.lane i && eqb p.sequence s in
    let hit : test (get_or w.packets a.0 no_packet) ≡ true =
    and_from (eqb (get_or w.packets a.0 no_packet).lane i) (eqb (get_or w.packets a.0 no_packet).sequence s)
    (eq-eqb (get_or w.packets a.0 no_packet).lane i (ap (λ (y : Key). y.0) is))
    (eq-eqb (get_or w.packets a.0 no_packet).sequence s (ap (λ (y : Key). y.1) is)) in
    let le = place_first test w.packets a.0 no_packet b.0 hit in
    let lt : packet_place w i s < length w.packets = omega (arith, b.0) in
    let found' = place_hit test w.packets no_packet lt in
    let ps = and_parts (eqb (packet_at w i s).lane i) (eqb (packet_at w i s).sequence s) found' in
    let at : settlements l bs (packet_at w i s).lane (packet_at w i s).sequence whole ≡ settlements l bs i s whole =
    ap₂ (λ x y. settlements l bs x y whole) (eqb-true (packet_at w i s).lane i ps.0) (eqb-true (packet_at w i s).sequence s ps.1) in
    finish (is_open w (packet_at w i s)) (settlements l bs i s whole) (sym at ∙ ((tells_world l bs whole).0 (packet_place w i s) lt).0)
  where
    finish : (b : Bool) (m : ℕ) → m ≡ gate (not b) 1 → (m ≤ 1) × ((m ≡ 0 → b ≡ true) × (b ≡ true → m ≡ 0))
    finish true m h = (omega arith, ((λ _. refl), (λ _. h)))
    finish false m h = (omega arith, ((λ z. absurd (omega arith)), (λ z. absurd (both_ways false refl z))))

-- What looking for a packet on a route tells.
use Rattle.std.proofs.Common.{◌≡◌, ℕ, Bool, true, false, not, ◌&&◌, ◌||◌, eqb, ltb, leb, [], ◌∷◌, length, get_or, is_some, Some, Ok, Err, Option, sym, ap, ◌∙◌, arith, ltb-true}
use Rattle.std.specs.Option.{option_map}
use Rattle.std.proofs.lemmas.Bool.{eqb-true, and_parts}
use Rattle.std.proofs.lemmas.Bool.Decides.{nat_tests}
use Rattle.register.specs.Keys.{number_of, found}
use Rattle.protocol.specs.declared.marks.Mark.{Mark}
use Rattle.protocol.specs.Book.{Book, mark_number, marked, lower_marked}
use Rattle.protocol.specs.declared.faults.WorldFault.{WorldFault}
use Rattle.protocol.specs.Faults.{world_number}
use Rattle.protocol.specs.Refusals.{first, ◌when◌}
use Rattle.protocol.specs.World.{World, End, lane, book_of, is_strict}
use Rattle.protocol.specs.World as protocol
use Rattle.protocol.specs.Calls.{receive, refusals, packet_at, packet_place, no_packet, passed, lower_stands}
use Rattle.protocol.proofs.Places.{place_hit}
use Rattle.tables.specs.declared.types.Packet.{Packet}
use Rattle.tables.specs.declared.types.Route.{Route}
use Rattle.tables.specs.declared.types.Event.TheVariants.{Receipt}
use Rattle.tables.specs.declared.types.Effect.{Effect}
use Rattle.world.specs.Receiving.{Receivable}
use Rattle.tables.specs.Packets.{is_packet, stands_below, packet_step}
use Rattle.tables.specs.Routes.{Leads}
use Rattle.world.specs.Looking.{Looked}
use Rattle.tables.specs.View.{packet_view}
use Rattle.tables.proofs.Kept.{number_some}
use Rattle.world.proofs.Steps.{some_mapped, after_step, receipt_step, arrives_unmarked}

module _ (w : World) (l d s : ℕ) (q : Route) (leads : Leads w.links w.closed l d q) where
  -- the look was on the lane
  on_its_lane : (o : Option ℕ) → o ≡ number_of (is_packet q.lane s) w.packets → number_of (is_packet (lane l d) s) w.packets ≡ o
  on_its_lane o e = ap (λ i. number_of (is_packet i s) w.packets) (sym leads.lane_is) ∙ sym e

  pub looked : (n : ℕ) (p : Packet) → Some n ≡ number_of (is_packet q.lane s) w.packets → packet_view p ≡ get_or w.packets n no_packet → Looked w l d s n p
  looked n p e is =
      let at = number_some (is_packet (lane l d) s) w.packets n (on_its_lane (Some n) e) in
      let same : packet_view p ≡ packet_at w (lane l d) s = is ∙ ap (λ m. get_or w.packets m no_packet) (sym at.1) in
      let hit = place_hit (is_packet (lane l d) s) w.packets no_packet (ltb-true (packet_place w (lane l d) s) (length w.packets) at.0) in
      let both = and_parts _ _ hit in
      record {
        has = at.0;
        place_is = sym at.1;
        packet = same;
        on_lane = ap (λ (r : protocol.Packet). r.lane) same ∙ eqb-true _ _ both.0;
        numbered = ap (λ (r : protocol.Packet). r.sequence) same ∙ eqb-true _ _ both.1;
      }

  -- what the code has of the heights and of the book, in the words of the world
  pub height_passed : (t : ℕ) (x : Bool) → x ≡ (not (eqb t 0) && leb t (w.height q.far.chain)) → passed w (lane l d) t ≡ x
  height_passed t x e = ap (λ (f : End). not (eqb t 0) && leb t (w.height f.chain)) (sym leads.far) ∙ sym e

  book_same : w.books (is_strict q.kind) ≡ book_of w (lane l d)
  book_same = ap w.books leads.kind

  pub mark_same : (mk : Option Mark) → option_map mark_number mk ≡ (w.books (is_strict q.kind)).mark q.lane s → option_map mark_number mk ≡ (book_of w (lane l d)).mark (lane l d) s
  mark_same mk e = e ∙ (λ i. (book_same i).mark (leads.lane_is i) s)

  pub marked_same : (mk : Option Mark) → option_map mark_number mk ≡ (w.books (is_strict q.kind)).mark q.lane s → marked (book_of w (lane l d)) (lane l d) s ≡ is_some mk
  marked_same mk e = sym (ap is_some (mark_same mk e)) ∙ some_mapped mk

  pub strict_same : (b : Bool) → b ≡ (w.books (is_strict q.kind)).strict → (book_of w (lane l d)).strict ≡ b
  strict_same b e = sym (e ∙ ap (λ (k : Book). k.strict) book_same)

  pub lower_same : (b : Bool) → b ≡ found (stands_below q.lane s) w.packets → lower_stands w (lane l d) s ≡ b
  lower_same b e = sym (e ∙ ap (λ i. found (stands_below i s) w.packets) leads.lane_is)

  pub waits_same :
      (b : Bool) → b ≡ ((w.books (is_strict q.kind)).strict && not (lower_marked (w.books (is_strict q.kind)) q.lane s)) →
      ((book_of w (lane l d)).strict && not (lower_marked (book_of w (lane l d)) (lane l d) s)) ≡ b
  waits_same b e = sym (e ∙ (λ i. (book_same i).strict && not (lower_marked (book_same i) (leads.lane_is i) s)))

  -- the refusals of a receipt, up to the packet's step and from there on
  pub receipt_left :
      (n : ℕ) (p : Packet) (x : Bool) (mk : Option Mark) → Looked w l d s n p → w.closed l ≡ false → passed w (lane l d) p.timeout ≡ x →
      marked (book_of w (lane l d)) (lane l d) s ≡ is_some mk →
      first (refusals w (receive l d s)) ≡
      after_step (packet_step p.standing (Receipt x) mk) (first (26 when ((book_of w (lane l d)).strict && not (lower_marked (book_of w (lane l d)) (lane l d) s)) ∷ []))
  receipt_left n p x mk at alive early mark =
      let rest = 26 when ((book_of w (lane l d)).strict && not (lower_marked (book_of w (lane l d)) (lane l d) s)) ∷ [] in
      let standing = ap (λ (r : protocol.Packet). r.standing) (sym at.packet) in
      let early' = ap (λ (r : protocol.Packet). passed w (lane l d) r.timeout) (sym at.packet) ∙ early in
      (λ i. first (11 when not (leads.there i) ∷ 16 when alive i ∷ 18 when not (at.has i) ∷ 19 when not (standing i) ∷ 20 when early' i ∷ 25 when mark i ∷ rest))
      ∙ receipt_step p.standing x mk rest

  -- the refusal of the step is the receipt's, and a packet that arrives may wait for a lower one
  pub receipt_stopped :
      (n : ℕ) (p : Packet) (x : Bool) (mk : Option Mark) (f : WorldFault) → Looked w l d s n p → w.closed l ≡ false → passed w (lane l d) p.timeout ≡ x →
      marked (book_of w (lane l d)) (lane l d) s ≡ is_some mk → Err f ≡ packet_step p.standing (Receipt x) mk →
      first (refusals w (receive l d s)) ≡ Some (world_number f)
  receipt_stopped n p x mk f at alive early mark stops =
      receipt_left n p x mk at alive early mark
      ∙ (λ i. after_step (sym stops i) (first (26 when ((book_of w (lane l d)).strict && not (lower_marked (book_of w (lane l d)) (lane l d) s)) ∷ [])))

  pub receipt_waits :
      (n : ℕ) (p : Packet) (x : Bool) (mk : Option Mark) (e : Effect) → Looked w l d s n p → w.closed l ≡ false → passed w (lane l d) p.timeout ≡ x →
      marked (book_of w (lane l d)) (lane l d) s ≡ is_some mk → Ok e ≡ packet_step p.standing (Receipt x) mk →
      ((book_of w (lane l d)).strict && not (lower_marked (book_of w (lane l d)) (lane l d) s)) ≡ true →
      first (refusals w (receive l d s)) ≡ Some 26
  receipt_waits n p x mk e at alive early mark arrives waits =
      receipt_left n p x mk at alive early mark ∙ (λ i. after_step (sym arrives i) (first (26 when waits i ∷ [])))

  -- a packet that arrives and waits for none is received, and its book takes the mark
  pub receivable :
      (n : ℕ) (p : Packet) (x : Bool) (mk : Option Mark) (e : Effect) → Looked w l d s n p → w.closed l ≡ false → passed w (lane l d) p.timeout ≡ x →
      marked (book_of w (lane l d)) (lane l d) s ≡ is_some mk → Ok e ≡ packet_step p.standing (Receipt x) mk →
      ((book_of w (lane l d)).strict && not (lower_marked (book_of w (lane l d)) (lane l d) s)) ≡ false →
      Receivable w l d s q p
  receivable n p x mk e at alive early mark arrives turn =
      let low : leb 32 (lane l d) ≡ false = grind (arith, nat_tests, leads.low) in
      let first_one = p.first in
      let last_one = p.last in
      let named = at.numbered in
      let within : (eqb s 0 || ltb 512 s) ≡ false = grind (arith, nat_tests) in
      let fresh = mark ∙ arrives_unmarked p.standing x mk e arrives in
      record {
        clear =
            receipt_left n p x mk at alive early mark
            ∙ (λ i. after_step (sym arrives i) (first (26 when turn i ∷ [])));
        admitted = λ i. first (11 when low i ∷ 18 when within i ∷ 25 when fresh i ∷ 26 when turn i ∷ []);
        leads = leads;
        packet = at.packet;
        on_lane = at.on_lane;
      }

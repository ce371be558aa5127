-- Acknowledgements and timeouts in the words of the world, from what look, step and refund said.
use Rattle.std.proofs.Common.{◌≡◌, ℕ, ◌<◌, Bool, true, false, not, ◌&&◌, ◌||◌, List, [], ◌∷◌, length, is_some, Some, None, Ok, Err, Option, Result, sym, refl, ap, ◌∙◌, arith}
use Rattle.std.proofs.lemmas.Bool.Decides.{nat_tests}
use Rattle.std.specs.Option.{option_map}
use Rattle.protocol.specs.declared.marks.Mark.{Mark}
use Rattle.protocol.specs.declared.marks.Mark.TheVariants.{Good, TooManyHops, RegisterFull, LedgerRefused}
use Rattle.protocol.specs.declared.faults.WorldFault.{WorldFault}
use Rattle.protocol.specs.Faults.{told_by, world_number}
use Rattle.protocol.specs.Refusals.{Refusal, ◌when◌, first, unless_refused, left_by}
use Rattle.protocol.specs.Book.{marked, is_one, mark_number}
use Rattle.protocol.specs.World.{World, lane, near, from_end, book_of, mark_at, is_strict}
use Rattle.protocol.specs.World as protocol
use Rattle.protocol.specs.Calls.{Call, Answer, done, ack, timeout, refusals, outcome, step, said, packet_at, packet_place, passed, lower_stands, refund_refused, refunded, ended}
use Rattle.tables.specs.declared.types.Effect.{Effect}
use Rattle.tables.specs.declared.types.Effect.TheVariants.{Arrives, Ends, EndsWithRefund}
use Rattle.tables.specs.declared.types.Event.TheVariants.{Acknowledgement, Timeout}
use Rattle.tables.specs.declared.types.Packet.{Packet}
use Rattle.tables.specs.declared.types.Route.{Route}
use Rattle.tables.specs.declared.types.Standing.{Standing}
use Rattle.tables.specs.declared.types.Standing.TheVariants.{Stands, Ended}
use Rattle.tables.specs.Packets.{packet_step}
use Rattle.world.specs.Settling.{refund_refused_at, refunded_at, goes_back, closed_if, On, Acknowledgeable, Expired}
use Rattle.tables.specs.View.{end_view, packet_view}
use Rattle.world.proofs.Steps.{after_step, acknowledgement_step, timeout_step}
use Rattle.world.proofs.Verdicts.{refused_by, accepted}

-- the refusals of an acknowledgement after those of the look
abbrev pub ack_rest : World → ℕ → ℕ → ℕ → List Refusal
ack_rest w l d s =
    19 when not (packet_at w (lane l d) s).standing
    ∷ 27 when not (marked (book_of w (lane l d)) (lane l d) s)
    ∷ 29 when ((book_of w (lane l d)).strict && lower_stands w (lane l d) s)
    ∷ 34 when (not (is_one (mark_at w (lane l d) s)) && refund_refused w (packet_at w (lane l d) s))
    ∷ []

-- those of a timeout
abbrev pub timeout_rest : World → ℕ → ℕ → ℕ → List Refusal
timeout_rest w l d s =
    19 when not (packet_at w (lane l d) s).standing
    ∷ 21 when (not (w.closed l) && not (passed w (lane l d) (packet_at w (lane l d) s).timeout))
    ∷ 28 when marked (book_of w (lane l d)) (lane l d) s
    ∷ 34 when refund_refused w (packet_at w (lane l d) s)
    ∷ []

neither : (a b : Bool) → (not a && not b) ≡ not (a || b)
neither true b = refl
neither false b = refl

not_not : (b : Bool) → not (not b) ≡ b
not_not true = refl
not_not false = refl

-- an acknowledgement sends the amount back unless the mark is good
goes_back_unless_good : (st : Standing) (x : Bool) (mk : Option Mark) (e : Effect) → Ok e ≡ packet_step st (Acknowledgement x) mk → is_one (option_map mark_number mk) ≡ not (goes_back e)
goes_back_unless_good Ended x mk e h = let z : ◌≡◌ {A = ℕ} 0 1 = cc in absurd (omega arith)
goes_back_unless_good Stands x None e h = let z : ◌≡◌ {A = ℕ} 0 1 = cc in absurd (omega arith)
goes_back_unless_good Stands true (Some m) e h = let z : ◌≡◌ {A = ℕ} 0 1 = cc in absurd (omega arith)
goes_back_unless_good Stands false (Some Good) e h = let same : Ends ≡ e = cc in ap (λ (y : Effect). not (goes_back y)) same
goes_back_unless_good Stands false (Some TooManyHops) e h = let same : EndsWithRefund ≡ e = cc in ap (λ (y : Effect). not (goes_back y)) same
goes_back_unless_good Stands false (Some RegisterFull) e h = let same : EndsWithRefund ≡ e = cc in ap (λ (y : Effect). not (goes_back y)) same
goes_back_unless_good Stands false (Some LedgerRefused) e h = let same : EndsWithRefund ≡ e = cc in ap (λ (y : Effect). not (goes_back y)) same

module _ (w : World) (l d s : ℕ) (q : Route) (n : ℕ) (p : Packet) (on : On w l d s q n p) where
  abbrev pk : protocol.Packet
  pk = packet_at w (lane l d) s

  standing_is : pk.standing ≡ (packet_view p).standing
  standing_is = ap (λ (r : protocol.Packet). r.standing) (sym on.look.packet)

  near_is : end_view q.near ≡ near w pk
  near_is =
      on.leads.near
      ∙ ap (from_end w.links) (sym on.look.on_lane ∙ ap (λ (r : protocol.Packet). r.lane) on.look.packet)

  -- the refusals up to the packet's step and from there on
  pub ack_left :
      (x : Bool) (mk : Option Mark) → marked (book_of w (lane l d)) (lane l d) s ≡ is_some mk → ((book_of w (lane l d)).strict && lower_stands w (lane l d) s) ≡ x →
      first (refusals w (ack l d s)) ≡
      after_step (packet_step p.standing (Acknowledgement x) mk) (first (34 when (not (is_one (mark_at w (lane l d) s)) && refund_refused w pk) ∷ []))
  ack_left x mk mark blocked =
      let rest = 34 when (not (is_one (mark_at w (lane l d) s)) && refund_refused w pk) ∷ [] in
      (λ i. first (11 when not (on.leads.there i) ∷ 18 when not (on.look.has i) ∷ 19 when not (standing_is i) ∷ 27 when not (mark i) ∷ 29 when blocked i ∷ rest))
      ∙ acknowledgement_step p.standing x mk rest

  pub timeout_left :
      (x : Bool) (mk : Option Mark) → marked (book_of w (lane l d)) (lane l d) s ≡ is_some mk → (w.closed l || passed w (lane l d) p.timeout) ≡ x →
      first (refusals w (timeout l d s)) ≡
      after_step (packet_step p.standing (Timeout x) mk) (first (34 when refund_refused w pk ∷ []))
  timeout_left x mk mark late =
      let rest = 34 when refund_refused w pk ∷ [] in
      let reached =
      ap (λ (r : protocol.Packet). not (w.closed l) && not (passed w (lane l d) r.timeout)) (sym on.look.packet)
      ∙ neither (w.closed l) (passed w (lane l d) p.timeout)
      ∙ ap not late
      in
      (λ i. first (11 when not (on.leads.there i) ∷ 18 when not (on.look.has i) ∷ 19 when not (standing_is i) ∷ 21 when reached i ∷ 28 when mark i ∷ rest))
      ∙ timeout_step p.standing x mk rest

  -- the refusal of the step is the call's, or the refund's is left
  pub ack_stopped :
      (x : Bool) (mk : Option Mark) (f : WorldFault) → marked (book_of w (lane l d)) (lane l d) s ≡ is_some mk → ((book_of w (lane l d)).strict && lower_stands w (lane l d) s) ≡ x →
      Err f ≡ packet_step p.standing (Acknowledgement x) mk → first (refusals w (ack l d s)) ≡ Some (world_number f)
  ack_stopped x mk f mark blocked e =
      ack_left x mk mark blocked
      ∙ ap (λ (r : Result Effect WorldFault). after_step r (first (34 when (not (is_one (mark_at w (lane l d) s)) && refund_refused w pk) ∷ []))) (sym e)

  -- only the refund's refusal is left, and that only where the amount goes back
  pub ack_known :
      (x : Bool) (mk : Option Mark) (e : Effect) → option_map mark_number mk ≡ mark_at w (lane l d) s → marked (book_of w (lane l d)) (lane l d) s ≡ is_some mk →
      ((book_of w (lane l d)).strict && lower_stands w (lane l d) s) ≡ x → Ok e ≡ packet_step p.standing (Acknowledgement x) mk → Acknowledgeable w l d s q n p e
  ack_known x mk e is mark blocked ok =
      let good = ap is_one (sym is) ∙ goes_back_unless_good p.standing x mk e ok in
      record {
        on = on;
        good = good;
        left =
            ack_left x mk mark blocked
            ∙ (λ i. after_step (sym ok i) (first (34 when (not (good i) && refund_refused w pk) ∷ [])))
            ∙ ap (λ (b : Bool). first (34 when (b && refund_refused w pk) ∷ [])) (not_not (goes_back e));
      }

  pub timeout_stopped :
      (x : Bool) (mk : Option Mark) (f : WorldFault) → marked (book_of w (lane l d)) (lane l d) s ≡ is_some mk → (w.closed l || passed w (lane l d) p.timeout) ≡ x →
      Err f ≡ packet_step p.standing (Timeout x) mk → first (refusals w (timeout l d s)) ≡ Some (world_number f)
  timeout_stopped x mk f mark late e =
      timeout_left x mk mark late ∙ ap (λ (r : Result Effect WorldFault). after_step r (first (34 when refund_refused w pk ∷ []))) (sym e)

  pub timeout_expired :
      (x : Bool) (mk : Option Mark) (e : Effect) → marked (book_of w (lane l d)) (lane l d) s ≡ is_some mk → (w.closed l || passed w (lane l d) p.timeout) ≡ x →
      Ok e ≡ packet_step p.standing (Timeout x) mk → Expired w l d s q n p
  timeout_expired x mk e mark late ok =
      record {
        on = on;
        left = timeout_left x mk mark late ∙ ap (λ (r : Result Effect WorldFault). after_step r (first (34 when refund_refused w pk ∷ []))) (sym ok);
      }

  -- a refund at the route's end is that of the packet
  pub refund_same : refund_refused_at w (end_view q.near) (packet_view p) ≡ refund_refused w pk
  refund_same = λ i. refund_refused_at w (near_is i) (on.look.packet i)

  pub refunded_same : ended (refunded_at w (end_view q.near) (packet_view p)) n ≡ ended (refunded w pk) (packet_place w (lane l d) s)
  refunded_same = λ i. ended (refunded_at w (near_is i) (on.look.packet i)) (on.look.place_is i)

  -- what a strict link's closing comes to after the refund
  module _ (v : World) (left : v ≡ ended (refunded_at w (end_view q.near) (packet_view p)) n) where
    left_same : v ≡ ended (refunded w pk) (packet_place w (lane l d) s)
    left_same = left ∙ refunded_same

    pub closed_same :
        closed_if v q.link (v.books (is_strict q.kind)).strict ≡
        closed_if (ended (refunded w pk) (packet_place w (lane l d) s)) l (book_of w (lane l d)).strict
    closed_same =
        let books = ap (λ (x : World). x.books) left_same in
        λ i. closed_if (left_same i) (on.leads.link i) (books i (on.leads.kind i)).strict

    -- the link is still there
    pub link_listed : q.link < length v.links
    link_listed =
        let there : l < length w.links = grind (arith, nat_tests, on.leads.there) in
        omega (arith, there, on.leads.link, ap (λ (x : World). length x.links) left_same)

-- an effect that is no refund sends nothing back
pub not_back : (e : Effect) → (e ≡ EndsWithRefund → ⊥) → goes_back e ≡ false
not_back Arrives other = refl
not_back Ends other = refl
not_back EndsWithRefund other = absurd (other refl)

-- a call whose last refusals a part answers for, and which answers nothing else
pub verdict :
    (w : World) (k : Call) (r : Result (Unit {0}) WorldFault) (o : Option ℕ) (v new : World) →
    first (refusals w k) ≡ o → told_by world_number r ≡ unless_refused o tt → outcome w k ≡ (new, done) → v ≡ left_by r w new →
    (said (λ (x : Unit {0}). done) world_number r ≡ (step w k).1) × (v ≡ (step w k).0)
verdict w k (Ok x) None v new by told out left =
    let s = accepted w k by ∙ out in
    (sym (ap (λ (y : World × Answer). y.1) s), left ∙ sym (ap (λ (y : World × Answer). y.0) s))
verdict w k (Err f) (Some n) v new by told out left =
    let s = refused_by w k (world_number f) (by ∙ same) in
    (sym (ap (λ (y : World × Answer). y.1) s), left ∙ sym (ap (λ (y : World × Answer). y.0) s))
  where
    same : ◌≡◌ {A = Option ℕ} (Some n) (Some (world_number f))
    same = cc
verdict w k (Ok x) (Some n) v new by told out left = let z : ◌≡◌ {A = ℕ} 0 1 = cc in absurd (omega arith)
verdict w k (Err f) None v new by told out left = let z : ◌≡◌ {A = ℕ} 0 1 = cc in absurd (omega arith)

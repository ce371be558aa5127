-- A receipt in the words of the world, from what its checks, the delivery and the book said.
use Rattle.std.proofs.Common.{◌≡◌, ℕ, ◌/◌, Bool, true, false, cond, eqb, List, get_or, None, sym, refl, ap, ◌∙◌}
use Rattle.denom.specs.Denomination.{came_by}
use Rattle.protocol.specs.Refusals.{first}
use Rattle.protocol.specs.Book.{taken, take_refusals}
use Rattle.protocol.specs.World.{World, Link, lane, near, far, from_end, to_end, link_kind, is_strict, no_link}
use Rattle.protocol.specs.World as protocol
use Rattle.protocol.specs.Calls.{packet_at, arrival_mark, delivered, with_books, same_kind, mark_written}
use Rattle.tables.specs.declared.types.Packet.{Packet}
use Rattle.tables.specs.declared.types.Route.{Route}
use Rattle.tables.specs.View.{end_view, packet_view}
use Rattle.world.specs.Receiving.{Receivable, at_home, with_voucher, arrival_at, delivered_at, if_good}

-- a delivery leaves books and links as they were
module _ (w : World) (p : protocol.Packet) where
  abbrev pub arrived : ℕ → World
  arrived m = cond (eqb m 1) (delivered w p) w

  kept : {X : Type 0} (part : World → X) (g b : Bool) → part (at_home w (far w p) p) ≡ part w → part (with_voucher w (far w p) p) ≡ part w → part (cond g (cond b (at_home w (far w p) p) (with_voucher w (far w p) p)) w) ≡ part w
  kept part true true home voucher = home
  kept part true false home voucher = voucher
  kept part false b home voucher = refl

  pub kept_books : (m : ℕ) → (arrived m).books ≡ w.books
  kept_books m = kept (λ (v : World). v.books) (eqb m 1) (came_by (near w p).channel p.denom) refl refl

  pub kept_links : (m : ℕ) → (arrived m).links ≡ w.links
  kept_links m = kept (λ (v : World). v.links) (eqb m 1) (came_by (near w p).channel p.denom) refl refl

module _ (w : World) (l d s : ℕ) (q : Route) (p : Packet) (r : Receivable w l d s q p) where
  abbrev pk : protocol.Packet
  pk = packet_at w (lane l d) s

  its_lane : lane l d ≡ pk.lane
  its_lane = sym r.on_lane ∙ ap (λ (x : protocol.Packet). x.lane) r.packet

  near_is : end_view q.near ≡ near w pk
  near_is = r.leads.near ∙ ap (from_end w.links) its_lane

  far_is : end_view q.far ≡ far w pk
  far_is = r.leads.far ∙ ap (to_end w.links) its_lane

  pub mark_is : (m : ℕ) → m ≡ arrival_at w (end_view q.near) (end_view q.far) (packet_view p) → m ≡ arrival_mark w pk
  mark_is m e = e ∙ (λ i. arrival_at w (near_is i) (far_is i) (r.packet i))

  -- the world after the delivery
  module _ (v : World) (m : ℕ) (mark : m ≡ arrival_mark w pk) (left : v ≡ if_good m (delivered_at w (end_view q.near) (end_view q.far) (packet_view p)) w) where
    world_is : v ≡ arrived w pk (arrival_mark w pk)
    world_is = left ∙ (λ i. if_good (mark i) (delivered_at w (near_is i) (far_is i) (r.packet i)) w)

    books_are : v.books ≡ w.books
    books_are = ap (λ (x : World). x.books) world_is ∙ kept_books w pk (arrival_mark w pk)

    kind_is : is_strict q.kind ≡ link_kind (arrived w pk (arrival_mark w pk)) (lane l d)
    kind_is = r.leads.kind ∙ ap (λ (ls : List Link). (get_or ls (lane l d / 2) no_link).kind) (sym (kept_links w pk (arrival_mark w pk)))

    -- the book takes the mark
    pub taken_free : first (take_refusals (v.books (is_strict q.kind)) q.lane s) ≡ None
    taken_free = (λ i. first (take_refusals (books_are i (r.leads.kind i)) (r.leads.lane_is i) s)) ∙ r.admitted

    -- and is that of the lane
    pub written_is :
        with_books v (λ k. cond (same_kind k (is_strict q.kind)) (taken (v.books k) q.lane s m) (v.books k)) ≡
        mark_written (arrived w pk (arrival_mark w pk)) (lane l d) s (arrival_mark w pk)
    written_is =
        λ i. with_books (world_is i) (λ k. cond (same_kind k (kind_is i)) (taken ((world_is i).books k) (r.leads.lane_is i) s (mark i)) ((world_is i).books k))

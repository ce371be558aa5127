-- The two directions of a link of the table are the lanes of its two ends.
use Rattle.std.proofs.Common.{◌≡◌, ℕ, zero, suc, ◌+◌, ◌*◌, ◌/◌, ◌%◌, ◌<◌, ◌≤◌, Bool, true, List, [], ◌∷◌, length, get_or, Some, sym, refl, ap, ◌∙◌, arith, ltb-true}
use lib.ListN.{length-map}
use Rattle.std.proofs.lemmas.List.{get_or_default, get_or-map}
use Rattle.std.proofs.lemmas.Bool.Decides.{nat_tests}
use Rattle.register.specs.Keys.{number_of, found}
use Rattle.protocol.specs.World.{ends, no_end, back, lane, lane_out, same_end, end_at, from_end, to_end}
use Rattle.protocol.proofs.Homes.{length_ends}
use Rattle.protocol.proofs.Places.{place_hit, same_end_true}
use Rattle.protocol.specs.World as protocol
use Rattle.tables.specs.declared.types.Link.{Link}
use Rattle.tables.specs.declared.types.Rows.{Rows}
use Rattle.tables.specs.Rows.{rows_of}
use Rattle.tables.specs.View.{link_view, no_link, links_in, closed_in}
use Rattle.tables.specs.declared.types.Route.{Route}
use Rattle.tables.specs.Routes.{is_lane, Leads, LeadsOut}
use Rattle.tables.proofs.Kept.{number_some}
use Rattle.tables.proofs.Taken.{few_rows}

ends_even : (ls : List protocol.Link) (i : ℕ) → get_or (ends ls) (2 * i) no_end ≡ (get_or ls i protocol.no_link).end₀
ends_even [] i = refl
ends_even (l ∷ ls) zero = refl
ends_even (l ∷ ls) (suc i) =
    let e : 2 * suc i ≡ suc (suc (2 * i)) = omega arith in
    ap (λ n. get_or (ends (l ∷ ls)) n no_end) e ∙ ends_even ls i

ends_odd : (ls : List protocol.Link) (i : ℕ) → get_or (ends ls) (2 * i + 1) no_end ≡ (get_or ls i protocol.no_link).end₁
ends_odd [] i = refl
ends_odd (l ∷ ls) zero = refl
ends_odd (l ∷ ls) (suc i) =
    let e : 2 * suc i + 1 ≡ suc (suc (2 * i + 1)) = omega arith in
    ap (λ n. get_or (ends (l ∷ ls)) n no_end) e ∙ ends_odd ls i

back_even : (l d : ℕ) → d ≡ 0 → back (lane l d) ≡ 2 * l + 1
back_even l d e = let even : (2 * l + d) % 2 ≡ 0 = omega arith in grind (arith, nat_tests)

back_odd : (l d : ℕ) → d ≡ 1 → back (lane l d) ≡ 2 * l
back_odd l d e = let odd : (2 * l + d) % 2 ≡ 1 = omega arith in grind (arith, nat_tests)

module _ (t : Rows Link 16) (l d : ℕ) (row : Link) (h : l < length (rows_of t)) (read : row ≡ get_or (rows_of t) l row) where
  all : length (links_in t) ≡ length (rows_of t)
  all = length-map (rows_of t) link_view

  seen_row : link_view row ≡ get_or (links_in t) l protocol.no_link
  seen_row = ap link_view read ∙ sym (get_or-map link_view (rows_of t) l row protocol.no_link h)

  closed_row : row.closed ≡ closed_in t l
  closed_row = ap (λ (r : Link). r.closed) (read ∙ get_or_default (rows_of t) l row no_link h)

  pub leads_out : d ≡ 0 → Leads (links_in t) (closed_in t) l d (record { link = l; lane = 2 * l; near = row.first; far = row.second; kind = row.kind; closed = row.closed })
  leads_out e =
      let at : 2 * l ≡ lane l d = omega arith in
      let half : lane l d / 2 ≡ l = omega arith in
      let inside : l < length (links_in t) = omega (arith, h, all) in
      record {
        there = grind (arith, nat_tests);
        link = refl;
        lane_is = at;
        near = ap (λ (r : protocol.Link). r.end₀) seen_row ∙ sym (ends_even (links_in t) l) ∙ ap (λ n. get_or (ends (links_in t)) n no_end) at;
        far = ap (λ (r : protocol.Link). r.end₁) seen_row ∙ sym (ends_odd (links_in t) l) ∙ ap (λ n. get_or (ends (links_in t)) n no_end) (sym (back_even l d e));
        kind = ap (λ (r : protocol.Link). r.kind) seen_row ∙ ap (λ n. (get_or (links_in t) n protocol.no_link).kind) (sym half);
        closed_is = closed_row;
        low = omega (arith, h, few_rows t, e);
      }

  pub leads_back : d ≡ 1 → Leads (links_in t) (closed_in t) l d (record { link = l; lane = 2 * l + 1; near = row.second; far = row.first; kind = row.kind; closed = row.closed })
  leads_back e =
      let at : 2 * l + 1 ≡ lane l d = omega arith in
      let half : lane l d / 2 ≡ l = omega arith in
      let inside : l < length (links_in t) = omega (arith, h, all) in
      record {
        there = grind (arith, nat_tests);
        link = refl;
        lane_is = at;
        near = ap (λ (r : protocol.Link). r.end₁) seen_row ∙ sym (ends_odd (links_in t) l) ∙ ap (λ n. get_or (ends (links_in t)) n no_end) at;
        far = ap (λ (r : protocol.Link). r.end₀) seen_row ∙ sym (ends_even (links_in t) l) ∙ ap (λ n. get_or (ends (links_in t)) n no_end) (sym (back_odd l d e));
        kind = ap (λ (r : protocol.Link). r.kind) seen_row ∙ ap (λ n. (get_or (links_in t) n protocol.no_link).kind) (sym half);
        closed_is = closed_row;
        low = omega (arith, h, few_rows t, e);
      }

-- The lane that leads out by a channel, and the route that it is.
module _ (ls : List protocol.Link) (closed : ℕ → Bool) (c k n : ℕ) (out : number_of (same_end (end_at c k)) (ends ls) ≡ Some n) where
  at_place : (found (same_end (end_at c k)) (ends ls) ≡ true) × (lane_out ls c k ≡ n)
  at_place = number_some (same_end (end_at c k)) (ends ls) n out

  its_lane : lane (n / 2) (n % 2) ≡ n
  its_lane = omega arith

  pub route_there : is_lane ls (n / 2) (n % 2) ≡ true
  route_there =
      let within = ltb-true (lane_out ls c k) (length (ends ls)) at_place.0 in
      let below : n / 2 < length ls = omega (arith, within, at_place.1, length_ends ls) in
      let one : n % 2 ≤ 1 = omega arith in
      grind (arith, nat_tests)

  pub out_route : (r : Route) → Leads ls closed (n / 2) (n % 2) r → LeadsOut ls closed c k r
  out_route r leads =
      let same = its_lane ∙ sym at_place.1 in
      let hit =
      same_end_true (end_at c k) (from_end ls (lane_out ls c k))
      (place_hit (same_end (end_at c k)) (ends ls) no_end (ltb-true (lane_out ls c k) (length (ends ls)) at_place.0))
      in
      record {
        used = at_place.0;
        lane_is = leads.lane_is ∙ same;
        near = leads.near ∙ ap (from_end ls) same ∙ sym hit;
        far = leads.far ∙ ap (to_end ls) same;
        closed_is = leads.closed_is ∙ ap (λ i. closed (i / 2)) (sym at_place.1);
      }

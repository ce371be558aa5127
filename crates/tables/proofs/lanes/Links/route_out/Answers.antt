use Rattle.std.proofs.Common.{◌≡◌, ℕ, ◌/◌, ◌%◌, Bool, true, false, List, Some, None, Option, map, sym, ap, ◌∙◌, arith, MatchOption}
use Rattle.register.specs.Keys.{number_of}
use Rattle.protocol.specs.World.{same_end, end_at, ends, in_use}
use Rattle.tables.specs.declared.types.Link.{Link as Row}
use Rattle.tables.specs.declared.types.Rows.{Rows}
use Rattle.tables.specs.declared.types.Route.{Route}
use Rattle.tables.specs.Routes.{is_lane, Leads, LeadsOut}
use Rattle.tables.specs.View.{link_view, links_in, closed_in}
use Rattle.tables.proofs.Directions.{route_there, out_route}
use Rattle.tables.proofs.lanes.Links.route_out.Goals as goal

true-false : true ≡ false → ⊥
true-false e = let z : ◌≡◌ {A = ℕ} 0 1 = cc in omega arith

pub returns : goal.returns
returns c =
    let t = c.args.self.now in
    let ls = links_in t in
    let n = c.in_ok-lane.lane in
    let out : number_of (same_end (end_at c.args.chain c.args.channel)) (ends ls) ≡ Some n =
    ap (λ (l : List Row). number_of (same_end (end_at c.args.chain c.args.channel)) (ends (map link_view l))) (sym c.as_slice.ensures) ∙ sym c.in_ok-lane.ensures
    in
    go t n out c.route.result c.route.ensures
  where
    go :
        (t : Rows Row 16) (n : ℕ) → number_of (same_end (end_at c.args.chain c.args.channel)) (ends (links_in t)) ≡ Some n → (r : Option Route) →
        MatchOption r (is_lane (links_in t) (n / 2) (n % 2) ≡ false) (λ q. Leads (links_in t) (closed_in t) (n / 2) (n % 2) q) →
        MatchOption r (in_use (links_in t) c.args.chain c.args.channel ≡ false) (λ q. LeadsOut (links_in t) (closed_in t) c.args.chain c.args.channel q)
    go t n out None no-lane =
        let z : ◌≡◌ {A = Bool} true false = sym (route_there (links_in t) (closed_in t) c.args.chain c.args.channel n out) ∙ no-lane in
        absurd (true-false z)
    go t n out (Some q) leads = out_route (links_in t) (closed_in t) c.args.chain c.args.channel n out q leads

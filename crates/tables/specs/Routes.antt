-- What a route of the code says of one direction of a link.
use Rattle.std.specs.Prelude.{◌≡◌, ℕ, ◌/◌, ◌<◌, Bool, true, ◌&&◌, List, length, nat_le, nat_lt, slice_index_or}
use Rattle.protocol.specs.House.{lanes_most}
use Rattle.protocol.specs.World.{Link, lane, from_end, to_end, end_at, lane_out, in_use, no_link, is_strict}
use Rattle.tables.specs.declared.types.Route.{Route}
use Rattle.tables.specs.View.{end_view}

-- whether direction d of link l is there
abbrev pub is_lane : List Link → ℕ → ℕ → Bool
is_lane ls l d = nat_lt l (length ls) && nat_le d 1

-- the route is direction d of link l, by the links and by which of them are closed
pub record Leads (ls : List Link) (closed : ℕ → Bool) (l d : ℕ) (r : Route) : Type 0 where
  pub there : is_lane ls l d ≡ true
  pub link : r.link ≡ l
  pub lane_is : r.lane ≡ lane l d
  pub near : end_view r.near ≡ from_end ls (lane l d)
  pub far : end_view r.far ≡ to_end ls (lane l d)
  pub kind : is_strict r.kind ≡ (slice_index_or ls (lane l d / 2) no_link).kind
  pub closed_is : r.closed ≡ closed l
  pub low : lane l d < lanes_most

-- the route leads out by channel k of chain c
pub record LeadsOut (ls : List Link) (closed : ℕ → Bool) (c k : ℕ) (r : Route) : Type 0 where
  pub used : in_use ls c k ≡ true
  pub lane_is : r.lane ≡ lane_out ls c k
  pub near : end_view r.near ≡ end_at c k
  pub far : end_view r.far ≡ to_end ls (lane_out ls c k)
  pub closed_is : r.closed ≡ closed (lane_out ls c k / 2)

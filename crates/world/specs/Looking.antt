-- What a look for a packet on a lane tells.
use Rattle.std.specs.Prelude.{◌≡◌, ℕ, true}
use Rattle.protocol.specs.World.{World, lane}
use Rattle.protocol.specs.Calls.{has_packet, packet_place, packet_at}
use Rattle.tables.specs.declared.types.Packet.{Packet}
use Rattle.tables.specs.View.{packet_view}

-- the packet p, at place n, is that of direction d of link l and sequence s
pub record Looked (w : World) (l d s n : ℕ) (p : Packet) : Type 0 where
  pub has : has_packet w (lane l d) s ≡ true
  pub place_is : n ≡ packet_place w (lane l d) s
  pub packet : packet_view p ≡ packet_at w (lane l d) s
  pub on_lane : p.lane ≡ lane l d
  pub numbered : p.sequence ≡ s

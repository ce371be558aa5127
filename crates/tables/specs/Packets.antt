-- Packets as the code looks for them, and what comes to them.
use Rattle.std.specs.Prelude.{ℕ, Bool, true, false, ◌&&◌, Some, None, Ok, Err, Option, Result, ◌==◌, nat_lt}
use Rattle.protocol.specs.World.{Packet}
use Rattle.protocol.specs.declared.marks.Mark.{Mark}
use Rattle.protocol.specs.declared.marks.Mark.TheVariants.{Good, TooManyHops, RegisterFull, LedgerRefused}
use Rattle.protocol.specs.declared.faults.BookFault.TheVariants.{AlreadyMarked}
use Rattle.protocol.specs.declared.faults.WorldFault.{WorldFault}
use Rattle.protocol.specs.declared.faults.WorldFault.TheVariants.{Book, NotStanding, PacketExpired, NotExpired, NotMarked, Marked, LowerStands}
use Rattle.tables.specs.declared.types.Standing.{Standing}
use Rattle.tables.specs.declared.types.Standing.TheVariants.{Stands, Ended}
use Rattle.tables.specs.declared.types.Event.{Event}
use Rattle.tables.specs.declared.types.Event.TheVariants.{Receipt, Acknowledgement, Timeout}
use Rattle.tables.specs.declared.types.Effect.{Effect}
use Rattle.tables.specs.declared.types.Effect.TheVariants.{Arrives, Ends, EndsWithRefund}

-- the packet of a lane and a sequence
abbrev pub is_packet : ℕ → ℕ → Packet → Bool
is_packet i s p = p.lane == i && p.sequence == s

-- a packet of the lane with a lower sequence that stands
abbrev pub stands_below : ℕ → ℕ → Packet → Bool
stands_below i s p = p.lane == i && nat_lt p.sequence s && p.standing

-- What an event comes to, by the packet's own standing and its mark. A receipt is for a packet without a mark, an acknowledgement
-- for one with a mark, and a timeout for one that has expired without a mark; what was not received well goes back.
abbrev pub packet_step : Standing → Event → Option Mark → Result Effect WorldFault
packet_step Ended e m = Err NotStanding
packet_step Stands (Receipt true) m = Err PacketExpired
packet_step Stands (Receipt false) None = Ok Arrives
packet_step Stands (Receipt false) (Some m) = Err (Book AlreadyMarked)
packet_step Stands (Acknowledgement blocked) None = Err NotMarked
packet_step Stands (Acknowledgement true) (Some m) = Err LowerStands
packet_step Stands (Acknowledgement false) (Some Good) = Ok Ends
packet_step Stands (Acknowledgement false) (Some TooManyHops) = Ok EndsWithRefund
packet_step Stands (Acknowledgement false) (Some RegisterFull) = Ok EndsWithRefund
packet_step Stands (Acknowledgement false) (Some LedgerRefused) = Ok EndsWithRefund
packet_step Stands (Timeout false) m = Err NotExpired
packet_step Stands (Timeout true) None = Ok EndsWithRefund
packet_step Stands (Timeout true) (Some m) = Err Marked

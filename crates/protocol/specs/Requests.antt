-- The calls that the records of a request stand for.
use Rattle.denom.specs.Views.{denom_view}
use Rattle.protocol.specs.Calls.{Call, send, receive, ack, timeout}
use Rattle.protocol.specs.declared.requests.PacketId.{PacketId}
use Rattle.protocol.specs.declared.requests.Transfer.{Transfer}

-- to send what a transfer says
abbrev pub sending : Transfer → Call
sending t = send t.chain t.channel t.sender t.receiver (denom_view t.denomination) t.amount t.timeout

-- to receive, to acknowledge and to time out a packet
abbrev pub receiving : PacketId → Call
receiving p = receive p.link p.direction p.sequence

abbrev pub acknowledging : PacketId → Call
acknowledging p = ack p.link p.direction p.sequence

abbrev pub timing_out : PacketId → Call
timing_out p = timeout p.link p.direction p.sequence

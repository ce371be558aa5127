-- The number of each fault, and the layer that answers for a number.
use Rattle.std.specs.Prelude.{ℕ, Bool, cond, ◌&&◌, Ok, Err, Result, nat_le}
use Rattle.protocol.specs.declared.faults.LedgerFault.{LedgerFault}
use Rattle.protocol.specs.declared.faults.LedgerFault.TheVariants.{ChainNotServed, NoSuchAccount, ZeroAmount, NoSuchDenomination, ServesNoBars, AccountBarred, BalanceTooSmall, SupplyTooLarge}
use Rattle.protocol.specs.declared.faults.BookFault.{BookFault}
use Rattle.protocol.specs.declared.faults.BookFault.TheVariants.{NoSuchLane, NoSuchSequence, AlreadyMarked, LowerUnmarked}
use Rattle.protocol.specs.declared.faults.WorldFault.{WorldFault}
use Rattle.protocol.specs.declared.faults.WorldFault.TheVariants.{Ledger, Book, NoSuchChain, SameChain, LinksExhausted, ChannelsExhausted, ChannelNotInUse, NoSuchLink, NoSuchUser, AmountOrStepZero, NotRegistered, HasHops, LinkClosed, TimeoutTooLow, NoSuchPacket, NotStanding, PacketExpired, NotExpired, PacketsExhausted, RegisterFull, HeightTooLarge, NotMarked, Marked, LowerStands, RefundRefused}
use Rattle.protocol.specs.declared.faults.AuditFault.{AuditFault}
use Rattle.protocol.specs.declared.faults.AuditFault.TheVariants.{BufferTooSmall, NoSuchLine}
use Rattle.protocol.specs.declared.faults.ScriptFault.{ScriptFault}
use Rattle.protocol.specs.declared.faults.ScriptFault.TheVariants.{ScriptTooLong, LineTooLong, BadByteOrSpace, UnknownCommand, WrongNumberOfWords, BadWord}
use Rattle.protocol.specs.declared.faults.Fault.{Fault}
use Rattle.protocol.specs.declared.faults.Fault.TheVariants.{Script, World, Audit}
use Rattle.protocol.specs.declared.faults.Layer.{Layer}
use Rattle.protocol.specs.declared.faults.Layer.TheVariants.{Script as Script-layer, Book as Book-layer, Ledger as Ledger-layer, World as World-layer}

-- a ledger's refusals
abbrev pub ledger_number : LedgerFault → ℕ
ledger_number ChainNotServed = 6
ledger_number NoSuchAccount = 12
ledger_number ZeroAmount = 13
ledger_number NoSuchDenomination = 14
ledger_number ServesNoBars = 30
ledger_number AccountBarred = 31
ledger_number BalanceTooSmall = 32
ledger_number SupplyTooLarge = 33

-- a book's refusals
abbrev pub book_number : BookFault → ℕ
book_number NoSuchLane = 11
book_number NoSuchSequence = 18
book_number AlreadyMarked = 25
book_number LowerUnmarked = 26

-- a world's refusals; those of ledger and book keep their number
abbrev pub world_number : WorldFault → ℕ
world_number (Ledger f) = ledger_number f
world_number (Book f) = book_number f
world_number NoSuchChain = 6
world_number SameChain = 7
world_number LinksExhausted = 8
world_number ChannelsExhausted = 9
world_number ChannelNotInUse = 10
world_number NoSuchLink = 11
world_number NoSuchUser = 12
world_number AmountOrStepZero = 13
world_number NotRegistered = 14
world_number HasHops = 15
world_number LinkClosed = 16
world_number TimeoutTooLow = 17
world_number NoSuchPacket = 18
world_number NotStanding = 19
world_number PacketExpired = 20
world_number NotExpired = 21
world_number PacketsExhausted = 22
world_number RegisterFull = 23
world_number HeightTooLarge = 24
world_number NotMarked = 27
world_number Marked = 28
world_number LowerStands = 29
world_number (RefundRefused f) = 34

-- those of a line of the audit
abbrev pub audit_number : AuditFault → ℕ
audit_number BufferTooSmall = 35
audit_number NoSuchLine = 36

-- those of a script and its lines
abbrev pub script_number : ScriptFault → ℕ
script_number ScriptTooLong = 1
script_number LineTooLong = 1
script_number BadByteOrSpace = 2
script_number UnknownCommand = 3
script_number WrongNumberOfWords = 4
script_number BadWord = 5

-- a fault of any layer
abbrev pub fault_number : Fault → ℕ
fault_number (Script f) = script_number f
fault_number (World f) = world_number f
fault_number (Audit f) = audit_number f

-- whether n is one of a .. b
abbrev pub between : ℕ → ℕ → ℕ → Bool
between a b n = nat_le a n && nat_le n b

-- the layer that answers for a number: script for 1 to 5, book for 25 to 28, ledger for 30 to 34, else world
abbrev pub layer_of : ℕ → Layer
layer_of n =
    cond (between 1 5 n) Script-layer (cond (between 25 28 n) Book-layer (cond (between 30 34 n) Ledger-layer World-layer))

-- an answer with each fault told by its number
abbrev pub told_by : {X F : Type 0} → (F → ℕ) → Result X F → Result X ℕ
told_by number (Ok x) = Ok x
told_by number (Err f) = Err (number f)

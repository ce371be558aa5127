-- What the rows of the tables stand for in the words of the model: ends, links, packets, denominations and tokens.
use Rattle.std.specs.Prelude.{ℕ, Bool, true, false, List, [], map, slice_index_or}
use Rattle.std.proofs.Common.{lit<, lit≤}
use Rattle.denom.specs.Denomination.{Denom, Token}
use Rattle.denom.specs.Views.{denom_view, token_view}
use Rattle.protocol.specs.World.{is_strict}
use Rattle.protocol.specs.World as protocol
use Rattle.protocol.specs.declared.link_kind.LinkKind.TheVariants.{Free}
use Rattle.tables.specs.declared.types.End.{End}
use Rattle.tables.specs.declared.types.Link.{Link}
use Rattle.tables.specs.declared.types.Standing.{Standing}
use Rattle.tables.specs.declared.types.Standing.TheVariants.{Stands, Ended}
use Rattle.tables.specs.declared.types.Packet.{Packet}
use Rattle.denom.specs.declared.types.Denomination.{Denomination}
use Rattle.denom.specs.declared.types.TokenId.{TokenId}
use Rattle.tables.specs.declared.types.Rows.{Rows}
use Rattle.tables.specs.Rows.{rows_of}

abbrev pub end_view : End → protocol.End
end_view e = record { chain = e.chain; channel = e.channel }

abbrev pub link_view : Link → protocol.Link
link_view l = record { end₀ = end_view l.first; end₁ = end_view l.second; kind = is_strict l.kind }

abbrev pub stands : Standing → Bool
stands Ended = false
stands Stands = true

abbrev pub packet_view : Packet → protocol.Packet
packet_view p =
    record {
      lane = p.lane;
      sequence = p.sequence;
      sender = p.sender;
      receiver = p.receiver;
      denom = denom_view p.denomination;
      amount = p.amount;
      timeout = p.timeout;
      standing = stands p.standing;
    }

-- a chain's register
abbrev pub denoms_in : Rows Denomination 32 → List Denom
denoms_in r = map denom_view (rows_of r)

-- what is read where there is no such chain
abbrev pub no_denominations : Rows Denomination 32
no_denominations = record { places = []; count = 0; few = lit≤ tt }

-- the register of chain c
abbrev pub denoms_of : List (Rows Denomination 32) → ℕ → List Denom
denoms_of rows c = denoms_in (slice_index_or rows c no_denominations)

abbrev pub tokens_in : Rows TokenId 64 → List Token
tokens_in t = map token_view (rows_of t)

abbrev pub links_in : Rows Link 16 → List protocol.Link
links_in l = map link_view (rows_of l)

-- what is read where there is no end
abbrev pub no_end : End
no_end = record { chain = 0; channel = 0; chains = lit< tt; channels = lit< tt }

-- what is read where there is no link
abbrev pub no_link : Link
no_link = record { first = no_end; second = no_end; kind = Free; closed = false }

-- whether link i is there and closed
abbrev pub closed_in : Rows Link 16 → ℕ → Bool
closed_in l i = (slice_index_or (rows_of l) i no_link).closed

abbrev pub packets_in : Rows Packet 512 → List protocol.Packet
packets_in p = map packet_view (rows_of p)

-- The counts of the house, each in one place.
use Rattle.std.specs.Prelude.{ℕ, ◌+◌}

-- the largest amount, supply and height, 2^64 - 1
abbrev pub most : ℕ
most = 18446744073709551615

-- a world's chains are 0 to 7
abbrev pub chains_most : ℕ
chains_most = 8

-- links over a world's life
abbrev pub links_most : ℕ
links_most = 16

-- packets over a world's life
abbrev pub packets_most : ℕ
packets_most = 512

-- tokens over a world's life
abbrev pub tokens_most : ℕ
tokens_most = 64

-- a chain's channels are 0 to 7
abbrev pub channels_most : ℕ
channels_most = 8

-- a chain's denominations are numbered 0 to 31 in the order of registration
abbrev pub denoms_most : ℕ
denoms_most = 32

-- a chain's users are its accounts 0 to 15
abbrev pub users : ℕ
users = 16

-- behind the users stand the escrow accounts, one for each channel
abbrev pub escrow_account : ℕ → ℕ
escrow_account k = 16 + k

-- users and escrow accounts together: accounts 0 to 23
abbrev pub accounts : ℕ
accounts = 24

-- a trace's hops
abbrev pub hops_most : ℕ
hops_most = 6

-- lanes, two for each link
abbrev pub lanes_most : ℕ
lanes_most = 32

-- the bytes of buffer that a line of the audit asks for
abbrev pub line_room : ℕ
line_room = 256

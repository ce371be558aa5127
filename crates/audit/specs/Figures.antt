-- Parts of the figures of an audit.
use Rattle.std.specs.Prelude.{ℕ, length, slice_index_or}
use Rattle.sums.specs.Sums.{sum_below, gate}
use Rattle.denom.specs.Denomination.{Token, same_token}
use Rattle.protocol.specs.Ledger.{users_hold}
use Rattle.protocol.specs.World.{World, home_of, no_denom}

-- what the users of chain c hold of a token, under every trace
unfoldable pub held_on : World → Token → ℕ → ℕ
held_on w t c =
    sum_below (length (w.register c)) (λ d.
    gate (same_token (home_of w.links c (slice_index_or (w.register c) d no_denom)) t) (users_hold w.ledger.balance c d))

-- The number under which an issue credits.
use Rattle.std.specs.Prelude.{ℕ, cond, not, ◌&&◌, ◌||◌, length, Some, None, Option, nat_le}
use Rattle.denom.specs.Denomination.{Denom, Token}
use Rattle.protocol.specs.Calls.{token_known}
use Rattle.protocol.specs.House.{denoms_most, tokens_most}
use Rattle.protocol.specs.World.{World, number, registered}

-- that of token t, with e for its hopless denomination; nothing where a new key meets a full register
abbrev pub issue_number : World → Token → Denom → Option ℕ
issue_number w t e =
    cond
    ((not (token_known w t) && nat_le tokens_most (length w.tokens)) || (not (registered w t.chain e) && nat_le denoms_most (length (w.register t.chain))))
    None
    (Some (number w t.chain e))

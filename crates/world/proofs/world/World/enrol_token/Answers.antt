use Rattle.std.proofs.Common.{ap, ◌∙◌}
use Rattle.denom.specs.Denomination.{same_token}
use Rattle.denom.specs.Views.{token_view}
use Rattle.protocol.specs.Calls.{with_tokens}
use Rattle.tables.specs.Rows.{rows_of}
use Rattle.tables.specs.View.{tokens_in}
use Rattle.tables.proofs.Kept.{joined_seen}
use Rattle.world.specs.View.{view}
use Rattle.world.proofs.Entries.{entered_one}
use Rattle.world.proofs.world.World.enrol_token.Goals as goal

pub returns : goal.returns
returns g c =
    let w = view g.L.Ledger.meaning g.F.Book.meaning g.S.Book.meaning c.args.self.now in
    let t = token_view c.args.token.now in
    let old = c.args.self.now.tables.tokens in
    ap (with_tokens w)
    (joined_seen token_view (same_token t) 64 c.args.token.now (rows_of old) (rows_of c.enter.new.self) c.enter.ensures.after
    ∙ entered_one (same_token t) t 64 (tokens_in old) c.requires.room)

use Rattle.std.proofs.Common.{get_or, arith}
use Rattle.denom.specs.Denomination.{same_denom}
use Rattle.denom.specs.Views.{denom_view}
use Rattle.protocol.specs.Calls.{with_register}
use Rattle.tables.specs.Rows.{rows_of}
use Rattle.tables.proofs.Kept.{joined_seen}
use Rattle.world.specs.View.{view}
use Rattle.world.proofs.Entries.{registers_after}
use Rattle.world.proofs.world.World.enrol.Goals as goal

pub returns : goal.returns
returns g c =
    let w = view g.L.Ledger.meaning g.F.Book.meaning g.S.Book.meaning c.args.self.now in
    let rows = c.args.self.now.tables.denominations in
    let e = denom_view c.args.denomination.now in
    let d = c.index-self-chain.result in
    let after = joined_seen denom_view (same_denom e) 32 c.args.denomination.now (rows_of (get_or rows c.args.chain d)) (rows_of c.enter.new.self) c.enter.ensures.after in
    λ i. with_register w (λ c'. registers_after rows c.args.chain c.enter.new.self d e (omega arith) c.requires.room after c' i)

use Rattle.std.proofs.Common.{sym, ltb-true}
use Rattle.tables.proofs.Directions.{leads_out, leads_back}
use Rattle.tables.proofs.lanes.Links.route.Goals as goal

pub returns-in-0 : goal.returns-in-0
returns-in-0 c =
    let got = rw c.as_slice.ensures at c.in_ok-row.ensures.lookup in
    leads_out c.args.self.now c.args.link c.args.direction c.in_ok-row.row.now (ltb-true _ _ (sym got.0)) got.1 c.in-0.is

pub returns-in-1 : goal.returns-in-1
returns-in-1 c =
    let got = rw c.as_slice.ensures at c.in_ok-row.ensures.lookup in
    leads_back c.args.self.now c.args.link c.args.direction c.in_ok-row.row.now (ltb-true _ _ (sym got.0)) got.1 c.in-1.is

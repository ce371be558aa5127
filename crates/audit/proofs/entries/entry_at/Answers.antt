use Rattle.std.proofs.Common.{◌/◌, ◌%◌, sym, ltb-true, ap, ◌∙◌, subst}
use Rattle.tables.specs.declared.types.Tables.{Tables}
use Rattle.tables.specs.Routes.{Leads}
use Rattle.tables.specs.View.{links_in, closed_in, denoms_of}
use Rattle.world.specs.View.{view}
use Rattle.audit.proofs.EndsHold.{entered}
use Rattle.audit.proofs.entries.entry_at.Goals as goal

pub returns : goal.returns
returns g c =
    let w = view g.L.Ledger.meaning g.F.Book.meaning g.S.Book.meaning c.args.world.now in
    let r = c.in_ok-route.route in
    let P : Tables → Type 0 = λ t. Leads (links_in t.links) (closed_in t.links) (c.args.lane / 2) (c.args.lane % 2) r in
    let known = c.denominations_on-known.ensures.known ∙ ap (λ (t : Tables). denoms_of t.denominations r.near.chain) c.tables-2.ensures in
    entered w c.args.lane c.args.number w.closed r (subst P c.tables.ensures c.in_ok-route.ensures) c.denominations_on-known.result.now known
    c.in_ok-denomination.denomination.now c.escrow_at-escrow.result (ltb-true _ _ (sym c.in_ok-denomination.ensures.lookup.0)) c.in_ok-denomination.ensures.lookup.1 c.escrow_at-escrow.ensures c.if-escrow-eq0.false

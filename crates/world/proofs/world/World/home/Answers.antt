use Rattle.std.proofs.Common.{sym, ap, ◌∙◌}
use Rattle.denom.specs.Denomination.{same_denom}
use Rattle.denom.specs.Views.{denom_view}
use Rattle.protocol.specs.World.{World}
use Rattle.protocol.specs.Calls.{Answer, home, home_is}
use Rattle.world.specs.View.{view}
use Rattle.world.proofs.Verdicts.{stopped, accepted}
use Rattle.world.proofs.Issuing.{found_some}
use Rattle.world.proofs.Stops.{home_no_chain, home_unknown, home_free}
use Rattle.world.proofs.world.World.home.Goals as goal

pub returns-then-not-serves : goal.returns-then-not-serves
returns-then-not-serves g c =
    let w = view g.L.Ledger.meaning g.F.Book.meaning g.S.Book.meaning c.args.self.now in
    let e = denom_view c.args.denomination.now in
    let no = stopped w (home c.args.chain e) 6 (home_no_chain w c.args.chain e (sym c.if-not-serves.ensures)) in
    record { answer = no.0; after = no.1 }

pub returns-then-is_none : goal.returns-then-is_none
returns-then-is_none g c =
    let w = view g.L.Ledger.meaning g.F.Book.meaning g.S.Book.meaning c.args.self.now in
    let e = denom_view c.args.denomination.now in
    let unknown = found_some (same_denom e) (w.register c.args.chain) _ c.number_of.ensures.number ∙ c.if-is_none.ensures in
    let no = stopped w (home c.args.chain e) 14 (home_unknown w c.args.chain e (sym c.if-not-serves.ensures) unknown) in
    record { answer = no.0; after = no.1 }

pub returns : goal.returns
returns g c =
    let w = view g.L.Ledger.meaning g.F.Book.meaning g.S.Book.meaning c.args.self.now in
    let e = denom_view c.args.denomination.now in
    let known = found_some (same_denom e) (w.register c.args.chain) _ c.number_of.ensures.number ∙ c.if-is_none.ensures in
    let s = accepted w (home c.args.chain e) (home_free w c.args.chain e (sym c.if-not-serves.ensures) known) in
    let walked = c.walk_home.ensures in
    record {
      answer = (λ i. home_is (record { chain = walked.chain i; symbol = walked.symbol i })) ∙ sym (ap (λ (x : World × Answer). x.1) s);
      after = sym (ap (λ (x : World × Answer). x.0) s);
    }

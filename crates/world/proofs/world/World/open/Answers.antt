use Rattle.std.proofs.Common.{◌≡◌, ℕ, [], ◌∷◌, ◌++◌, map, length, get_or, Some, None, sym, refl, ap, ◌∙◌, arith}
use mathlib.Core.Path.{fun_ext}
use Rattle.std.proofs.lemmas.Bool.Decides.{nat_tests}
use Rattle.std.proofs.lemmas.List.{map_push}
use Rattle.std.proofs.lemmas.Result.{err_from_is_err_and}
use lib.ListN.{length-map}
use Rattle.protocol.specs.Faults.{world_number}
use Rattle.protocol.specs.World.{is_strict, lowest_unused, end_at}
use Rattle.protocol.specs.Refusals.{first}
use Rattle.protocol.specs.Calls.{open_link, says, refusals}
use Rattle.tables.specs.Rows.{rows_of}
use Rattle.tables.specs.View.{link_view, closed_in, no_link}
use Rattle.tables.proofs.Taken.{still_closed}
use Rattle.world.specs.View.{view}
use Rattle.world.proofs.Verdicts.{refused_by, accepted, there_was, there_was_none, handed_on}
use Rattle.world.proofs.world.World.open.Goals as goal

pub returns-then-number-ge-LINKS : goal.returns-then-number-ge-LINKS
returns-then-number-ge-LINKS g c =
    let w = view g.L.Ledger.meaning g.F.Book.meaning g.S.Book.meaning c.args.self.now in
    let k = open_link c.args.first c.args.second (is_strict c.args.kind) in
    let many : c.len-number.result ≡ length w.links = c.len-number.ensures ∙ sym (length-map _ link_view) in
    let by : first (refusals w k) ≡ Some 8 = grind (arith, nat_tests) in
    let s = refused_by w k 8 by in
    record { answer = sym (ap (λ p. p.1) s); after = sym (ap (λ p. p.0) s) }

pub returns-in_err-near : goal.returns-in_err-near
returns-in_err-near g c =
    let w = view g.L.Ledger.meaning g.F.Book.meaning g.S.Book.meaning c.args.self.now in
    let k = open_link c.args.first c.args.second (is_strict c.args.kind) in
    let many : c.len-number.result ≡ length w.links = c.len-number.ensures ∙ sym (length-map _ link_view) in
    let none = there_was_none _ _ _ c.in_err-near.ensures.value in
    let full : lowest_unused w.links c.args.first ≡ 8 = rw (none.0, c.as_slice.ensures) at c.lowest_unused.ensures in
    let by : first (refusals w k) ≡ Some 9 = grind (arith, nat_tests) in
    let no = handed_on w k says c.from_residual.result _ 9 (err_from_is_err_and c.from_residual.result c.from_residual.ensures.1) (ap world_number none.1) by in
    record { answer = no.0; after = no.1 }

pub returns-in_err-far : goal.returns-in_err-far
returns-in_err-far g c =
    let w = view g.L.Ledger.meaning g.F.Book.meaning g.S.Book.meaning c.args.self.now in
    let k = open_link c.args.first c.args.second (is_strict c.args.kind) in
    let many : c.len-number.result ≡ length w.links = c.len-number.ensures ∙ sym (length-map _ link_view) in
    let none = there_was_none _ _ _ c.in_err-far.ensures.value in
    let full : lowest_unused w.links c.args.second ≡ 8 = rw (none.0, c.as_slice-2.ensures) at c.lowest_unused-2.ensures in
    let by : first (refusals w k) ≡ Some 9 = grind (arith, nat_tests) in
    let no = handed_on w k says c.from_residual-in_err-far.result _ 9 (err_from_is_err_and c.from_residual-in_err-far.result c.from_residual-in_err-far.ensures.1) (ap world_number none.1) by in
    record { answer = no.0; after = no.1 }

pub returns : goal.returns
returns g c =
    let w = view g.L.Ledger.meaning g.F.Book.meaning g.S.Book.meaning c.args.self.now in
    let k = open_link c.args.first c.args.second (is_strict c.args.kind) in
    let rows = rows_of c.args.self.now.tables.links in
    let many : c.len-number.result ≡ length w.links = c.len-number.ensures ∙ sym (length-map _ link_view) in
    let near = rw (there_was _ _ _ c.in_ok-near.ensures.value, c.as_slice.ensures) at c.lowest_unused.ensures in
    let far = rw (there_was _ _ _ c.in_ok-far.ensures.value, c.as_slice-2.ensures) at c.lowest_unused-2.ensures in
    let by : first (refusals w k) ≡ None = grind (arith, nat_tests) in
    let s = accepted w k by in
    let pushed =
    ap (map link_view) c.push.ensures
    ∙ map_push link_view rows _
    ∙ λ i. w.links ++ record { end₀ = end_at c.args.first (near.0 i); end₁ = end_at c.args.second (far.0 i); kind = is_strict c.args.kind } ∷ []
    in
    let open_yet : (i : ℕ) → closed_in c.push.new.self i ≡ w.closed i =
    λ i. ap (λ l. (get_or l i no_link).closed) c.push.ensures ∙ still_closed rows _ refl i
    in
    record {
      answer = ap says many ∙ sym (ap (λ p. p.1) s);
      after =
          (λ i. record {
            ledger = w.ledger;
            books = w.books;
            register = w.register;
            tokens = w.tokens;
            links = pushed i;
            closed = fun_ext open_yet i;
            packets = w.packets;
            height = w.height;
          })
          ∙ sym (ap (λ p. p.0) s);
    }

use Rattle.std.proofs.Common.{◌≡◌, ◌||◌, ltb, length, sym, ◌∙◌}
use Rattle.std.specs.Bool.{then_some}
use lib.ListN.{length-map}
use Rattle.denom.specs.Denomination.{same_token}
use Rattle.denom.specs.Views.{denom_view, token_view}
use Rattle.protocol.specs.Calls.{token_known}
use Rattle.tables.specs.View.{denoms_of, tokens_in}
use Rattle.tables.proofs.Kept.{number_map}
use Rattle.tables.proofs.Taken.{few_denoms}
use Rattle.world.specs.View.{view}
use Rattle.world.proofs.Issuing.{found_some, number_for_small, number_if_room, small_if_room}
use Rattle.world.proofs.world.World.room_for.Goals as goal

pub returns : goal.returns
returns g c =
    let w = view g.L.Ledger.meaning g.F.Book.meaning g.S.Book.meaning c.args.self.now in
    let tables = c.args.self.now.tables in
    let t = token_view c.args.token.now in
    let n = c.in_ok-number.number in
    let there = sym c.in_ok-number.was ∙ c.number_for.ensures in
    let known : c.is_some-known.result ≡ token_known w t =
    c.is_some-known.ensures ∙ sym (found_some (same_token t) (tokens_in tables.tokens) _ (c.number_of.ensures ∙ sym (number_map token_view (same_token t) _)))
    in
    let many : c.len.result ≡ length w.tokens = c.len.ensures ∙ sym (length-map _ token_view) in
    record {
      number = c.then_some.ensures ∙ (λ i. then_some (known i || ltb (many i) 64) n) ∙ number_if_room (token_known w t) _ n (length w.tokens) _ there;
      small = small_if_room _ n c.then_some.result c.then_some.ensures (rw c.in_ok-number.was at (number_for_small (denom_view c.args.denomination.now) (denoms_of tables.denominations t.chain) (few_denoms tables.denominations t.chain) c.number_for.result c.number_for.ensures));
    }

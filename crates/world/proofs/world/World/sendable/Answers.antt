use Rattle.std.proofs.Common.{◌≡◌, ◌/◌, true, false, not, ◌&&◌, ◌||◌, eqb, leb, length, sym, ap, ◌∙◌, arith}
use Rattle.std.proofs.lemmas.Bool.Decides.{nat_tests}
use Rattle.denom.specs.Denomination.{same_denom}
use Rattle.denom.specs.Views.{denom_view}
use Rattle.protocol.specs.World.{End, lane_out}
use Rattle.protocol.specs.Calls.{served, passed}
use lib.ListN.{length-map}
use Rattle.tables.specs.View.{packet_view}
use Rattle.world.specs.View.{view}
use Rattle.tables.proofs.Kept.{number_some}
use Rattle.world.proofs.Verdicts.{there_was}
use Rattle.world.proofs.Sendings.{send_left, send_full}
use Rattle.world.proofs.world.World.sendable.Goals as goal

pub returns-then-len-ge-PACKETS : goal.returns-then-len-ge-PACKETS
returns-then-len-ge-PACKETS g c =
    let w = view g.L.Ledger.meaning g.F.Book.meaning g.S.Book.meaning c.args.self.now in
    let t = c.args.transfer.now.timeout in
    let e = denom_view c.args.transfer.now.denomination in
    let out = rw (there_was _ _ _ c.in_ok-route.ensures.value) at c.route_out.ensures in
    let numbered = there_was _ _ _ c.in_ok-number.ensures.value in
    let lane = lane_out w.links c.args.transfer.now.chain c.args.transfer.now.channel in
    let chain : served w c.args.transfer.now.chain ≡ true = sym c.if-not-serves.ensures in
    let user : (leb 16 c.args.transfer.now.sender || leb 16 c.args.transfer.now.receiver) ≡ false = grind (arith, nat_tests) in
    let some : eqb c.args.transfer.now.amount 0 ≡ false = grind (arith, nat_tests) in
    let known = number_some (same_denom e) (w.register c.args.transfer.now.chain) c.in_ok-number.number (sym c.number_of.ensures.number ∙ numbered) in
    let alive : w.closed (lane / 2) ≡ false = sym out.closed_is ∙ c.if-route.false in
    let early : passed w lane t ≡ false =
    ap (λ (f : End). not (eqb t 0) && leb t (w.height f.chain)) (sym out.far) ∙ sym c.if-has_passed.ensures
    in
    let few : c.len.result ≡ length w.packets = c.len.ensures ∙ sym (length-map _ packet_view) in
    let full : leb 512 (length w.packets) ≡ true = grind (arith, nat_tests) in
    send_full w c.args.transfer.now.chain c.args.transfer.now.channel c.args.transfer.now.sender c.args.transfer.now.receiver e c.args.transfer.now.amount t chain out.used user some known.0 alive early full

pub returns : goal.returns
returns g c =
    let w = view g.L.Ledger.meaning g.F.Book.meaning g.S.Book.meaning c.args.self.now in
    let t = c.args.transfer.now.timeout in
    let e = denom_view c.args.transfer.now.denomination in
    let out = rw (there_was _ _ _ c.in_ok-route.ensures.value) at c.route_out.ensures in
    let numbered = there_was _ _ _ c.in_ok-number.ensures.value in
    let lane = lane_out w.links c.args.transfer.now.chain c.args.transfer.now.channel in
    let chain : served w c.args.transfer.now.chain ≡ true = sym c.if-not-serves.ensures in
    let user : (leb 16 c.args.transfer.now.sender || leb 16 c.args.transfer.now.receiver) ≡ false = grind (arith, nat_tests) in
    let some : eqb c.args.transfer.now.amount 0 ≡ false = grind (arith, nat_tests) in
    let known = number_some (same_denom e) (w.register c.args.transfer.now.chain) c.in_ok-number.number (sym c.number_of.ensures.number ∙ numbered) in
    let alive : w.closed (lane / 2) ≡ false = sym out.closed_is ∙ c.if-route.false in
    let early : passed w lane t ≡ false =
    ap (λ (f : End). not (eqb t 0) && leb t (w.height f.chain)) (sym out.far) ∙ sym c.if-has_passed.ensures
    in
    let few : c.len.result ≡ length w.packets = c.len.ensures ∙ sym (length-map _ packet_view) in
    let room : leb 512 (length w.packets) ≡ false = grind (arith, nat_tests) in
    record {
      left = send_left w c.args.transfer.now.chain c.args.transfer.now.channel c.args.transfer.now.sender c.args.transfer.now.receiver e c.args.transfer.now.amount t chain out.used user some known.0 alive early room;
      lane_is = out.lane_is;
      number_is = sym known.1;
      chain = grind (arith, nat_tests);
      channel = omega (arith, ap (λ (f : End). f.channel) out.near, c.in_ok-route.route.near.channels);
      sender = omega arith;
      amount = some;
      low = rw numbered at c.number_of.ensures.small;
      room = omega (arith, few);
    }

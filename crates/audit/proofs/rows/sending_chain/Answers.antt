use Rattle.std.proofs.Common.{◌/◌, ◌%◌, ◌≤◌, length, sym, ap, arith}
use Rattle.std.proofs.lemmas.List.{get_or_past}
use Rattle.std.proofs.lemmas.Bool.Decides.{nat_tests}
use Rattle.protocol.specs.World as protocol
use Rattle.protocol.specs.World.{ends, no_end}
use Rattle.protocol.proofs.Homes.{length_ends}
use Rattle.tables.specs.View.{links_in}
use Rattle.audit.proofs.rows.sending_chain.Goals as goal

pub returns-in-None : goal.returns-in-None
returns-in-None c =
    let ls = links_in c.args.tables.now.links in
    let i = c.args.packet.now.lane in
    let none = c.in-None.ensures in
    let low : i % 2 ≤ 1 = omega arith in
    let past : length ls ≤ i / 2 = grind (arith, nat_tests) in
    sym (ap (λ (e : protocol.End). e.chain) (get_or_past (ends ls) i no_end (omega (arith, length_ends ls))))

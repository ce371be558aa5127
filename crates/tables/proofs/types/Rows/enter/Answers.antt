use Rattle.std.proofs.Common.{◌≡◌, ◌≤◌, length, take, ◌∙◌, arith}
use Rattle.register.specs.Keys.{number_of}
use Rattle.tables.specs.Rows.{rows_of}
use Rattle.tables.proofs.Kept.{offer_answered, joins}
use Rattle.tables.proofs.types.Rows.enter.Goals as goal

pub returns : goal.returns
returns g c =
    let table = c.args.self.now in
    let full : length table.places ≡ g.row.N = omega arith in
    let within : table.count ≤ length table.places = omega (arith, table.few) in
    let known = number_of (g.K.PartialEq.eq c.args.key) (rows_of table) in
    let gave = c.offer.ensures in
    record {
      answer = gave.answer ∙ offer_answered table.places table.count g.row.N full within known;
      after = (λ i. take (gave.count i) (gave.keys i)) ∙ joins table.places table.count g.row.N full within c.args.key known;
    }

use Rattle.std.proofs.Common.{◌∙◌, rules}
use Rattle.std.proofs.lemmas.Iterator.{YieldsList-from_slice}
use Rattle.std.proofs.lemmas.Iterator.Search.{position_from_yields_List}
use Rattle.register.proofs.Places.{position_is}
use Rattle.register.proofs.find_in.Goals as goal

pub returns : goal.returns
returns g c =
    let same = g.K.PartialEq.eq c.args.key.now in
    position_from_yields_List same _ _ c.position.result c.position.ensures.ran (YieldsList-from_slice c.args.keys.now (cc)) (λ x b q k. search rules)
    ∙ position_is same c.args.keys.now

use Rattle.std.proofs.Common.{◌≡◌, ℕ, ◌+◌, ◌-◌, suc, is_some, refl, ap, ◌∙◌, rules, arith}
use Rattle.std.proofs.lemmas.Iterator.{YieldsList-from_range}
use Rattle.std.proofs.lemmas.Iterator.Search.{all_from_yields_List}
use Rattle.books.proofs.Lower.{all_in_range, some_mapped}
use Rattle.books.proofs.book.Book.lower_marked.Goals as goal

pub returns : goal.returns
returns g c =
    let mark = (g.Self.Book.meaning c.args.self.now).mark c.args.lane in
    let test = λ (l : ℕ). is_some (mark l) in
    let all = all_from_yields_List test _ _ c.all.result c.all.ensures.ran (YieldsList-from_range 1 c.args.sequence (c.args.sequence - 1) refl refl) (λ x b q k. search (rules, some_mapped)) in
    all ∙ all_in_range test (λ l. test (suc l)) 1 (c.args.sequence - 1) (λ k. let e : 1 + k ≡ suc k = omega arith in ap test e)

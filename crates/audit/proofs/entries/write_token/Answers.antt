use Rattle.std.proofs.Common.{◌≡◌, true, ltb, ltb-true, List, [], ◌∷◌, length, get_or, map, codes, sym, ap, ◌∙◌, arith}
use lib.ListN.{length-map}
use Rattle.std.proofs.lemmas.List.{get_or-map}
use Rattle.std.proofs.lemmas.Bool.{lt-ltb}
use Rattle.figures.specs.Figures.{figure, line_of}
use Rattle.denom.specs.Denomination.{Token}
use Rattle.denom.specs.Views.{token_view, symbol_of}
use Rattle.protocol.specs.Audit.{token_supply, token_open, token_line}
use Rattle.protocol.specs.World.{held}
use Rattle.tables.specs.declared.types.Tables.{Tables}
use Rattle.tables.specs.View.{tokens_in}
use Rattle.world.specs.View.{view}
use Rattle.audit.specs.Slots.{no_token}
use Rattle.audit.proofs.Written.{first_and_others, filled_answer, filled_buffer}
use Rattle.audit.proofs.entries.write_token.Goals as goal

pub returns : goal.returns
returns g c =
    let w = view g.L.Ledger.meaning g.F.Book.meaning g.S.Book.meaning c.args.world.now in
    let t = c.in_ok-token.token.now in
    let rows = c.as_slice.result.now in
    let got = c.in_ok-token.ensures.lookup in
    let inside = ltb-true _ _ (sym got.0) in
    let known = ap (map token_view) c.as_slice.ensures ∙ ap (λ (t : Tables). tokens_in t.tokens) c.tables.ensures in
    let there : ltb c.args.number (length w.tokens) ≡ true = lt-ltb _ _ (omega (arith, inside, ap length known, length-map c.as_slice.result.now token_view)) in
    let seen : token_view t ≡ get_or w.tokens c.args.number no_token =
    ap token_view got.1
    ∙ sym (get_or-map token_view c.as_slice.result.now c.args.number t no_token inside)
    ∙ ap (λ (l : List Token). get_or l c.args.number no_token) known
    in
    let told =
    (λ i. line_of (codes "token") (figure t.chain ∷ symbol_of t.symbol ∷ figure (c.supply_of_token-supply.ensures i) ∷ figure (c.held-users.ensures.sum i) ∷ figure (c.open_of_token-carried.ensures.sum i) ∷ []))
    ∙ first_and_others (codes "token") (figure t.chain ∷ symbol_of t.symbol ∷ figure (token_supply w (token_view t)) ∷ figure (held w (token_view t)) ∷ figure (token_open w (token_view t)) ∷ [])
    ∙ ap (token_line w) seen
    in
    record {
      answer = filled_answer _ _ _ (token_line w (get_or w.tokens c.args.number no_token)) there c.put_token-len.ensures.length told;
      buffer = filled_buffer _ _ c.args.buffer.now _ (token_line w (get_or w.tokens c.args.number no_token)) there c.put_token-len.ensures.buffer told;
    }

use Rattle.std.proofs.Common.{◌≡◌, [], ◌∷◌, length, codes, sym, ap, ◌∙◌}
use lib.ListN.{length-map}
use Rattle.denom.specs.Views.{token_view}
use Rattle.figures.specs.Figures.{figure, line_of, over}
use Rattle.protocol.specs.Audit.{count_line}
use Rattle.tables.specs.declared.types.Tables.{Tables}
use Rattle.tables.specs.View.{link_view, packet_view, tokens_in, links_in, packets_in}
use Rattle.world.specs.View.{view}
use Rattle.audit.proofs.Written.{first_and_others}
use Rattle.audit.proofs.entries.write_counts.Goals as goal

pub returns : goal.returns
returns g c =
    let w = view g.L.Ledger.meaning g.F.Book.meaning g.S.Book.meaning c.args.world.now in
    let tokens = c.len-tokens.ensures ∙ sym (length-map _ token_view) ∙ ap (λ (t : Tables). length (tokens_in t.tokens)) c.tables-tables.ensures in
    let links = c.len-links.ensures ∙ sym (length-map _ link_view) ∙ ap (λ (t : Tables). length (links_in t.links)) c.tables-tables.ensures in
    let packets = c.len-packets.ensures ∙ sym (length-map _ packet_view) ∙ ap (λ (t : Tables). length (packets_in t.packets)) c.tables-tables.ensures in
    let told : line_of (codes "audit") (figure c.len-tokens.result ∷ figure c.len-links.result ∷ figure c.len-packets.result ∷ []) ≡ count_line w =
    (λ i. line_of (codes "audit") (figure (tokens i) ∷ figure (links i) ∷ figure (packets i) ∷ [])) ∙ first_and_others (codes "audit") (figure (length w.tokens) ∷ figure (length w.links) ∷ figure (length w.packets) ∷ []) in
    record {
      length = c.put_counts.ensures.length ∙ ap length told;
      buffer = c.put_counts.ensures.buffer ∙ ap (λ l. over l c.args.buffer.now) told;
    }

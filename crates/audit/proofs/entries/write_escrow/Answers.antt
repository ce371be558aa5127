use Rattle.std.proofs.Common.{◌≡◌, ◌+◌, ◌/◌, ◌%◌, [], ◌∷◌, codes, ◌∙◌}
use Rattle.figures.specs.Figures.{figure, line_of}
use Rattle.denom.specs.Denomination.{behind}
use Rattle.denom.specs.Text.{denom_text}
use Rattle.denom.specs.Views.{denom_view}
use Rattle.protocol.specs.Audit.{denom_at, escrow_held, vouchers, escrow_open, escrow_line}
use Rattle.protocol.specs.World.{supply_of, open_packets, on_lane_with}
use Rattle.world.specs.View.{view}
use Rattle.audit.proofs.EndsHold.{leads_back}
use Rattle.audit.proofs.Written.{first_and_others, filled_answer, filled_buffer}
use Rattle.audit.proofs.entries.write_escrow.Goals as goal

pub returns : goal.returns
returns g c =
    let w = view g.L.Ledger.meaning g.F.Book.meaning g.S.Book.meaning c.args.world.now in
    let lane = c.args.lane in
    let line = escrow_line w (lane / 2) (lane % 2) c.args.number in
    let at = c.in_ok-entry.ensures in
    let backed = c.vouchers_of-vouchers.ensures ∙ (λ i. supply_of w (at.far i).chain (behind (at.far i).channel (at.denomination i))) in
    let carried =
    c.open_across-carried.ensures.sum
    ∙ (λ i. open_packets w (on_lane_with (at.lane_is i) (at.denomination i)) + open_packets w (on_lane_with (leads_back lane i) (behind (at.far i).channel (at.denomination i))))
    in
    let told : line_of (codes "escrow") (figure (lane / 2) ∷ figure (lane % 2) ∷ denom_text (denom_view c.in_ok-entry.entry.denomination) ∷ figure c.in_ok-entry.entry.escrow ∷ figure c.vouchers_of-vouchers.result ∷ figure c.open_across-carried.result ∷ []) ≡ line =
    (λ i. line_of (codes "escrow") (figure (lane / 2) ∷ figure (lane % 2) ∷ denom_text (at.denomination i) ∷ figure (at.held i) ∷ figure (backed i) ∷ figure (carried i) ∷ [])) ∙ first_and_others (codes "escrow") (figure (lane / 2) ∷ figure (lane % 2) ∷ denom_text (denom_at w (lane / 2) (lane % 2) c.args.number) ∷ figure (escrow_held w (lane / 2) (lane % 2) c.args.number) ∷ figure (vouchers w (lane / 2) (lane % 2) c.args.number) ∷ figure (escrow_open w (lane / 2) (lane % 2) c.args.number) ∷ []) in
    record {
      answer = filled_answer _ _ _ line at.there c.put_escrow-len.ensures.length told;
      buffer = filled_buffer _ _ c.args.buffer.now _ line at.there c.put_escrow-len.ensures.buffer told;
    }

-- Every world has its past: conservation holds of it, and a line leads on.
use Rattle.std.proofs.Common.{◌≡◌, ℕ, ◌+◌, Bool, List, ◌∷◌, Some, None, Ok, Err, Option, Result, sym, ap, subst}
use Rattle.protocol.specs.Book.{Book}
use Rattle.protocol.specs.Calls.{Call, step}
use Rattle.protocol.specs.Laws.{world, open_after, there_is, issued, retired}
use Rattle.protocol.specs.Ledger.{Ledger}
use Rattle.protocol.specs.World.{World}
use Rattle.protocol.proofs.Whole.{conservation, supply_accounted}
use Rattle.commands.specs.Commands.{Request, call, audit, parsed}
use Rattle.session.specs.Session.{performed, line_by, carried_out}
use Rattle.session.specs.Conservation.{Kept, Conserves, Reached}

-- conservation of the world after a past
kept : (l : Ledger) (bs : Bool → Book) (past : List Call) → Kept l bs past (world l bs past)
kept l bs past =
    record {
      always = conservation l bs;
      backed = λ L D e hl hd nb. (conservation l bs).backed past L D e hl hd nb;
      moved = λ t later earlier is.
          let P : List Call → Type 0 = λ p. there_is (world l bs p) (open_after l bs p) t + retired l bs t later earlier ≡ there_is (world l bs earlier) (open_after l bs earlier) t + issued l bs t later earlier in
          subst P (sym is) ((conservation l bs).moved t later earlier);
      token_adds_up = (supply_accounted l bs).token_adds_up past;
    }

pub conserves : (w : World) → Conserves w
conserves w l bs past e = subst (Kept l bs past) e (kept l bs past)

performed_reaches : (l : Ledger) (bs : Bool → Book) (w : World) (q : Request) → Reached l bs w → Reached l bs (performed w q).0
performed_reaches l bs w (call k) r = (k ∷ r.0, ap (λ (x : World). (step x k).0) r.1)
performed_reaches l bs w audit r = r

line_reaches : (l : Ledger) (bs : Bool → Book) (w : World) (o : Result (Option Request) ℕ) → Reached l bs w → Reached l bs (line_by w o).0
line_reaches l bs w (Ok None) r = r
line_reaches l bs w (Ok (Some q)) r = performed_reaches l bs w q r
line_reaches l bs w (Err n) r = r

-- a line leads from a world that calls have reached to another
pub line_leads_on : (l : Ledger) (bs : Bool → Book) (w v : World) (line : List ℕ) → v ≡ (carried_out w line).0 → Reached l bs w → Reached l bs v
line_leads_on l bs w v line e r = subst (Reached l bs) (sym e) (line_reaches l bs w (parsed line) r)

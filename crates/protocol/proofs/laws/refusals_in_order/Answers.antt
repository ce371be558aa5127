use Rattle.std.proofs.Common.{◌≡◌, true, refl}
use Rattle.protocol.specs.World.{World}
use Rattle.protocol.specs.Calls.{Call, open_link, issue, retire, pay, send, receive, ack, timeout, tick, bar, unbar, home, refusals}
use Rattle.protocol.specs.Laws.{ascending_from}
use Rattle.protocol.proofs.laws.refusals_in_order.Goals as goal

in_order : (w : World) (c : Call) → ascending_from 0 (refusals w c) ≡ true
in_order w (open_link a b k) = refl
in_order w (issue c u s n) = refl
in_order w (retire c u e n) = refl
in_order w (pay c u v e n) = refl
in_order w (send c k u v e n t) = refl
in_order w (receive l d s) = refl
in_order w (ack l d s) = refl
in_order w (timeout l d s) = refl
in_order w (tick c n) = refl
in_order w (bar c u) = refl
in_order w (unbar c u) = refl
in_order w (home c e) = refl

pub returns : goal.returns
returns c = in_order

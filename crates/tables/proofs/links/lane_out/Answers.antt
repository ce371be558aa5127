use Rattle.std.proofs.Common.{sym, arith}
use Rattle.protocol.specs.World.{same_end, end_at}
use Rattle.tables.proofs.Ends.{first_end, second_end, passed_more, passed_all}
use Rattle.tables.proofs.links.lane_out.Goals as goal

pub returns-then-is : goal.returns-then-is
returns-then-is c =
    first_end (same_end (end_at c.args.chain c.args.channel)) c.args.links.now c.loop-i.i c.index-links-i.result c.loop-i-test.true c.index-links-i.is c.loop-i.invariant (sym c.if-is.ensures)

pub returns-then-is-2 : goal.returns-then-is-2
returns-then-is-2 c =
    second_end (same_end (end_at c.args.chain c.args.channel)) c.args.links.now c.loop-i.i c.index-links-i.result c.loop-i-test.true c.index-links-i.is c.loop-i.invariant (sym c.if-is.ensures) (sym c.if-is-2.ensures)

pub loop-i-preserved : goal.loop-i-preserved
loop-i-preserved c =
    passed_more (same_end (end_at c.args.chain c.args.channel)) c.args.links.now c.loop-i.i c.index-links-i.result c.loop-i-test.true c.index-links-i.is c.loop-i.invariant (sym c.if-is.ensures) (sym c.if-is-2.ensures)

pub returns : goal.returns
returns c =
    passed_all (same_end (end_at c.args.chain c.args.channel)) c.args.links.now c.loop-i.i c.loop-i-test.false (omega arith) c.loop-i.invariant

use Rattle.std.proofs.Common.{arith, get_or, refl}
use Rattle.jdamage.proofs.RangeLemmas.{reached_all, reached_more}
use Rattle.jdamage.proofs.ranges.reached.Goals as goal

pub returns : goal.returns
returns c = reached_all c.args.ranges.now c.loop-from.found.items c.loop-from.from-index c.loop-from.end c.loop-from.invariant (omega (arith, c.loop-from.auto.from-index-end, c.loop-from-test.false)) c.requires

pub loop-from-preserved : goal.loop-from-preserved
loop-from-preserved c =
    reached_more c.args.ranges.now c.loop-from.found.items c.push.new.self.items c.loop-from.from-index c.loop-from.end c.max-end.result (get_or c.args.ranges.now c.loop-from.from-index (0, 0)) c.loop-from.invariant refl
    c.max-end.ensures c.in_ok-push.ensures.items

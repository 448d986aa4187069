use Rattle.jdamage.proofs.RangeLemmas.{Reached}
use Rattle.jdamage.proofs.ranges.reached.Given as goal

abbrev pub invariant-loop-from : goal.invariant-loop-from
invariant-loop-from l = Reached l.ranges l.found.items l.from-index l.end

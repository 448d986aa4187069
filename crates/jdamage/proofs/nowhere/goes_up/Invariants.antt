use Rattle.jdamage.specs.Ways.{first_name}
use Rattle.jdamage.proofs.NowhereLemmas.{GoOn}
use Rattle.jdamage.proofs.nowhere.goes_up.Given as goal

abbrev pub invariant-loop-left : goal.invariant-loop-left
invariant-loop-left l = GoOn l.mounted.state (first_name l.mounted.state) l.met l.here

abbrev pub decreases-loop-left : goal.decreases-loop-left
decreases-loop-left l = l.left

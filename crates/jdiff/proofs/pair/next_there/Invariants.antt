use Rattle.std.proofs.Common.{◌≡◌, length}
use Rattle.jdiff.proofs.PairLemmas.{those_there}
use Rattle.jdiff.proofs.pair.next_there.Given as goal

abbrev pub invariant-loop-name : goal.invariant-loop-name
invariant-loop-name l = those_there l.mounted.state l.names ≡ those_there l.mounted.state l.initial.names

abbrev pub decreases-loop-name : goal.decreases-loop-name
decreases-loop-name l = length l.names

use Rattle.jnode.specs.Tails.{IsTailFrom}
use Rattle.jnode.proofs.weak.least_hidden.Given as goal

abbrev pub invariant-loop-place : goal.invariant-loop-place
invariant-loop-place l = IsTailFrom l.bytes l.place l.tail

abbrev pub decreases-loop-place : goal.decreases-loop-place
decreases-loop-place l = l.place

abbrev pub invariant-loop-place-2 : goal.invariant-loop-place-2
invariant-loop-place-2 l = IsTailFrom l.bytes l.place l.tail

abbrev pub decreases-loop-place-2 : goal.decreases-loop-place-2
decreases-loop-place-2 l = l.place

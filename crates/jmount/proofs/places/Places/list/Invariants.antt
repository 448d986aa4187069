use Rattle.std.proofs.Common.{length, ◌-◌}
use Rattle.jmount.specs.Places.{AreVersionPlaces}
use Rattle.jmount.proofs.places.Places.list.Given as goal

abbrev pub invariant-loop-node : goal.invariant-loop-node
invariant-loop-node l = AreVersionPlaces l.nodes l.self

abbrev pub decreases-loop-node : goal.decreases-loop-node
decreases-loop-node l = length l.nodes - l.self.listed

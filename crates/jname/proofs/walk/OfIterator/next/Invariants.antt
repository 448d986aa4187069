use Rattle.std.proofs.Common.{◌≡◌, length}
use Rattle.jname.specs.NameMaps.{names_left}
use Rattle.jname.specs.Walk.{names_under}
use Rattle.jname.proofs.walk.OfIterator.next.Given as goal

abbrev pub invariant-loop-name : goal.invariant-loop-name
invariant-loop-name l = names_under (names_left l.self-inside.left) ≡ names_under (names_left l.initial.self-inside.left)

abbrev pub decreases-loop-name : goal.decreases-loop-name
decreases-loop-name l = length (names_left l.self-inside.left)

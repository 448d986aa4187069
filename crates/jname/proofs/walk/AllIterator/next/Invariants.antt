use Rattle.std.proofs.Common.{◌≡◌, length, map, ◌++◌}
use Rattle.jname.specs.Walk.{with_parent, names_within}
use Rattle.jname.proofs.walk.AllIterator.next.Given as goal

abbrev pub invariant-loop-name : goal.invariant-loop-name
invariant-loop-name l =
    map (with_parent l.self-inside.pino) l.self-inside.names ++ names_within l.self-inside.directories
    ≡ map (with_parent l.initial.self-inside.pino) l.initial.self-inside.names ++ names_within l.initial.self-inside.directories

abbrev pub decreases-loop-name : goal.decreases-loop-name
decreases-loop-name l = length l.self-inside.directories

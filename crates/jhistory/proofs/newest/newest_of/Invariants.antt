use Rattle.std.proofs.Common.{take}
use Rattle.jhistory.specs.NewestEntries.{HasNewest}
use Rattle.jhistory.proofs.newest.newest_of.Given as goal

abbrev pub invariant-loop-node : goal.invariant-loop-node
invariant-loop-node l = HasNewest (take l.node-index l.nodes) l.newest

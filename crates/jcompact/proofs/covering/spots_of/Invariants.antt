use Rattle.std.proofs.Common.{ℕ, ◌<◌, get_or}
use Rattle.jcompact.specs.Matters.{Placed}
use Rattle.jcompact.specs.Taking.{HasEnds}
use Rattle.jcompact.proofs.covering.spots_of.Given as goal

abbrev pub invariant-loop-node : goal.invariant-loop-node
invariant-loop-node l = (k : ℕ) (d : Placed) → k < l.node-index → HasEnds l.spots (get_or l.nodes k d).1

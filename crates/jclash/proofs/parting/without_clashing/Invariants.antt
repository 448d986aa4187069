use Rattle.std.proofs.Common.{◌≤◌, length, drop}
use Rattle.std.specs.Prelude.{reverse}
use Rattle.jclash.specs.Keys.{KnowsNodes}
use Rattle.jclash.specs.Parting.{Parts}
use Rattle.jclash.proofs.parting.without_clashing.Given as goal

abbrev pub invariant-loop-i : goal.invariant-loop-i
invariant-loop-i l = record {
  within : l.i ≤ length l.nodes;
  knows : KnowsNodes (drop l.i l.nodes) l.known;
  parts : Parts (drop l.i l.nodes) (reverse l.parted.stay.items) (reverse l.parted.left.items);
}

abbrev pub decreases-loop-i : goal.decreases-loop-i
decreases-loop-i l = l.i

use Rattle.std.proofs.Common.{◌≤◌, ◌-◌, length, take}
use Rattle.jpacked.specs.Forms.{ArePacked}
use Rattle.jpacked.proofs.planning.choose_all.Given as goal

abbrev pub invariant-loop-i : goal.invariant-loop-i
invariant-loop-i g l = record {
  within : l.i ≤ length l.steps;
  packed : ArePacked g.E.Order.order l.index (take l.i l.steps) l.held l.streams.items l.sum;
}

abbrev pub decreases-loop-i : goal.decreases-loop-i
decreases-loop-i g l = length l.steps - l.i

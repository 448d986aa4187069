use Rattle.std.proofs.Common.{◌≡◌, ◌≤◌, ◌-◌, ◌*◌, length, take}
use Rattle.jlog.specs.Places.{needed}
use Rattle.jpacked.specs.Forms.{step_forms}
use Rattle.jpacked.proofs.room.needed.Given as goal

abbrev pub invariant-loop-i : goal.invariant-loop-i
invariant-loop-i g l = record {
  within : l.i ≤ length l.steps;
  sum_is : l.sum ≡ needed (take l.i (step_forms g.E.Order.order l._index l.steps l.streams));
  small : l.sum ≤ 16456 * l.i;
}

abbrev pub decreases-loop-i : goal.decreases-loop-i
decreases-loop-i g l = length l.steps - l.i

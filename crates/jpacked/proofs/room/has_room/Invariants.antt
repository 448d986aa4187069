use Rattle.std.proofs.Common.{◌≡◌, ◌≤◌, ◌-◌, length, take}
use Rattle.std.specs.Prelude.{IsTrue}
use Rattle.jlog.specs.Places.{fit, end_of_all}
use Rattle.jpacked.specs.Forms.{step_forms}
use Rattle.jpacked.proofs.room.has_room.Given as goal

abbrev pub invariant-loop-i : goal.invariant-loop-i
invariant-loop-i g l = record {
  within : l.i ≤ length l.steps;
  end_is : l.end ≡ end_of_all l.flash.size l.cursor (take l.i (step_forms g.E.Order.order l._index l.steps l.streams));
  fits : IsTrue (fit l.flash.size l.flash.count l.cursor (take l.i (step_forms g.E.Order.order l._index l.steps l.streams)));
}

abbrev pub decreases-loop-i : goal.decreases-loop-i
decreases-loop-i g l = length l.steps - l.i

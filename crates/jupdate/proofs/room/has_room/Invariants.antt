use Rattle.std.proofs.Common.{◌≡◌, ◌≤◌, ◌-◌, length, take}
use Rattle.std.specs.Prelude.{IsTrue}
use Rattle.jrests.specs.Shares.{fit_in}
use Rattle.jopenings.specs.After.{row_after_all}
use Rattle.jpacked.specs.Forms.{step_forms}
use Rattle.jupdate.specs.Rows.{ends_of, left_at}
use Rattle.jupdate.proofs.room.has_room.Given as goal

abbrev pub invariant-loop-i : goal.invariant-loop-i
invariant-loop-i g l = record {
  within : l.i ≤ length l.steps;
  left : left_at (ends_of l.stretches) l.next ≡ row_after_all l.flash.size (left_at (ends_of l.stretches) l.fn.cursor) (take l.i (step_forms g.E.Order.order l._index l.steps l.streams));
  fits : IsTrue (fit_in l.flash.size (left_at (ends_of l.stretches) l.fn.cursor) (take l.i (step_forms g.E.Order.order l._index l.steps l.streams)));
}

abbrev pub decreases-loop-i : goal.decreases-loop-i
decreases-loop-i g l = length l.steps - l.i

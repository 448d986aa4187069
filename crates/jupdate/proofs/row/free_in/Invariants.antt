use Rattle.std.proofs.Common.{◌≡◌, ◌≤◌, ◌+◌, ◌-◌, ◌*◌, length}
use Rattle.std.specs.List.{AllByRecursion}
use Rattle.jupdate.specs.Rows.{IsOpen, ends_of, free_in, left_at}
use Rattle.jupdate.proofs.row.free_in.Given as goal

abbrev pub invariant-loop-next : goal.invariant-loop-next
invariant-loop-next l = record {
  openings : AllByRecursion (IsOpen l.flash.size l.flash.count) (left_at (ends_of l.stretches) l.next);
  sum_is : l.sum + free_in l.flash.size (left_at (ends_of l.stretches) l.next) ≡ free_in l.flash.size (left_at (ends_of l.stretches) l.fn.cursor);
}

abbrev pub decreases-loop-next : goal.decreases-loop-next
decreases-loop-next l = length l.stretches - l.next.passed

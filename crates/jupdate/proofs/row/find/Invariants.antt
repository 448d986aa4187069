use Rattle.std.proofs.Common.{◌≡◌, ◌-◌, drop, length}
use Rattle.std.specs.List.{AllByRecursion}
use Rattle.jupdate.specs.Rows.{IsOpen, ends_of, left_at, reached}
use Rattle.jupdate.proofs.row.find.Given as goal

abbrev pub invariant-loop-next : goal.invariant-loop-next
invariant-loop-next l = record {
  openings : AllByRecursion (IsOpen l.flash.size l.flash.count) (left_at (ends_of l.stretches) l.next);
  begins : left_at (ends_of l.stretches) l.fn.cursor ≡ drop l.fn.cursor.passed (ends_of l.stretches) → left_at (ends_of l.stretches) l.next ≡ drop l.next.passed (ends_of l.stretches);
  same : reached l.flash.size (left_at (ends_of l.stretches) l.fn.cursor) l.len ≡ reached l.flash.size (left_at (ends_of l.stretches) l.next) l.len;
}

abbrev pub decreases-loop-next : goal.decreases-loop-next
decreases-loop-next l = length l.stretches - l.next.passed

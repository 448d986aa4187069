use Rattle.std.proofs.Common.{◌≡◌, ◌-◌, length}
use Rattle.jhalts.specs.Walk.{from_block, row_of_walk}
use Rattle.jhalts.proofs.walking.reach.Given as goal

abbrev pub invariant-loop-next : goal.invariant-loop-next
invariant-loop-next l = record {
  same : from_block l.block (row_of_walk l.stretches l.fn.walk) ≡ from_block l.block (row_of_walk l.stretches l.next);
  flash : l.next.flash ≡ l.fn.walk.flash;
}

abbrev pub decreases-loop-next : goal.decreases-loop-next
decreases-loop-next l = length l.stretches - l.next.passed

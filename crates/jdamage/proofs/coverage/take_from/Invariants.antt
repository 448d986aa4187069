use Rattle.std.proofs.Common.{List, length}
use Rattle.jdamage.specs.Sweep.{Ascends, Numbers, Taken}
use Rattle.jgaps.specs.declared.fields.Stretch.{Stretch}
use Rattle.jdamage.proofs.coverage.take_from.Given as goal

abbrev pub invariant-loop-stretch : goal.invariant-loop-stretch
invariant-loop-stretch l = record {
  ascends : Ascends l.left.items;
  taken : (all : List Stretch) (spots : Numbers) → Taken l.version all spots l.fn.left.items l.fn.bare l.fn.numbers → Taken l.version all spots l.left.items l.bare l.numbers;
}

abbrev pub decreases-loop-stretch : goal.decreases-loop-stretch
decreases-loop-stretch l = length l.left.items

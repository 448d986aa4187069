use Rattle.std.proofs.Common.{ℕ, List, [], length}
use Rattle.jdamage.specs.Ranges.{Sifted}
use Rattle.jgaps.specs.declared.fields.Stretch.{Stretch}
use Rattle.jdamage.proofs.ranges.add_tops.Given as goal

abbrev pub invariant-loop-top : goal.invariant-loop-top
invariant-loop-top l = (lost : List (ℕ × ℕ)) (all : List Stretch) → Sifted lost all [] l.fn.found.items l.fn.tops → Sifted lost all [] l.found.items l.left

abbrev pub decreases-loop-top : goal.decreases-loop-top
decreases-loop-top l = length l.left.entries

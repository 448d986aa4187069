use Rattle.std.proofs.Common.{◌≡◌, ◌++◌, List, IsPermutation, flat_map}
use Rattle.jmount.specs.Shown.{objects_in}
use Rattle.jgaps.specs.Gaps.{gaps_of_object}
use Rattle.jgaps.specs.declared.fields.Stretch.{Stretch}
use Rattle.jgaps.proofs.finding.gaps_of.Given as goal

abbrev pub invariant-loop-ino : goal.invariant-loop-ino
invariant-loop-ino g l = record {
  can : (goal.iterator-loop-ino g).can_next l.ino-iterator;
  finite : (goal.iterator-loop-ino g).is_finite l.ino-iterator;
  so_far : (all : List Stretch) → IsPermutation all l.sound.items
      → l.gaps.items ++ flat_map (gaps_of_object all) l.ino-iterator ≡ flat_map (gaps_of_object all) (objects_in l.mounted.state);
}

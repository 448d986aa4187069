use Rattle.jlook.proofs.FoundLemmas.{AreFound}
use Rattle.jlook.proofs.chosen.symlinks_of.Given as goal

abbrev pub invariant-loop-ino : goal.invariant-loop-ino
invariant-loop-ino l = record {
  can : (goal.iterator-loop-ino).can_next l.ino-iterator;
  finite : (goal.iterator-loop-ino).is_finite l.ino-iterator;
  so_far : AreFound l.mounted.state l.ino-iterator l.numbers;
}

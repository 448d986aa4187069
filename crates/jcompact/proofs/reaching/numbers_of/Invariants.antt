use Rattle.jcompact.proofs.ReachingLemmas.{AreAdded}
use Rattle.jcompact.proofs.reaching.numbers_of.Given as goal

abbrev pub invariant-loop-ino : goal.invariant-loop-ino
invariant-loop-ino l = record {
  can : (goal.iterator-loop-ino).can_next l.ino-iterator;
  finite : (goal.iterator-loop-ino).is_finite l.ino-iterator;
  so_far : AreAdded l.mounted.state l.ino-iterator l.numbers;
}

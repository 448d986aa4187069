use Rattle.jdeleted.proofs.FindingLemmas.{AreFound}
use Rattle.jdeleted.proofs.finding.deleted_in.Given as goal

abbrev pub invariant-loop-ino : goal.invariant-loop-ino
invariant-loop-ino l = record {
  can : (goal.iterator-loop-ino).can_next l.ino-iterator;
  finite : (goal.iterator-loop-ino).is_finite l.ino-iterator;
  so_far : AreFound l.mounted.state l.unreached l.ino-iterator l.numbers.items;
}

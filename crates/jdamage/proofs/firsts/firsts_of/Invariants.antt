use Rattle.jdamage.proofs.WayLemmas.{FirstsSoFar}
use Rattle.jdamage.proofs.firsts.firsts_of.Given as goal

abbrev pub invariant-loop-name : goal.invariant-loop-name
invariant-loop-name l = record {
  can : (goal.iterator-loop-name).can_next l.name-iterator;
  finite : (goal.iterator-loop-name).is_finite l.name-iterator;
  so_far : FirstsSoFar l.mounted.state l.dirs l.firsts l.name-iterator;
}

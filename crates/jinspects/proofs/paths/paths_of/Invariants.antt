use Rattle.jinspects.proofs.PathLemmas.{PathsSoFar}
use Rattle.jinspects.proofs.paths.paths_of.Given as goal

abbrev pub invariant-loop-name : goal.invariant-loop-name
invariant-loop-name l = record {
  can : (goal.iterator-loop-name).can_next l.name-iterator;
  finite : (goal.iterator-loop-name).is_finite l.name-iterator;
  so_far : PathsSoFar l.mounted.state l.paths l.name-iterator;
}

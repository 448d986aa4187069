use Rattle.std.proofs.Common.{◌≡◌, ◌+◌, length, vec_len}
use Rattle.jcompact.specs.Reaching.{IsMetUpTo}
use Rattle.jcompact.proofs.ReachingLemmas.{IsReadOn}
use Rattle.jcompact.proofs.reaching.take_reached.Given as goal

abbrev pub invariant-loop-ino : goal.invariant-loop-ino
invariant-loop-ino l = record {
  can : (goal.iterator-loop-ino).can_next l.ino-iterator;
  finite : (goal.iterator-loop-ino).is_finite l.ino-iterator;
  reading : IsMetUpTo l.mounted.state l.fn.above.items l.fn.unmet → IsReadOn l.mounted.state l.dir l.ino-iterator l.above.items l.unmet;
  as_many : vec_len l.above + length l.unmet.keys ≡ vec_len l.initial.above + length l.initial.unmet.keys;
}

abbrev pub invariant-loop-dir : goal.invariant-loop-dir
invariant-loop-dir l = IsMetUpTo l.mounted.state l.fn.above.items l.fn.unmet → IsMetUpTo l.mounted.state l.above.items l.unmet

abbrev pub decreases-loop-dir : goal.decreases-loop-dir
decreases-loop-dir l = vec_len l.above + length l.unmet.keys

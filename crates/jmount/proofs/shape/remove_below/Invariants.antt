use Rattle.std.proofs.Common.{◌≡◌, ℕ, ◌+◌, Bool, length, vec_len}
use Rattle.jmount.specs.Shaping.{IsPeeledUpTo}
use Rattle.jmount.proofs.ShapingLemmas.{IsReading}
use Rattle.jmount.proofs.shape.remove_below.Given as goal

abbrev pub invariant-loop-ino : goal.invariant-loop-ino
invariant-loop-ino l = record {
  can : (goal.iterator-loop-ino).can_next l.ino-iterator;
  finite : (goal.iterator-loop-ino).is_finite l.ino-iterator;
  peeled : (apart : ℕ → Bool) → IsPeeledUpTo l.tree apart l.fn.above.items l.fn.left → IsReading l.tree apart l.dir l.ino-iterator l.above.items l.left;
  as_many : vec_len l.above + length l.left.keys ≡ vec_len l.initial.above + length l.initial.left.keys;
}

abbrev pub invariant-loop-dir : goal.invariant-loop-dir
invariant-loop-dir l = (apart : ℕ → Bool) → IsPeeledUpTo l.tree apart l.fn.above.items l.fn.left → IsPeeledUpTo l.tree apart l.above.items l.left

abbrev pub decreases-loop-dir : goal.decreases-loop-dir
decreases-loop-dir l = vec_len l.above + length l.left.keys

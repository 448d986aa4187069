use Rattle.std.proofs.Common.{◌≡◌}
use Rattle.jlisting.specs.Broken.{later_space}
use Rattle.jlisting.proofs.BrokenLemmas.{left_len, left_words}
use Rattle.jlisting.proofs.broken.later_space.Given as goal

abbrev pub invariant-loop-left : goal.invariant-loop-left
invariant-loop-left l = later_space (left_words l.left) ≡ later_space (left_words l.fn.words)

abbrev pub decreases-loop-left : goal.decreases-loop-left
decreases-loop-left l = left_len l.left

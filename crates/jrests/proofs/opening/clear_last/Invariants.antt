use Rattle.std.proofs.Common.{◌≡◌, length}
use Rattle.jscan.specs.ExtentsLeft.{extents_left}
use Rattle.jrests.specs.Begun.{clear_last}
use Rattle.jrests.proofs.opening.clear_last.Given as goal

abbrev pub invariant-loop-extent : goal.invariant-loop-extent
invariant-loop-extent g l = clear_last (extents_left l.extents) ≡ clear_last (extents_left l.initial.extents)

abbrev pub decreases-loop-extent : goal.decreases-loop-extent
decreases-loop-extent g l = length (extents_left l.extents)

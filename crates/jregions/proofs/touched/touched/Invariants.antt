use Rattle.jnode.specs.Writing.{filled}
use Rattle.jscan.specs.Extents.{extents}
use Rattle.jscan.specs.ExtentsLeft.{extents_left}
use Rattle.jregions.specs.Units.{unit_count}
use Rattle.jregions.proofs.TouchedLemmas.{MarksGoOn}
use Rattle.jregions.proofs.touched.touched.Given as goal

abbrev pub invariant-loop-extent : goal.invariant-loop-extent
invariant-loop-extent g l = MarksGoOn (unit_count l.file) (extents g.E.Order.order 0 (filled l.file)) (extents_left l.extent-iterator) l.units.items

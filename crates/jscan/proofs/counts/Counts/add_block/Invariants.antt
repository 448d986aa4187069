use Rattle.jscan.specs.Extents.{extents}
use Rattle.jscan.specs.ExtentsLeft.{extents_left}
use Rattle.jscan.proofs.CountLemmas.{Counting}
use Rattle.jscan.proofs.counts.Counts.add_block.Given as goal

abbrev pub invariant-loop-extent : goal.invariant-loop-extent
invariant-loop-extent g l = Counting l.fn.self (extents g.E.Order.order l.start l.block) (extents_left l.extent-iterator) l.self

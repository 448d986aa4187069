use Rattle.std.proofs.Common.{length}
use Rattle.jdamage.proofs.HiddenLemmas.{Swept}
use Rattle.jdamage.proofs.hidden.sweep.Given as goal

abbrev pub invariant-loop-addr : goal.invariant-loop-addr
invariant-loop-addr g l = Swept g.E.Order.order l.mounted l.fn.sound.items l.fn.spots l.fn.nodes.items l.lost.items l.left.items l.bare l.numbers l.hidden

abbrev pub decreases-loop-addr : goal.decreases-loop-addr
decreases-loop-addr g l = length l.lost.items

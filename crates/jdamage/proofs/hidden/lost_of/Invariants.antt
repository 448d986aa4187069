use Rattle.std.proofs.Common.{◌≡◌, take}
use Rattle.std.specs.Prelude.{filter_map}
use Rattle.jdamage.specs.Hidden.{lost_if}
use Rattle.jdamage.proofs.hidden.lost_of.Given as goal

abbrev pub invariant-loop-addr : goal.invariant-loop-addr
invariant-loop-addr g l = l.lost.items ≡ filter_map (lost_if g.E.Order.order l.image) (take l.addr-index l.damaged)

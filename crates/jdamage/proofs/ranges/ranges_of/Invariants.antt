use Rattle.std.proofs.Common.{◌≡◌, take}
use Rattle.std.specs.Prelude.{filter_map}
use Rattle.jdamage.specs.Ranges.{range_if}
use Rattle.jdamage.proofs.ranges.ranges_of.Given as goal

abbrev pub invariant-loop-addr : goal.invariant-loop-addr
invariant-loop-addr g l = l.ranges.items ≡ filter_map (range_if g.E.Order.order l.image) (take l.addr-index l.damaged)

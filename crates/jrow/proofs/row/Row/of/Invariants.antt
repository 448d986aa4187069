use Rattle.std.proofs.Common.{◌≡◌}
use Rattle.jrow.specs.Row.{blank_blocks}
use Rattle.jrow.proofs.row.Row.of.Given as goal

abbrev pub invariant-loop-block : goal.invariant-loop-block
invariant-loop-block g l = l.row.items ≡ blank_blocks g.E.Order.order l.geometry.block l.block l.image

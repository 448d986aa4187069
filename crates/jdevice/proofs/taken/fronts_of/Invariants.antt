use Rattle.std.proofs.Common.{◌≡◌, take}
use Rattle.jopenings.specs.After.{fronts}
use Rattle.jdevice.proofs.taken.fronts_of.Given as goal

abbrev pub invariant-loop-block : goal.invariant-loop-block
invariant-loop-block l = l.row.items ≡ fronts (take l.block-index l.blocks)

use Rattle.std.proofs.Common.{◌≡◌, ◌+◌, ◌-◌, ◌*◌}
use Rattle.jinfo.specs.BlockSizes.{first_upwards, size_count, least_passing}
use Rattle.jinfo.specs.Marks.{may_be_by}
use Rattle.jinfo.proofs.marks.Marks.least.Given as goal

abbrev pub invariant-loop-k : goal.invariant-loop-k
invariant-loop-k l = first_upwards (may_be_by l.self) (size_count - l.k) (4096 + 4 * l.k) ≡ least_passing (may_be_by l.self)

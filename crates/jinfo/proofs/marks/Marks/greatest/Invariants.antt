use Rattle.std.proofs.Common.{◌≡◌, ◌-◌, ◌*◌}
use Rattle.jinfo.specs.BlockSizes.{first_downwards, size_count, greatest_passing}
use Rattle.jinfo.specs.Marks.{may_be_by}
use Rattle.jinfo.proofs.marks.Marks.greatest.Given as goal

abbrev pub invariant-loop-k : goal.invariant-loop-k
invariant-loop-k l = first_downwards (may_be_by l.self) (size_count - l.k) (4194304 - 4 * l.k) ≡ greatest_passing (may_be_by l.self)

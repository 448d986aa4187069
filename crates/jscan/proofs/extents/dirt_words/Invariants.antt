use Rattle.std.proofs.Common.{◌≡◌, ◌%◌, ◌≤◌, ◌-◌, length}
use Rattle.jscan.specs.Runs.{BeginsRun}
use Rattle.jscan.specs.declared.extent.ExtentKind.TheVariants.{Dirt}
use Rattle.jscan.proofs.extents.dirt_words.Given as goal

abbrev pub invariant-loop-end : goal.invariant-loop-end
invariant-loop-end g l = record {
  least : l.begun ≤ l.end;
  within : l.end ≤ length l.rest;
  words : l.end % 4 ≡ 0;
  begins : BeginsRun g.E.Order.order l.rest l.end Dirt;
}

abbrev pub decreases-loop-end : goal.decreases-loop-end
decreases-loop-end g l = length l.rest - l.end

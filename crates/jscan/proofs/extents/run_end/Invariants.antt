use Rattle.std.proofs.Common.{◌≡◌, ◌%◌, ◌≤◌, ◌-◌, length}
use Rattle.jscan.specs.Runs.{BeginsRun}
use Rattle.jscan.proofs.extents.run_end.Given as goal

abbrev pub invariant-loop-len : goal.invariant-loop-len
invariant-loop-len g l = record {
  least : l.begun ≤ l.end;
  within : l.end ≤ length l.rest;
  words : l.end % 4 ≡ 0;
  begins : BeginsRun g.E.Order.order l.rest l.end l.kind;
}

abbrev pub decreases-loop-len : goal.decreases-loop-len
decreases-loop-len g l = length l.rest - l.end

use Rattle.std.proofs.Common.{◌≡◌, ◌*◌, ◌≤◌, length, take}
use Rattle.flashbase.specs.Bytes.{erased}
use Rattle.flashbase.proofs.bytes.erased_run.Given as goal

abbrev pub invariant-loop-lanes : goal.invariant-loop-lanes
invariant-loop-lanes l = record {
  start : l.start ≡ l.lanes-index * 64;
  within : l.start ≤ length l.bytes;
  erased : take l.start l.bytes ≡ erased l.start;
}

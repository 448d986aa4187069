use Rattle.std.proofs.Common.{◌≡◌, ◌++◌, ◌-◌, ◌≤◌}
use Rattle.flashbase.specs.Bytes.{erased}
use Rattle.flashbase.specs.Crc.{crc_of}
use Rattle.flashbase.proofs.part.padded_crc.Given as goal

abbrev pub invariant-loop-done : goal.invariant-loop-done
invariant-loop-done l = record {
  sum : l.sum ≡ crc_of (l.bytes ++ erased l.done);
  within : l.done ≤ l.missing;
}

abbrev pub decreases-loop-done : goal.decreases-loop-done
decreases-loop-done l = l.missing - l.done

use Rattle.std.proofs.Common.{◌≤◌, ◌-◌, take}
use Rattle.sha2.specs.Hashers.{Holds256}
use Rattle.jmount.specs.Shown.{readable}
use Rattle.jpast.proofs.digest.digest_of.Given as goal

abbrev pub invariant-loop-offset : goal.invariant-loop-offset
invariant-loop-offset l = record {
  held : Holds256 l.hasher (take l.offset (readable l.mounted.state l.ino));
  within : l.offset ≤ l.size;
}

abbrev pub decreases-loop-offset : goal.decreases-loop-offset
decreases-loop-offset l = l.size - l.offset

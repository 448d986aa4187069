use Rattle.std.proofs.Common.{◌≡◌, ◌≤◌, length, take}
use Rattle.jcuts.specs.Standing.{whole_len}
use Rattle.jcuts.proofs.standing.whole_len.Given as goal

abbrev pub invariant-loop-len : goal.invariant-loop-len
invariant-loop-len l = record {
  within : l.len ≤ length l.node;
  same : whole_len (take l.len l.node) ≡ whole_len l.node;
}

abbrev pub decreases-loop-len : goal.decreases-loop-len
decreases-loop-len l = l.len

use Rattle.std.proofs.Common.{◌≡◌, ◌<◌, ◌≤◌, ◌-◌, ◌^◌, length, drop}
use Rattle.jcommand.specs.Sizes.{scaled_from}
use Rattle.jcommand.proofs.sizes.scaled.Given as goal

abbrev pub invariant-loop-at : goal.invariant-loop-at
invariant-loop-at l = record {
  same : scaled_from l.n (drop l.at l.text) ≡ scaled_from 0 l.text;
  fits : l.n < 2 ^ 32;
  within : l.at ≤ length l.text;
}

abbrev pub decreases-loop-at : goal.decreases-loop-at
decreases-loop-at l = length l.text - l.at

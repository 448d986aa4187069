use Rattle.std.proofs.Common.{◌≡◌, ◌≤◌, ◌+◌, ℕ, List, [], length}
use Rattle.jdamage.specs.Ways.{climbed, name_up, path_below}
use Rattle.jdamage.proofs.ways_up.WaysUp.way_len.Given as goal

abbrev pub invariant-loop-left : goal.invariant-loop-left
invariant-loop-left l = record {
  few : l.left ≤ l.self.steps;
  names : List (List ℕ);
  count : length names + l.left ≡ l.self.steps;
  way : climbed l.self.mounted.now.state (name_up l.self.mounted.now.state l.self.walked) l.left l.here names ≡ path_below l.self.mounted.now.state l.dir [];
}

abbrev pub decreases-loop-left : goal.decreases-loop-left
decreases-loop-left l = l.left

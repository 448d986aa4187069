use Rattle.std.proofs.Common.{◌≡◌, ◌≤◌}
use Rattle.std.specs.Prelude.{reverse, vec_capacity}
use Rattle.jdamage.specs.Ways.{climbed, name_up, names_held, path_below}
use Rattle.jdamage.proofs.ways_up.climb.Given as goal

abbrev pub invariant-loop-left : goal.invariant-loop-left
invariant-loop-left l = record {
  way : climbed l.ways.mounted.now.state (name_up l.ways.mounted.now.state l.ways.walked) l.left l.here (reverse (names_held l.path)) ≡ path_below l.ways.mounted.now.state l.dir (reverse (names_held l.fn.path));
  capacity : vec_capacity l.fn.path ≤ vec_capacity l.path;
}

abbrev pub decreases-loop-left : goal.decreases-loop-left
decreases-loop-left l = l.left

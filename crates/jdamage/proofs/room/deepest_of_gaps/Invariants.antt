use Rattle.std.proofs.Common.{ℕ, ◌+◌, ◌^◌, ◌<◌, ◌≤◌, get_or}
use Rattle.jgaps.specs.declared.gap.Gap.{Gap}
use Rattle.jdamage.specs.Room.{PathsFit, names_told}
use Rattle.jdamage.proofs.room.deepest_of_gaps.Given as goal

abbrev pub invariant-loop-gap : goal.invariant-loop-gap
invariant-loop-gap l = record {
  few : l.most ≤ 2 ^ 32;
  below : (k : ℕ) (d : Gap) → k < l.gap-index → PathsFit l.ways.up.mounted.now.state (l.most + 1) (names_told l.ways.up.mounted.now.state (get_or l.gaps k d).ino);
}

use Rattle.std.proofs.Common.{ℕ, ◌+◌, ◌^◌, ◌<◌, ◌≤◌, get_or}
use Rattle.jdamage.specs.Ways.{HeldName, depth}
use Rattle.jdamage.proofs.room.deepest.Given as goal

abbrev pub invariant-loop-pino : goal.invariant-loop-pino
invariant-loop-pino l = record {
  few : l.most ≤ 2 ^ 32;
  below : (k : ℕ) (d : HeldName) → k < l.pino-index → depth l.ways.up.mounted.now.state (get_or l.names k d).0 < l.most + 1;
}

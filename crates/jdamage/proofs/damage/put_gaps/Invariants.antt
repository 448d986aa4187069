use Rattle.std.proofs.Common.{◌≡◌, ◌≤◌, take}
use Rattle.std.specs.Prelude.{sum_by, vec_capacity}
use Rattle.std.specs.List.{flat_map}
use Rattle.std.specs.Io.KnownBytes.{Appends}
use Rattle.jdamage.specs.Damage.{gap_text, reached_once}
use Rattle.jdamage.proofs.damage.put_gaps.Given as goal

abbrev pub invariant-loop-gap : goal.invariant-loop-gap
invariant-loop-gap g l = record {
  put : Appends (g.T.Sink.taken l.fn.sink) (g.T.Sink.taken l.sink) (flat_map (gap_text l.ways.up.mounted.now.state) (take l.gap-index l.gaps));
  failed : g.T.Sink.failures l.sink ≡ g.T.Sink.failures l.fn.sink;
  count : l.count ≡ sum_by (reached_once l.ways.up.mounted.now.state) (take l.gap-index l.gaps);
  few : l.count ≤ l.gap-index;
  capacity : vec_capacity l.fn.path ≤ vec_capacity l.path;
}

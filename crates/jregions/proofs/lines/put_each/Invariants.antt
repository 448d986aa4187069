use Rattle.std.proofs.Common.{◌≡◌, ◌≤◌, ◌-◌, take, length}
use Rattle.std.specs.Io.KnownBytes.{Appends}
use Rattle.std.specs.List.{flat_map}
use Rattle.jregions.specs.RegionText.{region_line}
use Rattle.jregions.proofs.lines.put_each.Given as goal

abbrev pub invariant-loop-i : goal.invariant-loop-i
invariant-loop-i g l = record {
  within : l.i ≤ length l.regions;
  put : Appends (g.T.Sink.taken l.fn.sink) (g.T.Sink.taken l.sink) (flat_map region_line (take l.i l.regions));
  failed : g.T.Sink.failures l.sink ≡ g.T.Sink.failures l.fn.sink;
}

abbrev pub decreases-loop-i : goal.decreases-loop-i
decreases-loop-i g l = length l.regions - l.i

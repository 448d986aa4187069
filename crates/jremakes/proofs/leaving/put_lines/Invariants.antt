use Rattle.std.proofs.Common.{◌≡◌, ◌≤◌, ◌-◌, take, length}
use Rattle.std.specs.Io.KnownBytes.{Appends}
use Rattle.jremakes.specs.Leaving.{clashing_lines}
use Rattle.jremakes.proofs.leaving.put_lines.Given as goal

abbrev pub invariant-loop-i : goal.invariant-loop-i
invariant-loop-i g l = record {
  within : l.i ≤ length l.left;
  put : Appends (g.T.Sink.taken l.fn.sink) (g.T.Sink.taken l.sink)
      (clashing_lines (take l.i l.left));
  failed : g.T.Sink.failures l.sink ≡ g.T.Sink.failures l.fn.sink;
}

abbrev pub decreases-loop-i : goal.decreases-loop-i
decreases-loop-i g l = length l.left - l.i

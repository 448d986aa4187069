use Rattle.std.proofs.Common.{◌≡◌, ◌≤◌, ◌-◌, take, length}
use Rattle.std.specs.Io.KnownBytes.{Appends}
use Rattle.jcuts.specs.Lines.{text_of_nodes, step_nodes}
use Rattle.jcuts.proofs.lines.put_nodes.Given as goal

abbrev pub invariant-loop-i : goal.invariant-loop-i
invariant-loop-i g l = record {
  within : l.i ≤ length l.nodes;
  put : Appends (g.T.Sink.taken l.fn.sink) (g.T.Sink.taken l.sink) (text_of_nodes l.telling (take l.i (step_nodes l.line (length l.nodes) 1 l.nodes)));
  failed : g.T.Sink.failures l.sink ≡ g.T.Sink.failures l.fn.sink;
}

abbrev pub decreases-loop-i : goal.decreases-loop-i
decreases-loop-i g l = length l.nodes - l.i

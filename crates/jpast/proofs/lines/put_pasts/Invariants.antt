use Rattle.std.proofs.Common.{◌≡◌, take}
use Rattle.std.specs.List.{flat_map}
use Rattle.std.specs.Io.KnownBytes.{Appends}
use Rattle.jpast.specs.PastText.{past_line}
use Rattle.jpast.proofs.lines.put_pasts.Given as goal

abbrev pub invariant-loop-past : goal.invariant-loop-past
invariant-loop-past g l = record {
  put : Appends (g.T.Sink.taken l.fn.sink) (g.T.Sink.taken l.sink) (flat_map past_line (take l.past-index l.pasts));
  failed : g.T.Sink.failures l.sink ≡ g.T.Sink.failures l.fn.sink;
}

use Rattle.std.proofs.Common.{◌≡◌, ◌≤◌, ◌-◌, take, length}
use Rattle.std.specs.Io.KnownBytes.{Appends}
use Rattle.jjson.specs.Json.{string_spelled}
use Rattle.jjson.proofs.strings.put_spelled.Given as goal

abbrev pub invariant-loop-start : goal.invariant-loop-start
invariant-loop-start g l = record {
  within : l.start ≤ length l.bytes;
  put : Appends (g.T.Sink.taken l.fn.sink) (g.T.Sink.taken l.sink) (string_spelled l.way (take l.start l.bytes));
  failed : g.T.Sink.failures l.sink ≡ g.T.Sink.failures l.fn.sink;
}

abbrev pub decreases-loop-start : goal.decreases-loop-start
decreases-loop-start g l = length l.bytes - l.start

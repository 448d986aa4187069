use Rattle.std.proofs.Common.{◌≡◌, ◌≤◌, take}
use Rattle.std.specs.Prelude.{vec_capacity}
use Rattle.std.specs.List.{flat_map}
use Rattle.std.specs.Io.KnownBytes.{Appends}
use Rattle.jdamage.specs.Telling.{named_text}
use Rattle.jdamage.proofs.telling.put_names.Given as goal

abbrev pub invariant-loop-name : goal.invariant-loop-name
invariant-loop-name g l = record {
  put : Appends (g.T.Sink.taken l.fn.sink) (g.T.Sink.taken l.sink) (flat_map (named_text l.ways.up.mounted.now.state l.start) (take l.name-index l.names));
  failed : g.T.Sink.failures l.sink ≡ g.T.Sink.failures l.fn.sink;
  capacity : vec_capacity l.fn.path ≤ vec_capacity l.path;
}

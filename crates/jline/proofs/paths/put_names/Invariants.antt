use Rattle.std.proofs.Common.{◌≡◌, take}
use Rattle.std.specs.List.{flat_map}
use Rattle.std.specs.Io.KnownBytes.{Appends}
use Rattle.jline.specs.Paths.{name_shown}
use Rattle.jline.proofs.paths.put_names.Given as goal

abbrev pub invariant-loop-name : goal.invariant-loop-name
invariant-loop-name g l = record {
  put : Appends (g.T.Sink.taken l.fn.sink) (g.T.Sink.taken l.sink) (flat_map (λ name. name_shown name.now) (take l.name-index l.path));
  failed : g.T.Sink.failures l.sink ≡ g.T.Sink.failures l.fn.sink;
}

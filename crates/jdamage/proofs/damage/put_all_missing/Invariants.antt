use Rattle.std.proofs.Common.{◌≡◌, ◌≤◌, take}
use Rattle.std.specs.Prelude.{vec_capacity}
use Rattle.std.specs.Io.KnownBytes.{Appends}
use Rattle.jdamage.specs.Telling.{missing_texts}
use Rattle.jdamage.proofs.damage.put_all_missing.Given as goal

abbrev pub invariant-loop-name : goal.invariant-loop-name
invariant-loop-name g l = record {
  put : Appends (g.T.Sink.taken l.fn.sink) (g.T.Sink.taken l.sink) (missing_texts l.ways.up.mounted.now.state (take l.name-index l.missing));
  failed : g.T.Sink.failures l.sink ≡ g.T.Sink.failures l.fn.sink;
  capacity : vec_capacity l.fn.path ≤ vec_capacity l.path;
}

use Rattle.std.proofs.Common.{◌≡◌, take}
use Rattle.std.specs.List.{flat_map}
use Rattle.std.specs.Io.KnownBytes.{Appends}
use Rattle.jjson.proofs.texts.put_texts.Given as goal

abbrev pub invariant-loop-text : goal.invariant-loop-text
invariant-loop-text g l = record {
  put : Appends (g.T.Sink.taken l.fn.sink) (g.T.Sink.taken l.sink) (flat_map (λ text. text.now) (take l.text-index l.texts));
  failed : g.T.Sink.failures l.sink ≡ g.T.Sink.failures l.fn.sink;
}

use Rattle.std.proofs.Common.{◌≡◌, take}
use Rattle.std.specs.List.{flat_map}
use Rattle.std.specs.Io.KnownBytes.{Appends}
use Rattle.jreport.specs.Verdict.{dangling_line}
use Rattle.jreport.proofs.verdict.put_all_dangling.Given as goal

abbrev pub invariant-loop-pino : goal.invariant-loop-pino
invariant-loop-pino g l = record {
  put : Appends (g.T.Sink.taken l.fn.sink) (g.T.Sink.taken l.sink) (flat_map (λ x. dangling_line (x.0, x.1.now, x.2)) (take l.pino-index l.entries));
  failed : g.T.Sink.failures l.sink ≡ g.T.Sink.failures l.fn.sink;
}

use Rattle.std.proofs.Common.{◌≡◌}
use Rattle.std.specs.List.{flat_map}
use Rattle.std.specs.Io.KnownBytes.{Appends}
use Rattle.jmap.specs.Picture.{rect_text}
use Rattle.jmap.proofs.picture.put_rects.Given as goal

abbrev pub invariant-loop-extent : goal.invariant-loop-extent
invariant-loop-extent g l = record {
  put : Appends (g.T.Sink.taken l.fn.sink) (g.T.Sink.taken l.sink) (flat_map (rect_text g.E.Order.order l.image l.start l.kept l.paths) l.yielded);
  failed : g.T.Sink.failures l.sink ≡ g.T.Sink.failures l.fn.sink;
}

use Rattle.std.proofs.Common.{◌≡◌}
use Rattle.jscan.specs.SightingsLeft.{sightings_left}
use Rattle.jconvert.proofs.PackLemmas.{Packed}
use Rattle.jconvert.proofs.compressing.write_packed.Given as goal

abbrev pub invariant-loop-addr : goal.invariant-loop-addr
invariant-loop-addr g l = record {
  wrote : Packed g.E.Order.order l.fn.geometry.block l.image (sightings_left l.addr-iterator) l.from l.changed (g.S.Sink.taken l.initial.sink) (g.S.Sink.taken l.sink);
  none_failed : g.S.Sink.failures l.sink ≡ g.S.Sink.failures l.initial.sink;
}

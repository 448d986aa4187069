use Rattle.std.proofs.Common.{◌≡◌}
use Rattle.jscan.specs.SightingsLeft.{sightings_left}
use Rattle.jconvert.proofs.HoldingLemmas.{GoesOn}
use Rattle.jconvert.proofs.WriteLemmas.{Writing}
use Rattle.jconvert.proofs.writing.write_converted.Given as goal

abbrev pub invariant-loop-addr : goal.invariant-loop-addr
invariant-loop-addr g l = record {
  wrote : Writing g.E.Order.order l.fn.geometry.block l.image (sightings_left l.addr-iterator) l.from (g.S.Sink.taken l.initial.sink) (g.S.Sink.taken l.sink);
  goes_on : GoesOn g.E.Order.order l.fn.geometry.block l.image (sightings_left l.addr-iterator) l.making.held.now;
  none_failed : g.S.Sink.failures l.sink ≡ g.S.Sink.failures l.initial.sink;
}

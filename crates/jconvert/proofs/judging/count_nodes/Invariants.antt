use Rattle.std.proofs.Common.{◌≤◌, vec_len}
use Rattle.jscan.specs.SightingsLeft.{sightings_left}
use Rattle.jconvert.proofs.HoldingLemmas.{Holding}
use Rattle.jconvert.proofs.TallyLemmas.{Counting}
use Rattle.jconvert.proofs.judging.count_nodes.Given as goal

abbrev pub invariant-loop-addr : goal.invariant-loop-addr
invariant-loop-addr g l = record {
  counted : Counting g.E.Order.order l.fn.geometry.block l.image (sightings_left l.addr-iterator) l.tally;
  holds : Holding g.E.Order.order l.fn.geometry.block l.image (sightings_left l.addr-iterator) l.held.bytes.items l.held.is_whole;
  few : vec_len l.held.bytes ≤ l.fn.most;
}

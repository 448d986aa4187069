use Rattle.std.proofs.Common.{◌≡◌, ◌++◌}
use Rattle.std.specs.Prelude.{filter_map}
use Rattle.jscan.specs.SightingsLeft.{sightings_left}
use Rattle.jgaps.specs.Fields.{stretch_sighted, stretches}
use Rattle.jgaps.proofs.finding.stretches_of.Given as goal

abbrev pub invariant-loop-addr : goal.invariant-loop-addr
invariant-loop-addr g l = l.found.items ++ filter_map (stretch_sighted g.E.Order.order l.image) (sightings_left l.addr-iterator) ≡ stretches g.E.Order.order l.fn.geometry.block l.image

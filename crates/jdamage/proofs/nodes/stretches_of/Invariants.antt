use Rattle.std.proofs.Common.{ℕ, List}
use Rattle.std.specs.Prelude.{filter, filter_map}
use Rattle.jscan.specs.SightingsLeft.{sightings_left}
use Rattle.jgaps.specs.Fields.{stretch_sighted, stretches}
use Rattle.jdamage.specs.Ranges.{FindsAll, Sifted}
use Rattle.jdamage.specs.Telling.{is_kept}
use Rattle.jdamage.proofs.nodes.stretches_of.Given as goal

abbrev pub invariant-loop-addr : goal.invariant-loop-addr
invariant-loop-addr g l = (lost : List (ℕ × ℕ)) → FindsAll lost l.ranges
    → Sifted lost (filter (is_kept l.numbers) (stretches g.E.Order.order l.fn.geometry.block l.image)) (filter (is_kept l.numbers) (filter_map (stretch_sighted g.E.Order.order l.image) (sightings_left l.addr-iterator))) l.found.items l.tops

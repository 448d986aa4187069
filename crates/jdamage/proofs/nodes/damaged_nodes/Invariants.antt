use Rattle.std.proofs.Common.{ℕ}
use Rattle.jnode.specs.declared.node.Seen.{Seen}
use Rattle.std.proofs.Common.{◌≡◌, ◌++◌}
use Rattle.std.specs.Prelude.{filter_map}
use Rattle.jscan.specs.SightingsLeft.{sightings_left}
use Rattle.jdamage.specs.Fields.{damaged_if, damaged_nodes}
use Rattle.jdamage.proofs.nodes.damaged_nodes.Given as goal

abbrev pub invariant-loop-addr : goal.invariant-loop-addr
invariant-loop-addr g l = l.nodes.items ++ filter_map (λ (s : ℕ × Seen). damaged_if s.0 s.1) (sightings_left l.addr-iterator) ≡ damaged_nodes g.E.Order.order l.fn.geometry.block l.image

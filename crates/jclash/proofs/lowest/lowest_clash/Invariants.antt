use Rattle.std.proofs.Common.{ℕ}
use Rattle.jnode.specs.declared.node.NodeRef.{NodeRef}
use Rattle.jscan.specs.Image.{nodes}
use Rattle.jscan.specs.SightingsLeft.{sightings_left}
use Rattle.jmount.specs.Clash.{NodesClash}
use Rattle.jclash.proofs.LowestLemmas.{Passes}
use Rattle.jclash.proofs.lowest.lowest_clash.Given as goal

abbrev pub invariant-loop-at : goal.invariant-loop-at
invariant-loop-at g l = Passes (λ (n : ℕ × NodeRef). NodesClash n.1 l.node) (nodes g.E.Order.order l.fn.geometry.block l.image) (sightings_left l.at-iterator)

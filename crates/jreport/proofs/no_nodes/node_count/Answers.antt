use Rattle.std.proofs.Common.{length, ap, arith}
use Rattle.jreport.proofs.NoNodesLemmas.{nodes_few}
use Rattle.jreport.proofs.no_nodes.node_count.Goals as goal

pub overflow_add-count : goal.overflow_add-count
overflow_add-count g c =
    omega (arith, c.loop-sighting.invariant, ap length c.in-Some.ensures.steps, nodes_few g.E.Order.order c.args.geometry.block c.args.image.now c.requires)

pub loop-sighting-preserved : goal.loop-sighting-preserved
loop-sighting-preserved g c = omega (arith, c.loop-sighting.invariant, ap length c.in-Some.ensures.steps)

pub returns-clause-count : goal.returns-clause-count
returns-clause-count g c = omega (arith, c.loop-sighting.invariant, ap length c.in-None.ensures.steps.0)

pub returns-clause-few : goal.returns-clause-few
returns-clause-few g c =
    omega (arith, c.loop-sighting.invariant, nodes_few g.E.Order.order c.args.geometry.block c.args.image.now c.requires)

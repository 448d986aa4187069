use Rattle.jscan.specs.Image.{node_sighted}
use Rattle.jcompact.proofs.ImageLemmas.{one_more, none_left}
use Rattle.jcompact.proofs.image.nodes_of.Goals as goal

pub loop-addr-preserved : goal.loop-addr-preserved
loop-addr-preserved g c = one_more node_sighted _ _ _ _ (c.in-Some.addr, c.in-Some.seen) _ c.loop-addr.invariant c.in-Some.ensures.steps c.in_ok-push_node.ensures

pub returns : goal.returns
returns g c = none_left node_sighted _ _ _ c.loop-addr.invariant c.in-None.ensures.steps.0

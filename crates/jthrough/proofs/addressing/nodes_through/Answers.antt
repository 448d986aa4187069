use Rattle.std.proofs.Common.{rules, ◌≡◌, ap, ◌∙◌}
use Rattle.jscan.specs.Image.{sightings}
use Rattle.jscan.specs.SightingsLeft.{sightings_left}
use Rattle.jthrough.proofs.AddressedLemmas.{seen_all}
use Rattle.jthrough.proofs.PlacedLemmas.{placing_start, placing_sighted, placing_none, placing_contents, placing_next, placing_end}
use Rattle.jthrough.proofs.addressing.nodes_through.Goals as goal

pub loop-addr-init : goal.loop-addr-init
loop-addr-init g c =
    let e = g.E.Order.order in
    let size = c.args.geometry.block in
    let all : sightings_left c.into_iter-addr-iterator.result ≡ sightings e size c.args.image.now =
    ap (λ s. sightings_left s) c.into_iter-addr-iterator.ensures.into_iter_gives ∙ c.in-Ok.ensures.sightings in
    placing_start e size c.args.image.now _ _ _ _ all (search rules) (seen_all e size c.args.image.now c.args.contents.now c.requires.sound c.requires.contents)

pub node_of-node-requires-clause-sighted : goal.node_of-node-requires-clause-sighted
node_of-node-requires-clause-sighted g c =
    placing_sighted g.E.Order.order c.args.geometry.block c.args.image.now _ _ _ (c.in-Some.addr, c.in-Some.seen) _ _ c.loop-addr.invariant c.in-Some.ensures.steps

pub node_of-node-requires-clause-none : goal.node_of-node-requires-clause-none
node_of-node-requires-clause-none g c =
    placing_none g.E.Order.order c.args.geometry.block c.args.image.now _ _ _ (c.in-Some.addr, c.in-Some.seen) _ _ c.loop-addr.invariant c.in-Some.ensures.steps

pub node_of-node-requires-clause-contents : goal.node_of-node-requires-clause-contents
node_of-node-requires-clause-contents g c =
    placing_contents g.E.Order.order c.args.geometry.block c.args.image.now _ _ _ (c.in-Some.addr, c.in-Some.seen) _ _ c.loop-addr.invariant c.in-Some.ensures.steps

pub loop-addr-preserved : goal.loop-addr-preserved
loop-addr-preserved g c =
    placing_next g.E.Order.order c.args.geometry.block c.args.image.now _ _ _ c.in-Some.addr c.in-Some.seen _ _ _ _ c.node_of-node.result.0
    c.loop-addr.invariant c.in-Some.ensures.steps c.node_of-node.ensures.rest c.node_of-node.ensures.node c.in_ok-push_node.ensures

pub returns : goal.returns
returns g c = placing_end g.E.Order.order c.args.geometry.block c.args.image.now _ _ _ _ c.loop-addr.invariant c.in-None.ensures.steps.0

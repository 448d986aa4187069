use Rattle.std.proofs.Common.{rules, ◌≡◌, ap, ◌∙◌}
use Rattle.jscan.specs.Image.{sightings}
use Rattle.jscan.specs.SightingsLeft.{sightings_left}
use Rattle.jconvert.proofs.JudgeLemmas.{accepted}
use Rattle.jconvert.proofs.LocateLemmas.{locating_start, locating_head, locating_sound, locating_begins, locating_next, locating_end}
use Rattle.jconvert.proofs.locating.located.Goals as goal

pub loop-addr-init : goal.loop-addr-init
loop-addr-init g c =
    let all : sightings_left c.into_iter-addr-iterator.result ≡ sightings g.E.Order.order c.args.geometry.block c.args.image.now =
    ap (λ s. sightings_left s) c.into_iter-addr-iterator.ensures.into_iter_gives ∙ c.in-Ok.ensures.sightings in
    locating_start g.E.Order.order c.args.geometry.block c.args.image.now _ _ _ all (search rules) (accepted g.E.Order.order c.args.geometry.block c.args.image.now c.requires.accepted).none
    c.requires.held

pub split_content-requires-clause-sighted : goal.split_content-requires-clause-sighted
split_content-requires-clause-sighted g c =
    locating_head g.E.Order.order c.args.geometry.block c.args.image.now _ _ c.in-Some.addr c.in-Some.seen _ _ c.loop-addr.invariant c.in-Some.ensures.steps

pub split_content-requires-clause-held : goal.split_content-requires-clause-held
split_content-requires-clause-held g c =
    locating_begins g.E.Order.order c.args.geometry.block c.args.image.now _ _ c.in-Some.addr c.in-Some.seen _ _ c.loop-addr.invariant c.in-Some.ensures.steps

pub node_with_content-node-requires-clause-sighted : goal.node_with_content-node-requires-clause-sighted
node_with_content-node-requires-clause-sighted g c =
    locating_head g.E.Order.order c.args.geometry.block c.args.image.now _ _ c.in-Some.addr c.in-Some.seen _ _ c.loop-addr.invariant c.in-Some.ensures.steps

pub loop-addr-preserved : goal.loop-addr-preserved
loop-addr-preserved g c =
    locating_next g.E.Order.order c.args.geometry.block c.args.image.now _ _ c.in-Some.addr c.in-Some.seen _ _ _ _ c.node_with_content-node.result c.loop-addr.invariant c.in-Some.ensures.steps
    c.in-Ok-split_content.ensures.rest c.node_with_content-node.ensures c.in-Ok-push_node.ensures.ok

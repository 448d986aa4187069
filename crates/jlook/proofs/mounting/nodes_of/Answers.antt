use Rattle.std.proofs.Common.{rules, ◌≡◌, [], ◌∷◌}
use Rattle.std.proofs.lemmas.List.{nil_from_length}
use Rattle.std.specs.Vec.Iter.{into_iter_items}
use Rattle.jlook.proofs.PlacingLemmas.{looked_start, looked_sighted, looked_none, looked_contents, looked_next, looked_end}
use Rattle.jlook.proofs.mounting.nodes_of.Goals as goal

pub loop-addr-init : goal.loop-addr-init
loop-addr-init g c = record {
  can = tt;
  finite = tt;
  placing = looked_start g.E.Order.order c.args.geometry.block c.args.image.now c.args.tiles.items (into_iter_items c.into_iter-addr-iterator.result) c.args.contents.now c.new-nodes.result.items
      c.into_iter-addr-iterator.ensures.into_iter_gives.0 c.new-nodes.ensures.items c.requires.looked;
}

pub node_of-node-requires-clause-sighted : goal.node_of-node-requires-clause-sighted
node_of-node-requires-clause-sighted g c =
    let first : into_iter_items c.loop-addr.addr-iterator ≡ (c.in-Some.addr, c.in-Some.seen) ∷ into_iter_items c.next.new.self = search rules in
    looked_sighted g.E.Order.order c.args.geometry.block c.args.image.now _ _ (into_iter_items c.next.new.self) (c.in-Some.addr, c.in-Some.seen) _ _ c.loop-addr.invariant.placing first

pub node_of-node-requires-clause-none : goal.node_of-node-requires-clause-none
node_of-node-requires-clause-none g c =
    let first : into_iter_items c.loop-addr.addr-iterator ≡ (c.in-Some.addr, c.in-Some.seen) ∷ into_iter_items c.next.new.self = search rules in
    looked_none g.E.Order.order c.args.geometry.block c.args.image.now _ _ (into_iter_items c.next.new.self) (c.in-Some.addr, c.in-Some.seen) _ _ c.loop-addr.invariant.placing first

pub node_of-node-requires-clause-contents : goal.node_of-node-requires-clause-contents
node_of-node-requires-clause-contents g c =
    let first : into_iter_items c.loop-addr.addr-iterator ≡ (c.in-Some.addr, c.in-Some.seen) ∷ into_iter_items c.next.new.self = search rules in
    looked_contents g.E.Order.order c.args.geometry.block c.args.image.now _ _ (into_iter_items c.next.new.self) (c.in-Some.addr, c.in-Some.seen) _ _ c.loop-addr.invariant.placing first

pub loop-addr-preserved : goal.loop-addr-preserved
loop-addr-preserved g c =
    let first : into_iter_items c.loop-addr.addr-iterator ≡ (c.in-Some.addr, c.in-Some.seen) ∷ into_iter_items c.next.new.self = search rules in
    record {
      can = tt;
      finite = tt;
      placing = looked_next g.E.Order.order c.args.geometry.block c.args.image.now _ _ (into_iter_items c.next.new.self) c.in-Some.addr c.in-Some.seen _ _ _ _ c.node_of-node.result.0
          c.loop-addr.invariant.placing first c.node_of-node.ensures.rest c.node_of-node.ensures.node c.in_ok-push_node.ensures;
    }

pub returns : goal.returns
returns g c =
    let none : into_iter_items c.loop-addr.addr-iterator ≡ [] = nil_from_length (into_iter_items c.loop-addr.addr-iterator) (search rules) in
    looked_end g.E.Order.order c.args.geometry.block c.args.image.now c.args.tiles.items _ _ c.loop-addr.nodes.items c.loop-addr.invariant.placing none

use Rattle.std.proofs.Common.{rules, ◌≡◌, [], ◌∷◌}
use Rattle.std.proofs.lemmas.List.{nil_from_length}
use Rattle.std.specs.Vec.Iter.{into_iter_items}
use Rattle.jcollect.proofs.StayingLemmas.{unplaced_start, unplaced_next, unplaced_end}
use Rattle.jcollect.proofs.staying.unplaced.Goals as goal

pub loop-node-init : goal.loop-node-init
loop-node-init c = record {
  can = tt;
  finite = tt;
  so_far = unplaced_start c.args.nodes.items (into_iter_items c.into_iter-node-iterator.result) c.new-placed.result.items c.into_iter-node-iterator.ensures.into_iter_gives.0 c.new-placed.ensures.items;
}

pub loop-node-preserved : goal.loop-node-preserved
loop-node-preserved c =
    let first : into_iter_items c.loop-node.node-iterator ≡ c.in-Some.node ∷ into_iter_items c.next.new.self = search rules in
    record {
      can = tt;
      finite = tt;
      so_far = unplaced_next c.args.nodes.items _ (into_iter_items c.next.new.self) c.in-Some.node c.loop-node.placed.items c.push.new.self.items c.loop-node.invariant.so_far first (search rules);
    }

pub returns : goal.returns
returns c =
    let none : into_iter_items c.loop-node.node-iterator ≡ [] = nil_from_length (into_iter_items c.loop-node.node-iterator) (search rules) in
    unplaced_end c.args.nodes.items _ c.loop-node.placed.items c.loop-node.invariant.so_far none

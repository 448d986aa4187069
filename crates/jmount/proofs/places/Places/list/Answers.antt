use Rattle.std.proofs.Common.{◌<◌, length, sym, arith}
use Rattle.std.proofs.lemmas.Bool.{ltb-true}
use Rattle.jmount.proofs.OlderLemmas.{place_more}
use Rattle.jmount.proofs.places.Places.list.Goals as goal

pub loop-node-smaller : goal.loop-node-smaller
loop-node-smaller c =
    let less : c.loop-node.self.listed < length c.args.nodes.now = ltb-true _ _ (sym c.in-Some.ensures.lookup.0) in
    omega arith

pub loop-node-preserved : goal.loop-node-preserved
loop-node-preserved c =
    let found = c.in-Some.ensures.lookup in
    let less : c.loop-node.self.listed < length c.args.nodes.now = ltb-true _ _ (sym found.0) in
    record {
      within = omega arith;
      at = place_more c.args.nodes.now c.loop-node.self.map c.insert.new.self c.loop-node.self.listed c.in-Some.node.now less found.1 c.loop-node.invariant.at c.in_ok-insert.ensures.updates;
    }

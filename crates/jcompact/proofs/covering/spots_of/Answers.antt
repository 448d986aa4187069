use Rattle.std.proofs.Common.{◌≡◌, ℕ, ◌≤◌, length, get_or, sym, subst, arith}
use Rattle.jcompact.specs.Matters.{Placed}
use Rattle.jcompact.specs.Taking.{HasEnds}
use Rattle.jcompact.proofs.CoverLemmas.{keeps_ends}
use Rattle.jcompact.proofs.RankLemmas.{each_more}
use Rattle.jcompact.proofs.covering.spots_of.Goals as goal

pub loop-node-preserved : goal.loop-node-preserved
loop-node-preserved c =
    let ns = c.args.nodes.now in
    each_more (λ (n : Placed). HasEnds c.add_ends.new.spots n.1) ns c.loop-node.node-index c.loop-node-item.result c.loop-node-test.true
    (λ k d before. keeps_ends c.loop-node.spots c.add_ends.new.spots (get_or ns k d).1 c.in_ok-add_ends.ensures.keeps (c.loop-node.invariant k d before))
    (subst (λ (n : Placed). HasEnds c.add_ends.new.spots n.1) c.loop-node-item.is c.in_ok-add_ends.ensures.ends)

pub add_ends-requires : goal.add_ends-requires
add_ends-requires c = c.requires c.loop-node-item.result (c.loop-node.node-index, c.loop-node-test.true, sym c.loop-node-item.is)

pub returns : goal.returns
returns c = λ k d less. c.loop-node.invariant k d (let all : length c.args.nodes.now ≤ c.loop-node.node-index = c.loop-node-test.false in omega (arith, less, all))

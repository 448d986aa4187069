use Rattle.std.proofs.Common.{rules, ◌≡◌, ℕ, ◌<◌, ◌≤◌, Option, None, refl, ap, sym, ◌∙◌, arith, get_or, length}
use Rattle.std.specs.Borrow.{Bor}
use Rattle.std.specs.BTreeMap.{get}
use Rattle.std.specs.Ordering.{nat_cmp}
use Rattle.jcompact.proofs.RankLemmas.{all_ranked, none_ranked, item_ranked}
use Rattle.jcompact.proofs.ranks.by_rank.Goals as goal

pub loop-node-init : goal.loop-node-init
loop-node-init c = none_ranked c.args.nodes.now c.new-left.result (λ k. search rules)

pub loop-node-preserved : goal.loop-node-preserved
loop-node-preserved c =
    let y = c.node-item.result in
    let top : c.rank.result < 18446744073709551616 = omega (arith, c.rank.ensures.rank, c.rank.ensures.within) in
    item_ranked c.args.nodes.now c.loop-node.node-index c.loop-node.left c.insert.new.self c.rank.result _ y c.loop-node-test.true refl c.node-item.is c.rank.ensures.rank top c.rank.ensures.address
    c.in_ok-insert.ensures.updates.0 c.loop-node.invariant

pub returns-clause-left : goal.returns-clause-left
returns-clause-left c = all_ranked c.args.nodes.now c.loop-node.node-index c.loop-node.left c.loop-node-test.false c.loop-node.invariant

pub returns-clause-addresses : goal.returns-clause-addresses
returns-clause-addresses c = λ k d less. c.loop-node.invariant.small k d (let all : length c.args.nodes.now ≤ c.loop-node.node-index = c.loop-node-test.false in omega (arith, less, all))

pub returns-clause-ranks : goal.returns-clause-ranks
returns-clause-ranks c = λ k d less. c.loop-node.invariant.low k d (let all : length c.args.nodes.now ≤ c.loop-node.node-index = c.loop-node-test.false in omega (arith, less, all))

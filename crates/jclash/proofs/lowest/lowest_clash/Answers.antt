use Rattle.std.proofs.Common.{◌≡◌, ℕ, Bool, false, IsTrue}
use Rattle.jnode.specs.declared.node.NodeRef.{NodeRef}
use Rattle.jscan.specs.Image.{nodes}
use Rattle.jmount.specs.Clash.{NodesClash}
use Rattle.jclash.proofs.LowestLemmas.{lowest_reached, no_clash_seen, passes_next}
use Rattle.jclash.proofs.lowest.lowest_clash.Goals as goal

unseen : (b : Bool) → b ≡ false → IsTrue b → ⊥
unseen b not is = absurd (cc)

pub returns-then-clashes_seen : goal.returns-then-clashes_seen
returns-then-clashes_seen g c =
    lowest_reached g.E.Order.order c.args.geometry.block c.args.image.now c.args.node.now _ c.in-Some.at c.in-Some.seen _ c.loop-at.invariant c.in-Some.ensures.steps
    (c.clashes_seen.ensures.0 c.if-clashes_seen.true)

pub loop-at-preserved : goal.loop-at-preserved
loop-at-preserved g c =
    passes_next (λ (n : ℕ × NodeRef). NodesClash n.1 c.args.node.now) (nodes g.E.Order.order c.args.geometry.block c.args.image.now) _ (c.in-Some.at, c.in-Some.seen) _ c.loop-at.invariant c.in-Some.ensures.steps
    (no_clash_seen c.in-Some.at c.in-Some.seen c.args.node.now (λ found. unseen c.clashes_seen.result c.if-clashes_seen.false (c.clashes_seen.ensures.1 found)))

use Rattle.std.proofs.Common.{◌≡◌, ℕ, refl}
use Rattle.jnode.specs.declared.node.NodeRef.{NodeRef}
use Rattle.jscan.specs.Image.{nodes}
use Rattle.jclash.proofs.LowestLemmas.{is_there, not_there, passes_end, passes_next, reached}
use Rattle.jclash.proofs.lowest.node_at.Goals as goal

pub returns-in-Some-node_in_at : goal.returns-in-Some-node_in_at
returns-in-Some-node_in_at g c =
    let node : NodeRef = c.in-Some-node_in_at.node in
    (reached g.E.Order.order c.args.geometry.block c.args.image.now (λ (n : ℕ × NodeRef). n.0 ≡ c.args.addr) _ (c.in-Some.at, c.in-Some.seen) _ (c.args.addr, node) c.loop-at.invariant c.in-Some.ensures.steps
    (is_there c.in-Some.at c.args.addr c.in-Some.seen node c.in-Some-node_in_at.ensures)).0

pub loop-at-preserved : goal.loop-at-preserved
loop-at-preserved g c =
    passes_next (λ (n : ℕ × NodeRef). n.0 ≡ c.args.addr) (nodes g.E.Order.order c.args.geometry.block c.args.image.now) _ (c.in-Some.at, c.in-Some.seen) _ c.loop-at.invariant c.in-Some.ensures.steps
    (not_there c.in-Some.at c.args.addr c.in-Some.seen c.in_default-node_in_at.ensures)

pub returns : goal.returns
returns g c = λ node has.
    passes_end (λ (n : ℕ × NodeRef). n.0 ≡ c.args.addr) (nodes g.E.Order.order c.args.geometry.block c.args.image.now) _ c.loop-at.invariant c.in-None.ensures.steps.0 (c.args.addr, node) has refl

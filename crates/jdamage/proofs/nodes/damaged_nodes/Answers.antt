use Rattle.std.proofs.Common.{ℕ}
use Rattle.jnode.specs.declared.node.Seen.{Seen}
use Rattle.jdamage.specs.Fields.{damaged_if}
use Rattle.jgaps.proofs.NodeLemmas.{one_more, none_left}
use Rattle.jdamage.proofs.nodes.damaged_nodes.Goals as goal

pub loop-addr-preserved : goal.loop-addr-preserved
loop-addr-preserved g c =
    one_more (λ (s : ℕ × Seen). damaged_if s.0 s.1) _ _ _ _ (c.in-Some.addr, c.in-Some.seen) _ c.loop-addr.invariant c.in-Some.ensures.steps c.in_ok-push_damaged.ensures

pub returns : goal.returns
returns g c =
    none_left (λ (s : ℕ × Seen). damaged_if s.0 s.1) _ _ _ c.loop-addr.invariant c.in-None.ensures.steps.0

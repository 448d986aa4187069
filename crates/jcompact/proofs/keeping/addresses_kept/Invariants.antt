use Rattle.std.proofs.Common.{length}
use Rattle.jcompact.specs.Taking.{reached_by}
use Rattle.jcompact.proofs.KeptLemmas.{IsSwept}
use Rattle.jcompact.proofs.keeping.addresses_kept.Given as goal

abbrev pub invariant-loop-node : goal.invariant-loop-node
invariant-loop-node l = IsSwept l.nodes (reached_by l.tree.mounted.now.state l.tree.unreached.now) l.left l.taken

abbrev pub decreases-loop-node : goal.decreases-loop-node
decreases-loop-node l = length l.left.entries

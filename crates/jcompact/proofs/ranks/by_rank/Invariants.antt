use Rattle.jcompact.proofs.RankLemmas.{AreRanked}
use Rattle.jcompact.proofs.ranks.by_rank.Given as goal

abbrev pub invariant-loop-node : goal.invariant-loop-node
invariant-loop-node l = AreRanked l.nodes l.node-index l.left

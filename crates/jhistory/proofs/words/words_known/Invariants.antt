use Rattle.std.proofs.Common.{take}
use Rattle.jcompact.specs.Taking.{reached_by}
use Rattle.jhistory.specs.NodeWords.{AreWordsBy, other_word}
use Rattle.jhistory.proofs.words.words_known.Given as goal

abbrev pub invariant-loop-node : goal.invariant-loop-node
invariant-loop-node l = AreWordsBy (take l.node-index l.nodes) (other_word l.nodes (reached_by l.known.mounted.now.state l.known.unreached.now)) l.words

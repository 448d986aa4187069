use Rattle.std.proofs.Common.{take}
use Rattle.jhistory.specs.NodeWords.{MarksLive}
use Rattle.jhistory.proofs.words.mark_live.Given as goal

abbrev pub invariant-loop-node : goal.invariant-loop-node
invariant-loop-node l = MarksLive (take l.node-index l.kept) l.fn.words l.words

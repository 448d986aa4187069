use Rattle.std.proofs.Common.{take}
use Rattle.jinspects.specs.Former.{AreFormerIn}
use Rattle.jinspects.proofs.former.former_in.Given as goal

abbrev pub invariant-loop-node : goal.invariant-loop-node
invariant-loop-node l = AreFormerIn (take l.node-index l.nodes) l.dir l.name l.numbers

use Rattle.std.proofs.Common.{take}
use Rattle.jpast.specs.Spans.{HasSpans}
use Rattle.jpast.proofs.spans.spans_of.Given as goal

abbrev pub invariant-loop-node : goal.invariant-loop-node
invariant-loop-node l = HasSpans (take l.node-index l.nodes) l.spans

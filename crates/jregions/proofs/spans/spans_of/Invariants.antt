use Rattle.std.proofs.Common.{◌+◌, ◌≤◌, length}
use Rattle.jregions.proofs.SpanLemmas.{AreTaken}
use Rattle.jregions.proofs.spans.spans_of.Given as goal

abbrev pub invariant-loop-at : goal.invariant-loop-at
invariant-loop-at l = record {
  within : l.at ≤ length l.units;
  small : l.gap + l.at ≤ length l.units;
  taken : AreTaken l.units l.at l.gap l.spans.items;
}

abbrev pub decreases-loop-at : goal.decreases-loop-at
decreases-loop-at l = l.at

use Rattle.jextract.proofs.WayLemmas.{AreLeftOf}
use Rattle.jextract.proofs.parts.number_of.Given as goal

abbrev pub invariant-loop-other : goal.invariant-loop-other
invariant-loop-other l = record {
  can : (goal.iterator-loop-other).can_next l.other-iterator;
  finite : (goal.iterator-loop-other).is_finite l.other-iterator;
  left : AreLeftOf l.mounted.state l.dir l.name l.other-iterator;
}

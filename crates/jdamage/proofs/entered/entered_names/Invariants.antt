use Rattle.jdamage.proofs.EnteredLemmas.{ReadsOn}
use Rattle.jdamage.proofs.entered.entered_names.Given as goal

abbrev pub invariant-loop-name : goal.invariant-loop-name
invariant-loop-name l = record {
  can : (goal.iterator-loop-name).can_next l._name-iterator;
  finite : (goal.iterator-loop-name).is_finite l._name-iterator;
  so_far : ReadsOn l.mounted.state l.names l.walk l._name-iterator;
}

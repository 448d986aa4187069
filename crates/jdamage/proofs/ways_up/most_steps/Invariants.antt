use Rattle.std.proofs.Common.{◌≡◌, ◌+◌, ◌≤◌, ◌^◌, length}
use Rattle.std.specs.Prelude.{min}
use Rattle.jmount.specs.Tree.{all_entries}
use Rattle.jdamage.proofs.ways_up.most_steps.Given as goal

abbrev pub invariant-loop-name : goal.invariant-loop-name
invariant-loop-name l = record {
  can : (goal.iterator-loop-name).can_next l._name-iterator;
  finite : (goal.iterator-loop-name).is_finite l._name-iterator;
  few : l.count ≤ 2 ^ 32;
  left : min (l.count + length l._name-iterator) (2 ^ 32) ≡ min (length (all_entries l.mounted.state)) (2 ^ 32);
}

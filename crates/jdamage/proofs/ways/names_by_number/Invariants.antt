use Rattle.std.proofs.Common.{◌≡◌, ℕ, ◌++◌, true}
use Rattle.std.specs.Prelude.{filter, map}
use Rattle.std.specs.BTreeSet.{contains}
use Rattle.std.specs.Ordering.{nat_cmp}
use Rattle.jdamage.specs.Groups.{group_of}
use Rattle.jdamage.specs.Ways.{is_led, name_held, names_led}
use Rattle.jdamage.proofs.ways.names_by_number.Given as goal

abbrev pub invariant-loop-name : goal.invariant-loop-name
invariant-loop-name l = record {
  can : (goal.iterator-loop-name).can_next l.name-iterator;
  finite : (goal.iterator-loop-name).is_finite l.name-iterator;
  so_far : (i : ℕ) → contains nat_cmp l.numbers i ≡ true → map name_held (group_of l.names i) ++ filter (is_led l.up.mounted.now.state i) l.name-iterator ≡ names_led l.up.mounted.now.state i;
}

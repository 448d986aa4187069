use Rattle.std.proofs.Common.{◌≡◌, ℕ, All, None, Some, option_map}
use Rattle.std.specs.Map.{lookup}
use Rattle.std.specs.Ordering.{nat_cmp, eq_by_cmp}
use Rattle.std.specs.BTreeMap.{get, IsOrdered}
use Rattle.jmount.specs.Kept.{HasNoDirectories}
use Rattle.jmount.specs.Storing.{made_of_number, as_made}
use Rattle.jmount.proofs.storing.objects_of.Given as goal

abbrev pub invariant-loop-ino : goal.invariant-loop-ino
invariant-loop-ino l = record {
  can : (goal.iterator-loop-ino).can_next l.ino-iterator;
  finite : (goal.iterator-loop-ino).is_finite l.ino-iterator;
  left : All (λ e. get nat_cmp l.fn.numbers e.0 ≡ Some e.1) l.ino-iterator;
  done : (i : ℕ) → lookup (eq_by_cmp nat_cmp i) l.ino-iterator ≡ None → option_map as_made (get nat_cmp l.objects i) ≡ made_of_number l.fn.numbers i;
  none : HasNoDirectories l.objects;
  ordered : IsOrdered nat_cmp l.objects;
}

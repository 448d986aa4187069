use Rattle.std.proofs.Common.{◌≡◌, ℕ, ◌<◌, true, get_or}
use Rattle.std.specs.BTreeSet.{contains}
use Rattle.std.specs.Ordering.{nat_cmp}
use Rattle.jgaps.specs.declared.gap.Gap.{Gap}
use Rattle.jdamage.proofs.damage.add_files.Given as goal

abbrev pub invariant-loop-gap : goal.invariant-loop-gap
invariant-loop-gap l = record {
  keeps : (n : ℕ) → contains nat_cmp l.fn.numbers n ≡ true → contains nat_cmp l.numbers n ≡ true;
  files : (k : ℕ) (d : Gap) → k < l.gap-index → contains nat_cmp l.numbers (get_or l.gaps k d).ino ≡ true;
}

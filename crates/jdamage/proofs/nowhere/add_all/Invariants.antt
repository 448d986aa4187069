use Rattle.std.proofs.Common.{◌≡◌, ℕ, true, false, length}
use Rattle.std.specs.BTreeSet.{contains}
use Rattle.std.specs.Ordering.{nat_cmp}
use Rattle.jdamage.proofs.nowhere.add_all.Given as goal

abbrev pub invariant-loop-number : goal.invariant-loop-number
invariant-loop-number l = record {
  added : (i : ℕ) → contains nat_cmp l.numbers i ≡ true → contains nat_cmp l.fn.numbers i ≡ false → contains nat_cmp l.fn.more i ≡ true;
  left : (i : ℕ) → contains nat_cmp l.left i ≡ true → contains nat_cmp l.fn.more i ≡ true;
}

abbrev pub decreases-loop-number : goal.decreases-loop-number
decreases-loop-number l = length l.left.keys

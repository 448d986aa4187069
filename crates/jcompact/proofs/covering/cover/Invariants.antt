use Rattle.std.proofs.Common.{◌≡◌, ◌&&◌, ℕ, false, nat_lt, nat_le, length}
use Rattle.std.specs.BTreeSet.{contains}
use Rattle.std.specs.Ordering.{nat_cmp}
use Rattle.jcompact.proofs.covering.cover.Given as goal

abbrev pub invariant-loop-c : goal.invariant-loop-c
invariant-loop-c l = (c : ℕ) → (nat_le l.from c && nat_lt c l.to) ≡ false → contains nat_cmp l.bare c ≡ contains nat_cmp l.fn.bare c

abbrev pub decreases-loop-c : goal.decreases-loop-c
decreases-loop-c l = length l.bare.keys

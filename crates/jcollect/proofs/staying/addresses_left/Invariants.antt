use Rattle.std.proofs.Common.{◌≡◌, ℕ, take}
use Rattle.std.specs.BTreeSet.{contains}
use Rattle.std.specs.Ordering.{nat_cmp}
use Rattle.jcollect.specs.Staying.{is_left_out}
use Rattle.jcollect.proofs.staying.addresses_left.Given as goal

abbrev pub invariant-loop-one : goal.invariant-loop-one
invariant-loop-one l = (a : ℕ) → contains nat_cmp l.out a ≡ is_left_out (take l.one-index l.left) a

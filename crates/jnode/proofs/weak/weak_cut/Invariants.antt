use Rattle.std.proofs.Common.{◌≡◌, ◌<◌, ℕ, false}
use Rattle.jnode.specs.Weak.{is_weak}
use Rattle.jnode.proofs.weak.weak_cut.Given as goal

abbrev pub invariant-loop-cut : goal.invariant-loop-cut
invariant-loop-cut g l = (i : ℕ) → i < l.cut → is_weak g.E.Order.order l.bytes i ≡ false

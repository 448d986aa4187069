use Rattle.std.proofs.Common.{◌≡◌, ◌<◌, ℕ, false, length}
use Rattle.std.specs.Prelude.{bytes_eq}
use Rattle.jscan.specs.Blank.{marked}
use Rattle.jscan.proofs.blank.is_blank.Given as goal

abbrev pub invariant-loop-len : goal.invariant-loop-len
invariant-loop-len g l = (j : ℕ) → j < l.len → bytes_eq l.block (marked g.E.Order.order (length l.block) j) ≡ false

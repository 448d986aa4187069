use Rattle.std.proofs.Common.{◌≡◌, ℕ, ◌<◌, true, get_or}
use Rattle.std.specs.BTreeSet.{contains}
use Rattle.std.specs.Ordering.{nat_cmp}
use Rattle.jnode.specs.declared.node.Damage.{Damage}
use Rattle.jnode.specs.declared.node.Damage.TheVariants.{DataCrc}
use Rattle.jgaps.specs.Fields.{stretch_at}
use Rattle.jdamage.proofs.damage.damaged_numbers.Given as goal

abbrev pub invariant-loop-addr : goal.invariant-loop-addr
invariant-loop-addr g l = (k : ℕ) (d : ℕ × Damage) → k < l.addr-index → (get_or l.damaged k d).1 ≡ DataCrc
    → contains nat_cmp l.numbers (stretch_at g.E.Order.order l.image (get_or l.damaged k d).0).ino ≡ true

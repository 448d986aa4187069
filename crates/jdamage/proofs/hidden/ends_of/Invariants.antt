use Rattle.std.proofs.Common.{◌≡◌, ℕ, ◌<◌, true, get_or}
use Rattle.std.specs.BTreeSet.{contains}
use Rattle.std.specs.Ordering.{nat_cmp}
use Rattle.jdamage.specs.Sweep.{spot}
use Rattle.jgaps.specs.declared.fields.Stretch.{Stretch}
use Rattle.jdamage.proofs.hidden.ends_of.Given as goal

abbrev pub invariant-loop-stretch : goal.invariant-loop-stretch
invariant-loop-stretch l = (k : ℕ) (d : Stretch) → k < l.stretch-index → contains nat_cmp l.spots (spot (get_or l.sound k d).ino (get_or l.sound k d).to) ≡ true

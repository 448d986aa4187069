use Rattle.std.proofs.Common.{◌≡◌, ℕ, ◌<◌, true, get_or}
use Rattle.std.specs.BTreeSet.{contains}
use Rattle.std.specs.Ordering.{nat_cmp}
use Rattle.jdamage.specs.Hidden.{spot_at}
use Rattle.jdamage.proofs.hidden.add_starts.Given as goal

abbrev pub invariant-loop-addr : goal.invariant-loop-addr
invariant-loop-addr g l = record {
  keeps : (c : ℕ) → contains nat_cmp l.fn.spots c ≡ true → contains nat_cmp l.spots c ≡ true;
  starts : (k : ℕ) (d : ℕ × ℕ) → k < l.addr-index → contains nat_cmp l.spots (spot_at g.E.Order.order l.image (get_or l.lost k d).0) ≡ true;
}

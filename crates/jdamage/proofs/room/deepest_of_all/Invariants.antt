use Rattle.std.proofs.Common.{ℕ, ◌+◌, ◌^◌, ◌<◌, ◌≤◌, get_or}
use Rattle.jnode.specs.declared.node.Damage.{Damage}
use Rattle.jdamage.specs.Room.{NodePathsFit}
use Rattle.jdamage.proofs.room.deepest_of_all.Given as goal

abbrev pub invariant-loop-addr : goal.invariant-loop-addr
invariant-loop-addr g l = record {
  few : l.most ≤ 2 ^ 32;
  below : (k : ℕ) (d : ℕ × Damage) → k < l.addr-index → NodePathsFit g.E.Order.order l.ways.up.mounted.now l.hidden (l.most + 1) (get_or l.damaged k d);
}

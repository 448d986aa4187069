use Rattle.std.proofs.Common.{◌≡◌, ◌-◌, ◌^◌, ◌≤◌, take}
use Rattle.std.specs.Prelude.{min, sum_by, vec_capacity}
use Rattle.std.specs.List.{flat_map}
use Rattle.std.specs.Io.KnownBytes.{Appends}
use Rattle.jdamage.specs.Telling.{own_text, own_paths}
use Rattle.jdamage.proofs.damage.put_nodes.Given as goal

abbrev pub invariant-loop-addr : goal.invariant-loop-addr
invariant-loop-addr g l = record {
  put : Appends (g.T.Sink.taken l.fn.sink) (g.T.Sink.taken l.sink) (flat_map (own_text g.E.Order.order l.ways.up.mounted.now l.hidden) (take l.addr-index l.damaged));
  failed : g.T.Sink.failures l.sink ≡ g.T.Sink.failures l.fn.sink;
  count : l.count ≡ min (sum_by (own_paths g.E.Order.order l.ways.up.mounted.now l.hidden) (take l.addr-index l.damaged)) (2 ^ 64 - 1);
  capacity : vec_capacity l.fn.path ≤ vec_capacity l.path;
}

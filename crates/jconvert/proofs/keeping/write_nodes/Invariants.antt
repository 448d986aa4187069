use Rattle.std.proofs.Common.{◌≡◌, drop}
use Rattle.jconvert.proofs.KeepLemmas.{Keeping}
use Rattle.jconvert.proofs.keeping.write_nodes.Given as goal

abbrev pub invariant-loop-node : goal.invariant-loop-node
invariant-loop-node g l = record {
  kept : Keeping g.E.Order.order l.fn.geometry.block l.nodes (drop l.node-index l.nodes) l.from (g.S.Sink.taken l.initial.sink) (g.S.Sink.taken l.sink);
  none_failed : g.S.Sink.failures l.sink ≡ g.S.Sink.failures l.initial.sink;
}

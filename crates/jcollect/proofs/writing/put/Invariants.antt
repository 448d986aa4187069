use Rattle.std.proofs.Common.{◌≡◌, drop}
use Rattle.jcollect.proofs.PutLemmas.{Putting}
use Rattle.jcollect.specs.Planning.{MayPut}
use Rattle.jcollect.proofs.writing.put.Given as goal

abbrev pub invariant-loop-addr : goal.invariant-loop-addr
invariant-loop-addr g l = record {
  put : (may : MayPut g.E.Order.order l.fn.geometry.block l.image l.addresses) → Putting g.E.Order.order l.fn.geometry.block may.blocks l.image l.addresses (drop l.addr-index l.addresses) l.from (g.S.Sink.taken l.initial.sink) (g.S.Sink.taken l.sink);
  none_failed : g.S.Sink.failures l.sink ≡ g.S.Sink.failures l.initial.sink;
}

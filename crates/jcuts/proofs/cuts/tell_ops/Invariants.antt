use Rattle.std.proofs.Common.{◌≡◌, ◌≤◌, ◌-◌, length}
use Rattle.jcuts.specs.Cuts.{IsReady, flash_of, point_of}
use Rattle.jcuts.proofs.CutsLemmas.{Told}
use Rattle.jcuts.proofs.cuts.tell_ops.Given as goal

abbrev pub invariant-loop-accepted : goal.invariant-loop-accepted
invariant-loop-accepted g l = record {
  within : l.accepted ≤ length l.ops;
  ready : IsReady l.plan;
  flash : flash_of l.plan ≡ flash_of l.fn.plan;
  told : Told g.E.Order.order (flash_of l.fn.plan) (record { telling = l.telling; ops = l.ops; lines = l.lines }) (point_of l.fn.plan) l.accepted (point_of l.plan)
      (record { old = g.T.Sink.taken l.fn.sink; new = g.T.Sink.taken l.sink; before = g.T.Sink.failures l.fn.sink; now = g.T.Sink.failures l.sink }) (record { nodes = l.nodes; weak = l.weak });
}

abbrev pub decreases-loop-accepted : goal.decreases-loop-accepted
decreases-loop-accepted g l = length l.ops - l.accepted

use Rattle.std.proofs.Common.{◌≡◌, ◌≤◌, ◌-◌, ℕ, List, length}
use Rattle.jstops.specs.Planned.{IsReadyAs, forming_of, held_point_of}
use Rattle.jstops.proofs.StopLemmas.{Told}
use Rattle.jstops.proofs.stops.tell_ops.Given as goal

abbrev pub invariant-loop-accepted : goal.invariant-loop-accepted
invariant-loop-accepted g l = record {
  within : l.accepted ≤ length l.ops;
  ready : IsReadyAs l.plan;
  forming : forming_of l.plan ≡ forming_of l.fn.plan;
  forms : List (List ℕ);
  told : Told (forming_of l.fn.plan) (record { telling = l.telling; ops = l.ops; lines = l.lines }) (held_point_of l.fn.plan) l.accepted forms (held_point_of l.plan)
      (record { old = g.T.Sink.taken l.fn.sink; new = g.T.Sink.taken l.sink; before = g.T.Sink.failures l.fn.sink; now = g.T.Sink.failures l.sink }) (record { nodes = l.nodes; weak = l.weak });
}

abbrev pub decreases-loop-accepted : goal.decreases-loop-accepted
decreases-loop-accepted g l = length l.ops - l.accepted

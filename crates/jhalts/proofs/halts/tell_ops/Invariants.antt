use Rattle.std.proofs.Common.{◌≡◌, ◌≤◌, ◌-◌, ℕ, List, length}
use Rattle.jcuts.specs.declared.lines.Telling.TheVariants.{Nodes}
use Rattle.jhalts.specs.InRow.{IsReadyIn, forming_in_row, row_point_of}
use Rattle.jhalts.proofs.HaltLemmas.{Told}
use Rattle.jhalts.proofs.halts.tell_ops.Given as goal

abbrev pub invariant-loop-accepted : goal.invariant-loop-accepted
invariant-loop-accepted g l = record {
  within : l.accepted ≤ length l.ops;
  ready : IsReadyIn l.plan l.walk;
  forming : forming_in_row l.plan ≡ forming_in_row l.fn.plan;
  forms : List (List ℕ);
  told : Told (forming_in_row l.fn.plan) (record { telling = Nodes; ops = l.ops; lines = l.lines }) (row_point_of l.fn.plan) l.accepted forms (row_point_of l.plan)
      (record { old = g.T.Sink.taken l.fn.sink; new = g.T.Sink.taken l.sink; before = g.T.Sink.failures l.fn.sink; now = g.T.Sink.failures l.sink }) (record { nodes = l.nodes; weak = l.weak });
}

abbrev pub decreases-loop-accepted : goal.decreases-loop-accepted
decreases-loop-accepted g l = length l.ops - l.accepted

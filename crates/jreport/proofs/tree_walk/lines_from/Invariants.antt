use Rattle.std.proofs.Common.{◌≡◌, map}
use Rattle.jreport.specs.Walking.{todo_of}
use Rattle.jreport.proofs.RememberingLemmas.{NeedsNone}
use Rattle.jreport.proofs.WalkLemmas.{Reaches, steps_left}
use Rattle.jreport.proofs.tree_walk.lines_from.Given as goal

abbrev pub invariant-loop-walk : goal.invariant-loop-walk
invariant-loop-walk g l = record {
  needs : NeedsNone l.mounted.state l.walk.met (todo_of l.mounted.state l.walk);
  so_far : Reaches l.mounted.state (map (λ n. n.now) l.fn.path.items, l.fn.ino) l.walk (g.T.Sink.taken l.fn.sink) (g.T.Sink.taken l.sink);
  failed : g.T.Sink.failures l.sink ≡ g.T.Sink.failures l.fn.sink;
}

abbrev pub decreases-loop-walk : goal.decreases-loop-walk
decreases-loop-walk g l = steps_left l.mounted.state l.walk

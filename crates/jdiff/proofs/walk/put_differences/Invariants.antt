use Rattle.std.proofs.Common.{◌≡◌}
use Rattle.jdiff.specs.Compared.{AreCompared}
use Rattle.jdiff.proofs.ReachLemmas.{NeedsLeft, ReachesPlaces, steps_to_go}
use Rattle.jdiff.proofs.walk.put_differences.Given as goal

abbrev pub invariant-loop-walk : goal.invariant-loop-walk
invariant-loop-walk g l = record {
  needs : NeedsLeft l.fn.left.state l.fn.right.state l.walk;
  so_far : ReachesPlaces l.fn.how l.fn.left.state l.fn.right.state l.walk (g.T.Sink.taken l.fn.sink) (g.T.Sink.taken l.sink) l.lines;
  known : AreCompared l.fn.left.state l.fn.right.state l.walk.compared;
  failed : g.T.Sink.failures l.sink ≡ g.T.Sink.failures l.fn.sink;
}

abbrev pub decreases-loop-walk : goal.decreases-loop-walk
decreases-loop-walk g l = steps_to_go l.fn.left.state l.fn.right.state l.walk

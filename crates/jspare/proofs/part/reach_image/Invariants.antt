use Rattle.std.proofs.Common.{◌≡◌}
use Rattle.jspare.specs.Parts.{Skips}
use Rattle.jspare.proofs.part.reach_image.Given as goal

abbrev pub invariant-loop-before : goal.invariant-loop-before
invariant-loop-before g l = record {
  skipped : Skips (g.P.Source.rest l.initial.source) (g.P.Source.rest l.source) l.initial.before l.before;
  none_failed : g.P.Source.failures l.source ≡ g.P.Source.failures l.initial.source;
}

abbrev pub decreases-loop-before : goal.decreases-loop-before
decreases-loop-before g l = l.before

use Rattle.std.proofs.Common.{◌≡◌, ◌≤◌}
use Rattle.std.specs.Prelude.{option_map}
use Rattle.std.specs.Io.KnownBytes.{Keeps}
use Rattle.jspare.specs.Paging.{pages_left}
use Rattle.jspare.proofs.source.reach_page.Given as goal

abbrev pub invariant-loop-left : goal.invariant-loop-left
invariant-loop-left g l = record {
  spare : l.left ≤ l.layout.spare;
  kept : Keeps (option_map (pages_left l.layout l.initial.left) (g.S.Source.rest l.initial.source))
      (option_map (pages_left l.layout l.left) (g.S.Source.rest l.source));
  none_failed : g.S.Source.failures l.source ≡ g.S.Source.failures l.initial.source;
}

abbrev pub decreases-loop-left : goal.decreases-loop-left
decreases-loop-left g l = l.left

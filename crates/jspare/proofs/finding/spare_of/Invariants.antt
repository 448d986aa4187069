use Rattle.std.proofs.Common.{◌≡◌, take}
use Rattle.jspare.specs.Finding.{usual_layouts}
use Rattle.jspare.proofs.FindingLemmas.{IsFoundIn}
use Rattle.jspare.proofs.finding.spare_of.Given as goal

abbrev pub invariant-loop-layout : goal.invariant-loop-layout
invariant-loop-layout l = record {
  layouts : l.layout-items ≡ usual_layouts;
  found : IsFoundIn (take l.layout-index usual_layouts) l.dump l.best l.most;
}

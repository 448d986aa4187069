use Rattle.std.proofs.Common.{◌≡◌}
use Rattle.jscan.specs.Counts.{extents_below}
use Rattle.jreport.specs.FoundIn.{found_among}
use Rattle.jreport.proofs.findings.found_in.Given as goal

abbrev pub invariant-loop-k : goal.invariant-loop-k
invariant-loop-k g l = l.all ≡ found_among (extents_below g.E.Order.order l.size l.image l.k)

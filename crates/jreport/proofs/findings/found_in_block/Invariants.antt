use Rattle.std.proofs.Common.{◌≡◌}
use Rattle.jreport.specs.FoundIn.{found_among}
use Rattle.jreport.proofs.findings.found_in_block.Given as goal

abbrev pub invariant-loop-extent : goal.invariant-loop-extent
invariant-loop-extent g l = l.found ≡ found_among l.yielded

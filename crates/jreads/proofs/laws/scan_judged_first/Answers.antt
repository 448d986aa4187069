use Rattle.jreads.proofs.ScanLawLemmas.{scan_judged_first}
use Rattle.jreads.proofs.laws.scan_judged_first.Goals as goal

pub returns : goal.returns
returns c = scan_judged_first

use Rattle.jreads.proofs.ScanLawLemmas.{scan_blames_failed}
use Rattle.jreads.proofs.laws.scan_blames_failed.Goals as goal

pub returns : goal.returns
returns c = scan_blames_failed

use Rattle.jreads.proofs.ScanLawLemmas.{scan_reads_only}
use Rattle.jreads.proofs.laws.scan_reads_only.Goals as goal

pub returns : goal.returns
returns c = scan_reads_only

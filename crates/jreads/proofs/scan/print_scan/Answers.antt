use Rattle.std.proofs.Common.{◌∙◌, ap}
use Rattle.jedge.specs.Acts.{seen_as}
use Rattle.jedge.specs.Told.{found_told}
use Rattle.jedge.proofs.Steps.{seen_closed}
use Rattle.jreads.proofs.ScanLemmas.{scan_printed, scan_unprinted}
use Rattle.jreads.proofs.scan.print_scan.Goals as goal

pub returns-in-Err : goal.returns-in-Err
returns-in-Err g c =
    scan_unprinted _ _ _ c.output.ensures.same c.in-Err.ensures.memory

pub returns : goal.returns
returns g c = scan_printed _ _ _ _ c.output.ensures.same c.in-Ok.ensures.sound c.in-Ok.ensures.empty
    c.put_scan-answer.ensures c.close-closed.ensures
    (ap (seen_as found_told) c.finished.ensures
    ∙ seen_closed found_told c.put_scan-answer.result c.close-closed.result)

-- What the calls of a report put, and when they fail.
use Rattle.std.specs.Prelude.{◌≡◌, ℕ, ◌<◌, false, IsTrue, List, length, Result, Ok, Err}
use Rattle.std.specs.Io.KnownBytes.{Appends}
use Rattle.flashbase.specs.Device.{PutsPart, next_count}
use Rattle.flashbase.specs.Sinks.{SinkChange}
use Rattle.jnode.specs.declared.order.Endian.{Endian}
use Rattle.jscan.specs.Image.{is_block_size, greatest_image}
use Rattle.jscan.specs.Scans.{IsScannable}
use Rattle.jscan.specs.declared.geometry.ScanFault.{ScanFault}
use Rattle.jscan.specs.declared.geometry.ScanFault.TheVariants as scan
use Rattle.jreport.specs.declared.report_fault.ReportFault.{ReportFault}
use Rattle.jreport.specs.declared.report_fault.ReportFault.TheVariants.{Scan, Output}
use Rattle.jscan.specs.Counts.{is_found}
use Rattle.jreport.specs.Report.{scan_text, count_in_image}

-- The fault that fits the image: its block size comes first, and then its length. A report meets no
-- other fault of a scan than out of memory.
abbrev pub IsScanFaultOf : ℕ → List ℕ → ScanFault → Type 0
IsScanFaultOf size image scan.BlockSize = is_block_size size ≡ false
IsScanFaultOf size image scan.TooLarge =
    IsTrue (is_block_size size) × (greatest_image < length image)
IsScanFaultOf size image scan.OutOfMemory = IsScannable size image
IsScanFaultOf size image (scan.Incompatible addr nodetype) = ⊥
IsScanFaultOf size image (scan.Compressed addr compr) = ⊥

-- A report puts its whole text and answers the number of findings; at a fault a beginning of the
-- text went out. An image that can't be scanned is refused before anything is put. No memory is
-- taken.
abbrev pub PutsReport : Endian → ℕ → List ℕ → SinkChange → Result ℕ ReportFault → Type 0
PutsReport e size image sink (Ok findings) =
    IsScannable size image × (findings ≡ count_in_image is_found e size image)
    × Appends sink.old sink.new (scan_text e size image) × (sink.now ≡ sink.before)
PutsReport e size image sink (Err Output) =
    IsScannable size image × PutsPart sink.old sink.new (scan_text e size image)
    × (sink.now ≡ next_count sink.before)
PutsReport e size image sink (Err (Scan scan.OutOfMemory)) = ⊥
PutsReport e size image sink (Err (Scan fault)) =
    IsScanFaultOf size image fault × (sink.new ≡ sink.old) × (sink.now ≡ sink.before)

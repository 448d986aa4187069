-- A report that ends early: what has gone out.
use Rattle.std.proofs.Common.{◌≡◌, ℕ, List, sym, subst, Option}
use Rattle.std.specs.Prelude.{Result, Ok, Err, IsErrAnd}
use Rattle.std.specs.Io.KnownBytes.{Appends}
use Rattle.std.proofs.KnownBytes.{Appends-trans}
use Rattle.flashbase.specs.Device.{PutsPart, next_count}
use Rattle.flashbase.proofs.DeviceLemmas.{part_before, part_behind}
use Rattle.jnode.specs.declared.order.Endian.{Endian}
use Rattle.jscan.specs.Image.{block_count}
use Rattle.jreport.specs.declared.report_fault.ReportFault.{ReportFault}
use Rattle.jreport.specs.declared.report_fault.ReportFault.TheVariants.{Output}
use Rattle.jscan.specs.Counts.{counts_of}
use Rattle.jreport.specs.Report.{scan_text, lines_below, totals_line}
use Rattle.jscan.specs.Scans.{IsScannable}
use Rattle.jreport.specs.Puts.{PutsReport}
use Rattle.jreport.proofs.SinkLemmas.{sink_change}

-- a fault of the sink before the last line
pub early_fault : (e : Endian) (size : ℕ) (image : List ℕ) (old new : Option (List ℕ)) (before now : ℕ) (r : Result ℕ ReportFault)
    → IsErrAnd r (λ x. x ≡ Output) → IsScannable size image → PutsPart old new (lines_below e size image (block_count size image)) → now ≡ next_count before
    → PutsReport e size image (sink_change old new before now) r
unfolding scan_text
early_fault e size image old new before now (Ok x) is scannable part failed = absurd is
early_fault e size image old new before now (Err x) is scannable part failed =
    subst (λ (y : ReportFault). PutsReport e size image (sink_change old new before now) (Err y)) (sym is)
    (scannable, part_before old new (lines_below e size image (block_count size image)) (totals_line (counts_of e size image (block_count size image))) part, failed)

-- a fault of the sink at the last line
pub last_fault : (e : Endian) (size : ℕ) (image : List ℕ) (a b c : Option (List ℕ)) (before now : ℕ) (r : Result ℕ ReportFault)
    → IsErrAnd r (λ x. x ≡ Output) → IsScannable size image → Appends a b (lines_below e size image (block_count size image))
    → PutsPart b c (totals_line (counts_of e size image (block_count size image))) → now ≡ next_count before
    → PutsReport e size image (sink_change a c before now) r
unfolding scan_text
last_fault e size image a b c before now (Ok x) is scannable put part failed = absurd is
last_fault e size image a b c before now (Err x) is scannable put part failed =
    subst (λ (y : ReportFault). PutsReport e size image (sink_change a c before now) (Err y)) (sym is)
    (scannable, part_behind a b c (lines_below e size image (block_count size image)) (totals_line (counts_of e size image (block_count size image))) put part, failed)

-- all lines, and the last
pub whole_text : (e : Endian) (size : ℕ) (image : List ℕ) (a b c : Option (List ℕ)) → Appends a b (lines_below e size image (block_count size image))
    → Appends b c (totals_line (counts_of e size image (block_count size image))) → Appends a c (scan_text e size image)
unfolding scan_text
whole_text e size image a b c lines total =
    Appends-trans a b c (lines_below e size image (block_count size image)) (totals_line (counts_of e size image (block_count size image))) lines total

-- The report and the verdict of a mount through the compression, as calls put them into a sink.
use Rattle.std.proofs.Common.{◌≡◌, ◌≢◌, ℕ, ◌+◌, Bool, true, List, [], ◌++◌, length, Option, Ok, Err, arith, inl, inr, refl, sym, ap, subst, ◌∙◌}
use Rattle.std.specs.Prelude.{◌||◌, Result, take}
use Rattle.std.specs.Io.KnownBytes.{Appends}
use Rattle.std.proofs.KnownBytes.{Appends-trans}
use Rattle.std.proofs.Math.Seq.{take-append-add}
use Rattle.std.proofs.lemmas.Bool.{true≢false}
use Rattle.std.proofs.lemmas.List.{append-nil}
use Rattle.flashbase.specs.Device.{PutsPart, next_count}
use Rattle.flashbase.specs.Sinks.{SinkChange}
use Rattle.jnode.specs.declared.order.Endian.{Endian}
use Rattle.jscan.specs.Scans.{IsScannable}
use Rattle.jscan.specs.declared.geometry.ScanFault.TheVariants as scan
use Rattle.jmount.specs.Mount.{Mount}
use Rattle.jthrough.specs.MountsThrough.{AnswersThrough}
use Rattle.jthrough.specs.declared.fault.ViewFault.{ViewFault}
use Rattle.jthrough.specs.declared.fault.ViewFault.TheVariants as view
use Rattle.jreport.specs.Faults.{fault_of_report}
use Rattle.jreport.specs.Puts.{PutsReport}
use Rattle.jreport.specs.Report.{scan_text}
use Rattle.jreport.specs.Verdict.{PutsMounted, is_wrong, mounted_text}
use Rattle.jreport.specs.declared.faults.ProgramFault.{ProgramFault}
use Rattle.jreport.specs.declared.faults.ProgramFault.TheVariants as program
use Rattle.jreport.specs.declared.report_fault.ReportFault.{ReportFault}
use Rattle.jreport.specs.declared.report_fault.ReportFault.TheVariants as report
use Rattle.jreport.proofs.SinkLemmas.{sink_change}
use Rattle.jedge.specs.Acts.{PutsBy}
use Rattle.jedge.specs.Faults.{command_fault}
use Rattle.jedge.specs.Images.{view_refusal}
use Rattle.jedge.specs.Showing.{found_checked}
use Rattle.jedge.specs.Told.{Told}
use Rattle.jedge.specs.declared.fault.Fault.{Fault}
use Rattle.jedge.specs.declared.fault.Fault.TheVariants as fault
use Rattle.jedge.proofs.CostLemmas.{none_put}
use Rattle.jinspects.specs.Refused.{refusal_line}
use Rattle.jinspects.specs.ThroughVerdict.{ChecksThrough, IsCheckThrough, IsVerdictThrough, JudgesThrough, has_findings}

-- ---- the verdict

ok_is_no_err : (m : Mount) (f : ViewFault) (x y : Result Mount ViewFault) → x ≡ Ok m → y ≡ Err f → x ≡ y → ⊥
ok_is_no_err m f x y is_ok is_err same = cc

injected : (f g : ViewFault) (x y : Result Mount ViewFault) → x ≡ Err f → y ≡ Err g → x ≡ y → f ≡ g
injected f g x y is_f is_g same = cc

pub mounted_verdict : (e : Endian) (size : ℕ) (image : List ℕ) (asked : Bool) (m : Mount) (bad : Bool) → AnswersThrough e size image (Ok m) → bad ≡ (has_findings m || is_wrong asked m)
    → IsVerdictThrough e size image asked (mounted_text asked m) bad
mounted_verdict e size image asked m bad answers judged = record {
  answer = Ok m;
  answers = answers;
  memory = λ same. ok_is_no_err m view.OutOfMemory (Ok m) (Err view.OutOfMemory) refl refl same;
  said = refl;
  judged = judged;
}

pub refused_verdict : (e : Endian) (size : ℕ) (image : List ℕ) (asked : Bool) (why : ViewFault) → AnswersThrough e size image (Err why) → why ≢ view.OutOfMemory
    → IsVerdictThrough e size image asked (refusal_line (view_refusal why)) true
refused_verdict e size image asked why answers memory = record {
  answer = Err why;
  answers = answers;
  memory = λ same. memory (injected why view.OutOfMemory (Err why) (Err view.OutOfMemory) refl refl same);
  said = refl;
  judged = refl;
}

-- what a mount says
pub mounted_judged : (e : Endian) (size : ℕ) (asked : Bool) (image : List ℕ) (m : Mount) (s : SinkChange) (bad : Bool)
    → AnswersThrough e size image (Ok m) → PutsMounted asked m s (Ok bad) → PutsBy (JudgesThrough e size asked image) s (Ok (has_findings m || bad))
mounted_judged e size asked image m s bad answers put = record {
  text = mounted_text asked m;
  says = mounted_verdict e size image asked m (has_findings m || bad) answers (ap (λ (b : Bool). has_findings m || b) put.0);
  put = put.1;
  counts = put.2;
}

pub mounted_ended : (e : Endian) (size : ℕ) (asked : Bool) (image : List ℕ) (m : Mount) (s : SinkChange) (f : ProgramFault)
    → AnswersThrough e size image (Ok m) → PutsMounted asked m s (Err f) → PutsBy (JudgesThrough e size asked image) s (Err (command_fault f))
mounted_ended e size asked image m s program.Output answers put = record {
  text = take put.0.0 (mounted_text asked m);
  says = (mounted_text asked m, has_findings m || is_wrong asked m, mounted_verdict e size image asked m (has_findings m || is_wrong asked m) answers refl, (put.0.0, refl));
  put = put.0.1;
  counts = put.1;
}
mounted_ended e size asked image m s program.OutOfMemory answers put = record {
  text = [];
  says = (m, answers, refl);
  put = none_put s.old s.new put.0;
  counts = put.1;
}
mounted_ended e size asked image m s why answers put = absurd put

-- why it was refused
pub refused_judged : (e : Endian) (size : ℕ) (asked : Bool) (image : List ℕ) (why : ViewFault) (s : SinkChange)
    → AnswersThrough e size image (Err why) → why ≢ view.OutOfMemory → Appends s.old s.new (refusal_line (view_refusal why)) → s.now ≡ s.before
    → PutsBy (JudgesThrough e size asked image) s (Ok true)
refused_judged e size asked image why s answers memory put counts = record {
  text = refusal_line (view_refusal why);
  says = refused_verdict e size image asked why answers memory;
  put = put;
  counts = counts;
}

pub refused_ended : (e : Endian) (size : ℕ) (asked : Bool) (image : List ℕ) (why : ViewFault) (s : SinkChange)
    → AnswersThrough e size image (Err why) → why ≢ view.OutOfMemory → PutsPart s.old s.new (refusal_line (view_refusal why)) → s.now ≡ next_count s.before
    → PutsBy (JudgesThrough e size asked image) s (Err fault.Output)
refused_ended e size asked image why s answers memory put counts = record {
  text = take put.0 (refusal_line (view_refusal why));
  says = (refusal_line (view_refusal why), true, refused_verdict e size image asked why answers memory, (put.0, refl));
  put = put.1;
  counts = counts;
}

-- memory ran out in the mount
pub unjudged : (e : Endian) (size : ℕ) (asked : Bool) (image : List ℕ) (why : ViewFault) (s : SinkChange)
    → AnswersThrough e size image (Err why) → why ≡ view.OutOfMemory → s.new ≡ s.old → s.now ≡ s.before
    → PutsBy (JudgesThrough e size asked image) s (Err (fault.Refused (view_refusal view.OutOfMemory)))
unjudged e size asked image why s answers is same counts = record {
  text = [];
  says = (refl, subst (λ (f : ViewFault). AnswersThrough e size image (Err f)) is answers, refl);
  put = none_put s.old s.new same;
  counts = counts;
}

-- ---- the report and the verdict

-- the report ended early
pub report_ended : (e : Endian) (size : ℕ) (asked : Bool) (image : List ℕ) (s : SinkChange) (f : ReportFault)
    → IsScannable size image → PutsReport e size image s (Err f) → PutsBy (ChecksThrough e size asked image) s (Err (command_fault (fault_of_report f)))
report_ended e size asked image s report.Output sized is = record {
  text = take is.1.0 (scan_text e size image);
  says = inl (is.1.0, refl);
  put = is.1.1;
  counts = is.2;
}
report_ended e size asked image s (report.Scan scan.BlockSize) sized is = absurd (true≢false (sym sized.0 ∙ is.0))
report_ended e size asked image s (report.Scan scan.TooLarge) sized is = absurd (omega (arith, sized.1, is.0.1))
report_ended e size asked image s (report.Scan scan.OutOfMemory) sized is = absurd is
report_ended e size asked image s (report.Scan (scan.Incompatible addr nodetype)) sized is = absurd is.0
report_ended e size asked image s (report.Scan (scan.Compressed addr compr)) sized is = absurd is.0

-- the report went out, and the verdict is this
both_said : (e : Endian) (size : ℕ) (asked : Bool) (image verdict : List ℕ) (bad : Bool) → IsVerdictThrough e size image asked verdict bad
    → IsCheckThrough e size image asked (scan_text e size image ++ verdict) bad
both_said e size asked image verdict bad is = record { verdict = verdict; mount = is; said = refl }

pub check_put : (e : Endian) (size : ℕ) (asked : Bool) (image : List ℕ) (a b c : Option (List ℕ)) (before mid now findings : ℕ) (bad : Bool)
    → PutsReport e size image (sink_change a b before mid) (Ok findings) → PutsBy (JudgesThrough e size asked image) (sink_change b c mid now) (Ok bad)
    → PutsBy (ChecksThrough e size asked image) (sink_change a c before now) (Ok (found_checked bad))
check_put e size asked image a b c before mid now findings bad report judged = record {
  text = scan_text e size image ++ judged.text;
  says = (bad, both_said e size asked image judged.text bad judged.says, refl);
  put = Appends-trans a b c (scan_text e size image) judged.text report.2 judged.put;
  counts = judged.counts ∙ report.3;
}

-- the report went out, and nothing of the verdict
none_behind : (a b c : Option (List ℕ)) (text more : List ℕ) → Appends a b text → more ≡ [] → Appends b c more → Appends a c text
none_behind a b c text more put none rest =
    subst (Appends a c) (ap (λ (l : List ℕ). text ++ l) none ∙ append-nil text) (Appends-trans a b c text more put rest)

pub check_ended : (e : Endian) (size : ℕ) (asked : Bool) (image : List ℕ) (a b c : Option (List ℕ)) (before mid now findings : ℕ) (f : Fault)
    → PutsReport e size image (sink_change a b before mid) (Ok findings) → PutsBy (JudgesThrough e size asked image) (sink_change b c mid now) (Err f)
    → PutsBy (ChecksThrough e size asked image) (sink_change a c before now) (Err f)
check_ended e size asked image a b c before mid now findings (fault.File file) report judged = absurd judged.says
check_ended e size asked image a b c before mid now findings (fault.NotRead file) report judged = absurd judged.says
check_ended e size asked image a b c before mid now findings (fault.NoNodes of others) report judged = absurd judged.says
check_ended e size asked image a b c before mid now findings (fault.NoSpace folder) report judged = absurd judged.says
check_ended e size asked image a b c before mid now findings (fault.Findings of many) report judged = absurd judged.says
check_ended e size asked image a b c before mid now findings (fault.Refused why) report judged = record {
  text = scan_text e size image;
  says = (judged.says.0, judged.says.1, refl);
  put = none_behind a b c (scan_text e size image) judged.text report.2 judged.says.2 judged.put;
  counts = judged.counts ∙ report.3;
}
check_ended e size asked image a b c before mid now findings fault.Output report judged =
    let whole : List ℕ = judged.says.0 in
    let n : ℕ = judged.says.3.0 in
    record {
      text = scan_text e size image ++ judged.text;
      says = inr (
        scan_text e size image ++ whole,
        judged.says.1,
        both_said e size asked image whole judged.says.1 judged.says.2,
        (
          length (scan_text e size image) + n,
          ap (λ (l : List ℕ). scan_text e size image ++ l) judged.says.3.1 ∙ sym (take-append-add (scan_text e size image) whole n),
        ),
      );
      put = Appends-trans a b c (scan_text e size image) judged.text report.2 judged.put;
      counts = judged.counts ∙ ap next_count report.3;
    }
check_ended e size asked image a b c before mid now findings fault.OutOfMemory report judged = record {
  text = scan_text e size image;
  says = (judged.says.0, judged.says.1, refl);
  put = none_behind a b c (scan_text e size image) judged.text report.2 judged.says.2 judged.put;
  counts = judged.counts ∙ report.3;
}

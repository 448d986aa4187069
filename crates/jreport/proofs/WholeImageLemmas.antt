-- What is put of an image in memory.
use Rattle.std.proofs.Common.{◌≡◌, ℕ, ◌||◌, Bool, true, false, nat_lt, List, [], ◌++◌, sym, refl, ap, ◌∙◌, subst, inl, inr, Option, Some, None, Result, Ok, Err}
use Rattle.std.specs.Prelude.{IfSome, IsErrAnd, IsErrOf, IsTrue, IsFalse}
use Rattle.std.specs.Io.KnownBytes.{Appends}
use Rattle.std.proofs.KnownBytes.{Appends-trans}
use Rattle.flashbase.specs.Device.{next_count}
use Rattle.flashbase.proofs.DeviceLemmas.{part_behind}
use Rattle.jnode.specs.declared.order.Endian.{Endian}
use Rattle.jscan.specs.Counts.{is_found}
use Rattle.jscan.specs.Image.{is_block_size}
use Rattle.jscan.specs.declared.geometry.ScanFault.TheVariants as scan
use Rattle.jscan.specs.PartialScans.{HasScanned, IsScanOf}
use Rattle.jscan.specs.Scans.{IsScannable, image_extents}
use Rattle.jscan.specs.declared.answer.PartialScan.{PartialScan}
use Rattle.jscan.proofs.TakeLemmas.{scanned_image}
use Rattle.jmount.specs.Mount.{Mount}
use Rattle.jmount.specs.Tree.{State}
use Rattle.jmount.specs.Mounts.{Answers}
use Rattle.jmount.specs.declared.fault.MountFault.{MountFault}
use Rattle.jmount.specs.declared.fault.MountFault.TheVariants as mount
use Rattle.jreport.specs.Content.{content_of, PutsContent}
use Rattle.jreport.specs.Faults.{fault_of_report}
use Rattle.jreport.specs.WholeImage.{AnswersNoted, OnMount, PutsCheck, PutsFile, PutsListing, list_request}
use Rattle.jreport.specs.Puts.{PutsReport}
use Rattle.jreport.specs.Refusal.{IsRefusalTold}
use Rattle.jreport.specs.Report.{count_in_image, scan_text}
use Rattle.jreport.specs.TreeText.{Item, PutsFrom, PutsTreeAt}
use Rattle.jreport.specs.Verdict.{PutsVerdict}
use Rattle.jreport.specs.declared.faults.ProgramFault.{ProgramFault}
use Rattle.jreport.specs.declared.faults.ProgramFault.TheVariants as program
use Rattle.jreport.specs.declared.report_fault.ReportFault.{ReportFault}
use Rattle.jreport.specs.declared.report_fault.ReportFault.TheVariants as report
use Rattle.jreport.proofs.RefusalLemmas.{refusal_cases}
use Rattle.jreport.proofs.SinkLemmas.{sink_change}

-- ---- a mount

-- an image that does not mount
pub mount_failed : {T : Type 0} (e : Endian) (size : ℕ) (image : List ℕ) (f : ProgramFault) (a : Option (List ℕ)) (n : ℕ) (puts : Mount → Type 0) (r : Result T ProgramFault)
    → IsErrAnd r (λ x. x ≡ f) → IsRefusalTold e size image f → OnMount e size image (sink_change a a n n) puts r
mount_failed e size image f a n puts (Ok x) is told = absurd is
mount_failed {T} e size image f a n puts (Err x) is told =
    let P = λ (y : ProgramFault). OnMount {T = T} e size image (sink_change a a n n) puts (Err y) in
    subst P (sym is) (refusal_cases P e size image f (λ g here. (here, refl, refl)) (λ addr other here. (here, refl, refl)) told)

-- an image that mounts, and a call that says nothing of faults of a mount
on_mounted : {T : Type 0} (e : Endian) (size : ℕ) (image : List ℕ) (m : Mount) (a b : Option (List ℕ)) (before now : ℕ) (puts : Mount → Result T ProgramFault → Type 0) (r : Result T ProgramFault)
    → ((f : MountFault) → puts m (Err (program.Mount f)) → ⊥)
    → ((addr other : ℕ) → puts m (Err (program.Clash addr other)) → ⊥)
    → Answers e size image (Ok m) → puts m r → OnMount e size image (sink_change a b before now) (λ x. puts x r) r
on_mounted e size image m a b before now puts (Err (program.Mount f)) no_mount no_clash answers put = absurd (no_mount f put)
on_mounted e size image m a b before now puts (Err (program.Clash addr other)) no_mount no_clash answers put = absurd (no_clash addr other put)
on_mounted e size image m a b before now puts r no_mount no_clash answers put = (m, answers, put)

-- ---- `check`

-- the scan that a report made
pub scan_of : (e : Endian) (size : ℕ) (image : List ℕ) (partial : Option PartialScan) → IsScannable size image → IfSome partial (HasScanned (image_extents e size image))
    → IfSome partial (IsScanOf e size image)
scan_of e size image None scannable has = tt
scan_of e size image (Some scan) scannable has = scanned_image e size image scan scannable has

pub some_scan : (e : Endian) (size : ℕ) (image : List ℕ) (partial : Option PartialScan) → IfSome partial (IsScanOf e size image)
    → IfSome partial (λ scan. (f : Endian) × (n : ℕ) × IsScanOf f n image scan)
some_scan e size image None is = tt
some_scan e size image (Some scan) is = (e, size, is)

-- the report ended early
pub report_failed : (e : Endian) (size : ℕ) (asked : Bool) (image : List ℕ) (f : ReportFault) (a b : Option (List ℕ)) (before now : ℕ) (r : Result Bool ProgramFault)
    → IsErrAnd r (λ x. x ≡ fault_of_report f) → PutsReport e size image (sink_change a b before now) (Err f) → PutsCheck e size image asked (sink_change a b before now) r
report_failed e size asked image f a b before now (Ok x) is put = absurd is
report_failed e size asked image f a b before now (Err x) is put =
    subst (λ (y : ProgramFault). PutsCheck e size image asked (sink_change a b before now) (Err y)) (sym is) (by f put)
  where
    by : (g : ReportFault) → PutsReport e size image (sink_change a b before now) (Err g) → PutsCheck e size image asked (sink_change a b before now) (Err (fault_of_report g))
    by report.Output p = (inl p.1, p.2)
    by (report.Scan scan.OutOfMemory) p = absurd p
    by (report.Scan scan.BlockSize) p = p
    by (report.Scan scan.TooLarge) p = p
    by (report.Scan (scan.Incompatible addr nodetype)) p = absurd p.0
    by (report.Scan (scan.Compressed addr compr)) p = absurd p.0

pub check_done : (e : Endian) (size : ℕ) (asked : Bool) (image : List ℕ) (a b c : Option (List ℕ)) (before mid now findings : ℕ) (bad found : Bool)
    → PutsReport e size image (sink_change a b before mid) (Ok findings) → PutsVerdict e size image asked (sink_change b c mid now) (Ok bad)
    → found ≡ nat_lt 0 findings || bad → PutsCheck e size image asked (sink_change a c before now) (Ok found)
check_done e size asked image a b c before mid now findings bad found put said judged = (
  scan_text e size image ++ said.0,
  record {
    verdict = said.0;
    bad = bad;
    mount = said.1;
    said = refl;
    judged = judged ∙ ap (λ (n : ℕ). nat_lt 0 n || bad) put.1;
  },
  Appends-trans a b c (scan_text e size image) said.0 put.2 said.2,
  said.3 ∙ put.3,
)

-- the report went out, and the verdict did not, or a beginning of it
verdict_ends : (e : Endian) (size : ℕ) (asked : Bool) (image : List ℕ) (a b c : Option (List ℕ)) (before mid now findings : ℕ) (f : ProgramFault)
    → PutsReport e size image (sink_change a b before mid) (Ok findings) → PutsVerdict e size image asked (sink_change b c mid now) (Err f) → PutsCheck e size image asked (sink_change a c before now) (Err f)
verdict_ends e size asked image a b c before mid now findings program.Output report put = (
  inr (
    scan_text e size image ++ put.0,
    nat_lt 0 (count_in_image is_found e size image) || put.1,
    record { verdict = put.0; bad = put.1; mount = put.2; said = refl; judged = refl },
    part_behind a b c (scan_text e size image) put.0 report.2 put.3,
  ),
  put.4 ∙ ap next_count report.3,
)
verdict_ends e size asked image a b c before mid now findings program.OutOfMemory report put =
    (put.0, put.1, subst (λ (new : Option (List ℕ)). Appends a new (scan_text e size image)) (sym put.2) report.2, put.3 ∙ report.3)
verdict_ends e size asked image a b c before mid now findings (program.Mount mount.OutOfMemory) report put =
    (put.0, subst (λ (new : Option (List ℕ)). Appends a new (scan_text e size image)) (sym put.1) report.2, put.2 ∙ report.3)
verdict_ends e size asked image a b c before mid now findings (program.Mount mount.BlockSize) report put = absurd put
verdict_ends e size asked image a b c before mid now findings (program.Mount mount.TooLarge) report put = absurd put
verdict_ends e size asked image a b c before mid now findings (program.Mount (mount.Incompatible addr nodetype)) report put = absurd put
verdict_ends e size asked image a b c before mid now findings (program.Mount (mount.Compressed addr compr)) report put = absurd put
verdict_ends e size asked image a b c before mid now findings (program.Mount (mount.Clash addr)) report put = absurd put
verdict_ends e size asked image a b c before mid now findings (program.Mount mount.RootKind) report put = absurd put
verdict_ends e size asked image a b c before mid now findings (program.Load f) report put = absurd put
verdict_ends e size asked image a b c before mid now findings (program.Scan f) report put = absurd put
verdict_ends e size asked image a b c before mid now findings (program.File f) report put = absurd put
verdict_ends e size asked image a b c before mid now findings (program.NotRead f) report put = absurd put
verdict_ends e size asked image a b c before mid now findings (program.Listing line) report put = absurd put
verdict_ends e size asked image a b c before mid now findings (program.Session fault line cause) report put = absurd put
verdict_ends e size asked image a b c before mid now findings (program.Path f) report put = absurd put
verdict_ends e size asked image a b c before mid now findings program.NotRegular report put = absurd put
verdict_ends e size asked image a b c before mid now findings (program.NoSpace folder) report put = absurd put
verdict_ends e size asked image a b c before mid now findings (program.Data addr) report put = absurd put
verdict_ends e size asked image a b c before mid now findings (program.TooLong addr) report put = absurd put
verdict_ends e size asked image a b c before mid now findings (program.Image why) report put = absurd put
verdict_ends e size asked image a b c before mid now findings (program.Clash addr other) report put = absurd put

pub verdict_failed : (e : Endian) (size : ℕ) (asked : Bool) (image : List ℕ) (a b c : Option (List ℕ)) (before mid now findings : ℕ) (f : ProgramFault) (r : Result Bool ProgramFault)
    → IsErrAnd r (λ x. x ≡ f) → PutsReport e size image (sink_change a b before mid) (Ok findings) → PutsVerdict e size image asked (sink_change b c mid now) (Err f)
    → PutsCheck e size image asked (sink_change a c before now) r
verdict_failed e size asked image a b c before mid now findings f (Ok x) is report put = absurd is
verdict_failed e size asked image a b c before mid now findings f (Err x) is report put =
    subst (λ (y : ProgramFault). PutsCheck e size image asked (sink_change a c before now) (Err y)) (sym is)
    (verdict_ends e size asked image a b c before mid now findings f report put)

-- no fault of a verdict is the size of a block
pub verdict_has_size : (e : Endian) (size : ℕ) (asked : Bool) (image : List ℕ) (a b : Option (List ℕ)) (before now : ℕ) (f : ProgramFault) (r : Result Bool ProgramFault)
    → IsErrAnd r (λ x. x ≡ f) → IsTrue (is_block_size size) → PutsVerdict e size image asked (sink_change a b before now) (Err f)
    → (IsErrOf r (program.Scan scan.BlockSize) → IsFalse (is_block_size size)) × (IsFalse (is_block_size size) → IsErrOf r (program.Scan scan.BlockSize))
verdict_has_size e size asked image a b before now f (Ok x) is sized put = absurd is
verdict_has_size e size asked image a b before now f (Err x) is sized put = (
  λ same. absurd (subst (λ (q : Result Bool ProgramFault). PutsVerdict e size image asked (sink_change a b before now) q) same
      (subst (λ (y : ProgramFault). PutsVerdict e size image asked (sink_change a b before now) (Err y)) (sym is) put)),
  λ unsized. let bad : true ≡ false = sym sized ∙ unsized in cc,
)

-- ---- `cat`

pub file_put : (e : Endian) (size : ℕ) (path image : List ℕ) (m : Mount) (a b : Option (List ℕ)) (before now : ℕ) (r : Result ℕ ProgramFault)
    → Answers e size image (Ok m) → PutsContent (content_of m.state path) (sink_change a b before now) r → AnswersNoted m r → PutsFile e size image path (sink_change a b before now) r
file_put e size path image m a b before now r answers put noted =
    on_mounted e size image m a b before now (λ (x : Mount) (s : Result ℕ ProgramFault). PutsContent (content_of x.state path) (sink_change a b before now) s × AnswersNoted x s) r
    (λ f none. none.0.0) (λ addr other none. none.0.0) answers (put, noted)

-- a fault that is passed on
pub content_failed : (X : Type 0) (e : Endian) (size : ℕ) (path image : List ℕ) (m : Mount) (a b : Option (List ℕ)) (before now : ℕ) (f : ProgramFault) (r : Result ℕ ProgramFault)
    → IsErrAnd r (λ x. x ≡ f) → Answers e size image (Ok m) → PutsContent {T = X} (content_of m.state path) (sink_change a b before now) (Err f)
    → PutsFile e size image path (sink_change a b before now) r
content_failed X e size path image m a b before now f (Ok x) is answers put = absurd is
content_failed X e size path image m a b before now f (Err x) is answers put =
    subst (λ (y : ProgramFault). PutsFile e size image path (sink_change a b before now) (Err y)) (sym is)
    (file_put e size path image m a b before now (Err f) answers put tt)

-- ---- `ls`

-- a fault that is passed on, of the lines of an object
lines_passed_on : (X Y : Type 0) (s : State) (item : Item) (a b : Option (List ℕ)) (before now : ℕ) (f : ProgramFault)
    → PutsFrom {T = X} s item (sink_change a b before now) (Err f) → PutsFrom {T = Y} s item (sink_change a b before now) (Err f)
lines_passed_on X Y s item a b before now program.Output p = p
lines_passed_on X Y s item a b before now program.OutOfMemory p = p
lines_passed_on X Y s item a b before now (program.Load f) p = p
lines_passed_on X Y s item a b before now (program.Scan f) p = p
lines_passed_on X Y s item a b before now (program.Mount f) p = p
lines_passed_on X Y s item a b before now (program.File f) p = p
lines_passed_on X Y s item a b before now (program.NotRead f) p = p
lines_passed_on X Y s item a b before now (program.Listing line) p = p
lines_passed_on X Y s item a b before now (program.Session fault line cause) p = p
lines_passed_on X Y s item a b before now (program.Path f) p = p
lines_passed_on X Y s item a b before now program.NotRegular p = p
lines_passed_on X Y s item a b before now (program.NoSpace folder) p = p
lines_passed_on X Y s item a b before now (program.Data addr) p = p
lines_passed_on X Y s item a b before now (program.TooLong addr) p = p
lines_passed_on X Y s item a b before now (program.Image why) p = p
lines_passed_on X Y s item a b before now (program.Clash addr other) p = p

-- the same of a tree, or of a part of it
passed_on : (X Y : Type 0) (s : State) (path : Option (List ℕ)) (a b : Option (List ℕ)) (before now : ℕ) (f : ProgramFault)
    → PutsTreeAt {T = X} s path (sink_change a b before now) (Err f) → PutsTreeAt {T = Y} s path (sink_change a b before now) (Err f)
passed_on X Y s None a b before now f p = lines_passed_on X Y s ([], 1) a b before now f p
passed_on X Y s (Some path) a b before now program.Output p = (p.0, p.1, lines_passed_on X Y s p.0 a b before now program.Output p.2)
passed_on X Y s (Some path) a b before now program.OutOfMemory p = (p.0, p.1, lines_passed_on X Y s p.0 a b before now program.OutOfMemory p.2)
passed_on X Y s (Some path) a b before now (program.Load f) p = (p.0, p.1, lines_passed_on X Y s p.0 a b before now (program.Load f) p.2)
passed_on X Y s (Some path) a b before now (program.Scan f) p = (p.0, p.1, lines_passed_on X Y s p.0 a b before now (program.Scan f) p.2)
passed_on X Y s (Some path) a b before now (program.Mount f) p = (p.0, p.1, lines_passed_on X Y s p.0 a b before now (program.Mount f) p.2)
passed_on X Y s (Some path) a b before now (program.File f) p = (p.0, p.1, lines_passed_on X Y s p.0 a b before now (program.File f) p.2)
passed_on X Y s (Some path) a b before now (program.NotRead f) p = (p.0, p.1, lines_passed_on X Y s p.0 a b before now (program.NotRead f) p.2)
passed_on X Y s (Some path) a b before now (program.Listing line) p = (p.0, p.1, lines_passed_on X Y s p.0 a b before now (program.Listing line) p.2)
passed_on X Y s (Some path) a b before now (program.Session fault line cause) p = (p.0, p.1, lines_passed_on X Y s p.0 a b before now (program.Session fault line cause) p.2)
passed_on X Y s (Some path) a b before now (program.Path f) p = p
passed_on X Y s (Some path) a b before now program.NotRegular p = (p.0, p.1, lines_passed_on X Y s p.0 a b before now program.NotRegular p.2)
passed_on X Y s (Some path) a b before now (program.NoSpace folder) p = (p.0, p.1, lines_passed_on X Y s p.0 a b before now (program.NoSpace folder) p.2)
passed_on X Y s (Some path) a b before now (program.Data addr) p = (p.0, p.1, lines_passed_on X Y s p.0 a b before now (program.Data addr) p.2)
passed_on X Y s (Some path) a b before now (program.TooLong addr) p = (p.0, p.1, lines_passed_on X Y s p.0 a b before now (program.TooLong addr) p.2)
passed_on X Y s (Some path) a b before now (program.Image why) p = (p.0, p.1, lines_passed_on X Y s p.0 a b before now (program.Image why) p.2)
passed_on X Y s (Some path) a b before now (program.Clash addr other) p = (p.0, p.1, lines_passed_on X Y s p.0 a b before now (program.Clash addr other) p.2)

-- an answer of another kind
pub tree_done : (X : Type 0) (s : State) (path : Option (List ℕ)) (a b : Option (List ℕ)) (before now : ℕ) (x : X) (n : ℕ)
    → PutsTreeAt {T = X} s path (sink_change a b before now) (Ok x) → PutsTreeAt {T = ℕ} s path (sink_change a b before now) (Ok n)
tree_done X s None a b before now x n put = put
tree_done X s (Some path) a b before now x n put = (put.0, put.1, put.2)

-- no call fails by a mount
not_mounting : (X : Type 0) (s : State) (path : Option (List ℕ)) (a b : Option (List ℕ)) (before now : ℕ) (f : MountFault)
    → PutsTreeAt {T = X} s path (sink_change a b before now) (Err (program.Mount f)) → ⊥
not_mounting X s None a b before now f p = p
not_mounting X s (Some path) a b before now f p = p.2

not_clashing : (X : Type 0) (s : State) (path : Option (List ℕ)) (a b : Option (List ℕ)) (before now addr other : ℕ)
    → PutsTreeAt {T = X} s path (sink_change a b before now) (Err (program.Clash addr other)) → ⊥
not_clashing X s None a b before now addr other p = p
not_clashing X s (Some path) a b before now addr other p = p.2

pub tree_put : (e : Endian) (size : ℕ) (path : Option (List ℕ)) (image : List ℕ) (m : Mount) (a b : Option (List ℕ)) (before now : ℕ) (r : Result ℕ ProgramFault)
    → Answers e size image (Ok m) → PutsTreeAt m.state path (sink_change a b before now) r → AnswersNoted m r → PutsListing (list_request e size path) image (sink_change a b before now) r
tree_put e size path image m a b before now r answers put noted =
    on_mounted e size image m a b before now (λ (x : Mount) (s : Result ℕ ProgramFault). PutsTreeAt x.state path (sink_change a b before now) s × AnswersNoted x s) r
    (λ f none. not_mounting ℕ m.state path a b before now f none.0) (λ addr other none. not_clashing ℕ m.state path a b before now addr other none.0)
    answers (put, noted)

-- a fault that is passed on
pub tree_failed : (X : Type 0) (e : Endian) (size : ℕ) (path : Option (List ℕ)) (image : List ℕ) (m : Mount) (a b : Option (List ℕ)) (before now : ℕ) (f : ProgramFault) (r : Result ℕ ProgramFault)
    → IsErrAnd r (λ x. x ≡ f) → Answers e size image (Ok m) → PutsTreeAt {T = X} m.state path (sink_change a b before now) (Err f)
    → PutsListing (list_request e size path) image (sink_change a b before now) r
tree_failed X e size path image m a b before now f (Ok x) is answers put = absurd is
tree_failed X e size path image m a b before now f (Err x) is answers put =
    subst (λ (y : ProgramFault). PutsListing (list_request e size path) image (sink_change a b before now) (Err y)) (sym is)
    (tree_put e size path image m a b before now (Err f) answers (passed_on X ℕ m.state path a b before now f put) tt)

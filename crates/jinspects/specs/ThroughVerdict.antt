-- What `check --decompress` prints of an image: the report of its nodes as they are, and the
-- verdict on its mount through its compression.
use Rattle.std.specs.Prelude.{◌≡◌, ◌≢◌, ◌⊎◌, ◌++◌, ◌||◌, ◌==◌, ℕ, Bool, true, not, length, List, [], Result, Ok, Err}
use Rattle.jnode.specs.declared.order.Endian.{Endian}
use Rattle.jmount.specs.Mount.{Mount}
use Rattle.jmount.specs.declared.fault.MountFault.TheVariants as mount
use Rattle.jthrough.specs.MountsThrough.{AnswersThrough}
use Rattle.jthrough.specs.declared.fault.ViewFault.{ViewFault}
use Rattle.jthrough.specs.declared.fault.ViewFault.TheVariants as view
use Rattle.jreport.specs.Report.{scan_text}
use Rattle.jreport.specs.Verdict.{is_wrong, mounted_text}
use Rattle.jreport.specs.declared.faults.ProgramFault.TheVariants as program
use Rattle.jedge.specs.Acts.{Saying}
use Rattle.jedge.specs.Images.{view_refusal}
use Rattle.jedge.specs.Showing.{IsFrontOf, found_checked}
use Rattle.jedge.specs.Told.{Told}
use Rattle.jedge.specs.declared.fault.Fault.TheVariants as fault
use Rattle.jinspects.specs.Refused.{refusal_line}

-- ---- the verdict on what a mount through answered

-- rule: What is printed: The verdict of `check --decompress`.
--   definitions: jinspects.ThroughVerdict.through_verdict, jinspects.ThroughVerdict.IsCheckThrough
--   code: jinspects::verdict::put_verdict, jinspects::check::check_through
--   laws: jinspects::laws::plain_is_checked
abbrev pub through_verdict : Bool → Result Mount ViewFault → List ℕ
through_verdict asked (Ok m) = mounted_text asked m
through_verdict asked (Err why) = refusal_line (view_refusal why)

-- whether a mounted image has a finding; a compressed node that can be decompressed is none
abbrev pub has_findings : Mount → Bool
has_findings m = not (length m.findings == 0)

-- whether something is wrong
abbrev pub is_bad_through : Bool → Result Mount ViewFault → Bool
is_bad_through asked (Ok m) = has_findings m || is_wrong asked m
is_bad_through asked (Err why) = true

-- the verdict on an image, with its shape where it is asked for, and whether something is wrong;
-- out of memory is no verdict
pub record IsVerdictThrough (e : Endian) (size : ℕ) (image : List ℕ) (asked : Bool) (text : List ℕ)
    (bad : Bool) : Type 0 where
  pub answer : Result Mount ViewFault
  pub answers : AnswersThrough e size image answer
  pub memory : answer ≢ Err view.OutOfMemory
  pub said : text ≡ through_verdict asked answer
  pub judged : bad ≡ is_bad_through asked answer

-- This verdict; or a beginning of it, where the output fails; or nothing, where memory runs out in
-- the mount or behind it.
abbrev pub JudgesThrough : Endian → ℕ → Bool → List ℕ → Saying Bool
JudgesThrough e size asked image text (Ok bad) = IsVerdictThrough e size image asked text bad
JudgesThrough e size asked image text (Err (fault.File file)) = ⊥
JudgesThrough e size asked image text (Err (fault.NotRead file)) = ⊥
JudgesThrough e size asked image text (Err (fault.NoNodes of others)) = ⊥
JudgesThrough e size asked image text (Err (fault.NoSpace folder)) = ⊥
JudgesThrough e size asked image text (Err (fault.Findings of findings)) = ⊥
JudgesThrough e size asked image text (Err (fault.Refused why)) =
    (why ≡ program.Mount mount.OutOfMemory)
    × AnswersThrough e size image (Err view.OutOfMemory) × (text ≡ [])
JudgesThrough e size asked image text (Err fault.Output) = (whole : List ℕ) × (bad : Bool)
    × IsVerdictThrough e size image asked whole bad × IsFrontOf whole text
JudgesThrough e size asked image text (Err fault.OutOfMemory) =
    (m : Mount) × AnswersThrough e size image (Ok m) × (text ≡ [])

-- ---- the report and the verdict

-- What is printed of an image, and whether anything was found: the report, and then the verdict,
-- with the shape where it is asked for. The report counts compressed nodes as findings, and yet a
-- sound image that has some is found to be one.
pub record IsCheckThrough (e : Endian) (size : ℕ) (image : List ℕ) (asked : Bool) (text : List ℕ)
    (found : Bool) : Type 0 where
  pub verdict : List ℕ
  pub mount : IsVerdictThrough e size image asked verdict found
  pub said : text ≡ scan_text e size image ++ verdict

-- a beginning of the report, or of the report and the verdict
abbrev pub IsPartOfCheckThrough : Endian → ℕ → Bool → List ℕ → List ℕ → Type 0
IsPartOfCheckThrough e size asked image text = IsFrontOf (scan_text e size image) text
    ⊎ ((whole : List ℕ) × (found : Bool) × IsCheckThrough e size image asked whole found
    × IsFrontOf whole text)

-- The report of an image and the verdict on its mount through its compression, with its shape where
-- that is asked for. Where the output fails, a beginning of it; where memory runs out, in the mount
-- or behind it, the report.
abbrev pub ChecksThrough : Endian → ℕ → Bool → List ℕ → Saying Told
ChecksThrough e size asked image text (Ok told) =
    (found : Bool) × IsCheckThrough e size image asked text found × (told ≡ found_checked found)
ChecksThrough e size asked image text (Err (fault.File file)) = ⊥
ChecksThrough e size asked image text (Err (fault.NotRead file)) = ⊥
ChecksThrough e size asked image text (Err (fault.NoNodes of others)) = ⊥
ChecksThrough e size asked image text (Err (fault.NoSpace folder)) = ⊥
ChecksThrough e size asked image text (Err (fault.Findings of findings)) = ⊥
ChecksThrough e size asked image text (Err (fault.Refused why)) =
    (why ≡ program.Mount mount.OutOfMemory)
    × AnswersThrough e size image (Err view.OutOfMemory) × (text ≡ scan_text e size image)
ChecksThrough e size asked image text (Err fault.Output) =
    IsPartOfCheckThrough e size asked image text
ChecksThrough e size asked image text (Err fault.OutOfMemory) =
    (m : Mount) × AnswersThrough e size image (Ok m) × (text ≡ scan_text e size image)

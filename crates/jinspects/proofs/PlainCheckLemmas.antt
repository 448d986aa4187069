-- An image without compressed nodes is checked through its compression as it is checked.
use Rattle.std.proofs.Common.{◌≡◌, ◌≢◌, ℕ, Bool, true, nat_lt, List, Ok, Err, ap, refl, sym, ◌∙◌}
use Rattle.std.specs.Prelude.{◌||◌, Result}
use Rattle.jscan.specs.Counts.{is_found}
use Rattle.jreport.specs.Report.{count_in_image}
use Rattle.jnode.specs.declared.order.Endian.{Endian}
use Rattle.jmount.specs.Mount.{Mount}
use Rattle.jmount.specs.Mounts.{Answers}
use Rattle.jmount.specs.declared.fault.MountFault.{MountFault}
use Rattle.jmount.specs.declared.fault.MountFault.TheVariants as mount
use Rattle.jthrough.specs.MountsThrough.{AnswersThrough}
use Rattle.jthrough.specs.Plain.{AnswersPlain, HasNoCompressed, answer_viewed}
use Rattle.jthrough.specs.View.{mount_fault_viewed}
use Rattle.jthrough.specs.declared.fault.ViewFault.{ViewFault}
use Rattle.jthrough.specs.declared.fault.ViewFault.TheVariants as view
use Rattle.jthrough.proofs.PlainLemmas.{mount_is_plain, plain_is_mounted}
use Rattle.jreport.specs.Faults.{fault_text_of}
use Rattle.jreport.specs.Verdict.{IsVerdict, is_bad, refused_line, verdict_of}
use Rattle.jreport.specs.WholeImage.{IsCheck}
use Rattle.jedge.specs.Images.{view_refusal}
use Rattle.jinspects.specs.InspectLaws.{PlainIsChecked}
use Rattle.jinspects.specs.Refused.{refusal_line}
use Rattle.jinspects.specs.ThroughVerdict.{IsCheckThrough, IsVerdictThrough, is_bad_through, through_verdict}

-- ---- a refused mount

-- the line is the same
same_line : (f : MountFault) → refusal_line (view_refusal (mount_fault_viewed f)) ≡ refused_line f
unfolding refusal_line refused_line fault_text_of
same_line mount.BlockSize = refl
same_line mount.TooLarge = refl
same_line (mount.Incompatible addr nodetype) = refl
same_line (mount.Compressed addr compr) = refl
same_line (mount.Clash addr) = refl
same_line mount.RootKind = refl
same_line mount.OutOfMemory = refl

-- only want of memory is want of memory
viewed_memory : (f : MountFault) → mount_fault_viewed f ≡ view.OutOfMemory → f ≡ mount.OutOfMemory
viewed_memory mount.BlockSize is = absurd (cc)
viewed_memory mount.TooLarge is = absurd (cc)
viewed_memory (mount.Incompatible addr nodetype) is = absurd (cc)
viewed_memory (mount.Compressed addr compr) is = absurd (cc)
viewed_memory (mount.Clash addr) is = absurd (cc)
viewed_memory mount.RootKind is = absurd (cc)
viewed_memory mount.OutOfMemory is = refl

abbrev mount_err : MountFault → Result Mount MountFault
mount_err f = Err f

abbrev view_err : ViewFault → Result Mount ViewFault
view_err f = Err f

same_mount_fault : (f g : MountFault) (x y : Result Mount MountFault) → x ≡ Err f → y ≡ Err g → x ≡ y → f ≡ g
same_mount_fault f g x y is_f is_g same = cc

same_view_fault : (f g : ViewFault) (x y : Result Mount ViewFault) → x ≡ Err f → y ≡ Err g → x ≡ y → f ≡ g
same_view_fault f g x y is_f is_g same = cc

mount_memory : (f : MountFault) → view_err (mount_fault_viewed f) ≢ view_err view.OutOfMemory → mount_err f ≢ mount_err mount.OutOfMemory
mount_memory f none same =
    none (ap (λ (g : MountFault). view_err (mount_fault_viewed g)) (same_mount_fault f mount.OutOfMemory (mount_err f) (mount_err mount.OutOfMemory) refl refl same))

view_memory : (f : MountFault) → mount_err f ≢ mount_err mount.OutOfMemory → view_err (mount_fault_viewed f) ≢ view_err view.OutOfMemory
view_memory f none same = none (ap (λ (g : MountFault). mount_err g) (viewed_memory f
    (same_view_fault (mount_fault_viewed f) view.OutOfMemory (view_err (mount_fault_viewed f)) (view_err view.OutOfMemory) refl refl same)))

-- ---- the verdict

mount_is_no_fault : (m : Mount) (f : MountFault) (x y : Result Mount MountFault) → x ≡ Ok m → y ≡ Err f → x ≡ y → ⊥
mount_is_no_fault m f x y is_ok is_err same = cc

view_is_no_fault : (m : Mount) (f : ViewFault) (x y : Result Mount ViewFault) → x ≡ Ok m → y ≡ Err f → x ≡ y → ⊥
view_is_no_fault m f x y is_ok is_err same = cc

refused_plain : (e : Endian) (size : ℕ) (image : List ℕ) (asked : Bool) (text : List ℕ) (bad : Bool) (f : MountFault) → Answers e size image (Err f)
    → view_err (mount_fault_viewed f) ≢ view_err view.OutOfMemory → text ≡ refusal_line (view_refusal (mount_fault_viewed f)) → bad ≡ true → IsVerdict e size image asked text bad
refused_plain e size image asked text bad f answers memory said judged = record {
  answer = Err f;
  answers = answers;
  memory = mount_memory f memory;
  said = said ∙ same_line f;
  judged = judged;
}

refused_checked : (e : Endian) (size : ℕ) (image : List ℕ) (asked : Bool) (text : List ℕ) (f : MountFault) → Answers e size image (Err f)
    → view_err (mount_fault_viewed f) ≢ view_err view.OutOfMemory → text ≡ refusal_line (view_refusal (mount_fault_viewed f)) → (bad : Bool) × IsVerdict e size image asked text bad
refused_checked e size image asked text f answers memory said = (true, refused_plain e size image asked text true f answers memory said refl)

verdict_plain : (e : Endian) (size : ℕ) (image : List ℕ) (asked : Bool) (text : List ℕ) (answer : Result Mount ViewFault) → AnswersPlain e size image answer
    → answer ≢ view_err view.OutOfMemory → text ≡ through_verdict asked answer → (bad : Bool) × IsVerdict e size image asked text bad
verdict_plain e size image asked text (Ok m) answers memory said = (
  is_bad asked (Ok m),
  record {
    answer = Ok m;
    answers = answers;
    memory = λ same. mount_is_no_fault m mount.OutOfMemory (Ok m) (mount_err mount.OutOfMemory) refl refl same;
    said = said;
    judged = refl;
  },
)
verdict_plain e size image asked text (Err view.BlockSize) answers memory said = refused_checked e size image asked text mount.BlockSize answers memory said
verdict_plain e size image asked text (Err view.TooLarge) answers memory said = refused_checked e size image asked text mount.TooLarge answers memory said
verdict_plain e size image asked text (Err (view.Incompatible addr nodetype)) answers memory said =
    refused_checked e size image asked text (mount.Incompatible addr nodetype) answers memory said
verdict_plain e size image asked text (Err (view.Compressed addr compr)) answers memory said = absurd answers
verdict_plain e size image asked text (Err (view.Data addr)) answers memory said = absurd answers
verdict_plain e size image asked text (Err (view.TooLong addr)) answers memory said = absurd answers
verdict_plain e size image asked text (Err (view.Clash addr)) answers memory said = refused_checked e size image asked text (mount.Clash addr) answers memory said
verdict_plain e size image asked text (Err view.RootKind) answers memory said = refused_checked e size image asked text mount.RootKind answers memory said
verdict_plain e size image asked text (Err view.OutOfMemory) answers memory said = refused_checked e size image asked text mount.OutOfMemory answers memory said

verdict_through : (e : Endian) (size : ℕ) (image : List ℕ) (asked : Bool) (text : List ℕ) (answer : Result Mount MountFault)
    → AnswersThrough e size image (answer_viewed answer) → answer ≢ mount_err mount.OutOfMemory → text ≡ verdict_of asked answer
    → (bad : Bool) × IsVerdictThrough e size image asked text bad
verdict_through e size image asked text (Ok m) answers memory said = (
  is_bad_through asked (Ok m),
  record {
    answer = Ok m;
    answers = answers;
    memory = λ same. view_is_no_fault m view.OutOfMemory (Ok m) (view_err view.OutOfMemory) refl refl same;
    said = said;
    judged = refl;
  },
)
verdict_through e size image asked text (Err f) answers memory said = (
  true,
  record {
    answer = Err (mount_fault_viewed f);
    answers = answers;
    memory = view_memory f memory;
    said = said ∙ sym (same_line f);
    judged = refl;
  },
)

-- ---- the report and the verdict

check_plain : (e : Endian) (size : ℕ) (image : List ℕ) (asked : Bool) (text : List ℕ) → HasNoCompressed e size image
    → (found : Bool) × IsCheckThrough e size image asked text found → (found : Bool) × IsCheck e size image asked text found
check_plain e size image asked text plain is =
    let v = is.1.mount in
    let verdict = verdict_plain e size image asked is.1.verdict v.answer ((plain_is_mounted e size image v.answer plain).0 v.answers) v.memory v.said in (
      nat_lt 0 (count_in_image is_found e size image) || verdict.0,
      record {
        verdict = is.1.verdict;
        bad = verdict.0;
        mount = verdict.1;
        said = is.1.said;
        judged = refl;
      },
    )

check_through : (e : Endian) (size : ℕ) (image : List ℕ) (asked : Bool) (text : List ℕ) → HasNoCompressed e size image
    → (found : Bool) × IsCheck e size image asked text found → (found : Bool) × IsCheckThrough e size image asked text found
check_through e size image asked text plain is =
    let v = is.1.mount in
    let verdict = verdict_through e size image asked is.1.verdict v.answer ((mount_is_plain e size image v.answer plain).0 v.answers) v.memory v.said in
    (verdict.0, record { verdict = is.1.verdict; mount = verdict.1; said = is.1.said })

pub plain_is_checked : PlainIsChecked
plain_is_checked e size image asked text plain = (check_plain e size image asked text plain, check_through e size image asked text plain)

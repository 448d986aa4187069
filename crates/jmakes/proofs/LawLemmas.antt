-- Laws of the act that writes the lines of a listing.
use Rattle.std.proofs.Common.{◌≡◌, ◌⊎◌, ℕ, Bool, true, false, List, [], ◌∷◌, ◌++◌, Option, None, Some, Result, Ok, Err, refl, sym, ap, subst, ◌∙◌, inl, inr}
use Rattle.std.proofs.lemmas.List.{append-nil}
use Rattle.jnode.specs.declared.order.Endian.{Endian}
use Rattle.jmount.specs.Mount.{Mount}
use Rattle.jsteps.specs.declared.op.Op.{Op}
use Rattle.jlisting.specs.declared.line.Line.{Line}
use Rattle.jlog.specs.View.{written_flash}
use Rattle.jlog.specs.declared.fault.SessionFault.{SessionFault}
use Rattle.jlog.specs.declared.fault.SessionFault.TheVariants as session
use Rattle.jlog.specs.declared.start.Flash.{Flash}
use Rattle.jlog.proofs.ResumeLemmas.{why_not}
use Rattle.jreport.specs.Causes.{cause_of}
use Rattle.jreport.specs.declared.cause.Cause.{Cause}
use Rattle.jreport.specs.declared.cause.Cause.TheVariants as causes
use Rattle.jreport.specs.declared.reason.Reason.TheVariants as because
use Rattle.jreport.specs.declared.faults.ProgramFault.TheVariants as program
use Rattle.jedge.specs.Acts.{Act, Then, Ends, GoesOn, and_closed, answers, closes}
use Rattle.jedge.specs.Calls.{Event, Answers}
use Rattle.jedge.specs.Images.{MountsOrRefuses}
use Rattle.jedge.specs.Laws.{BlamesEvent, BlamesFailed, Happened, IsOfBytes, LooksOnly, MakesNothing}
use Rattle.jedge.specs.Told.{Told}
use Rattle.jedge.specs.Views.{Viewed}
use Rattle.jedge.specs.declared.fault.Fault.{Fault}
use Rattle.jedge.specs.declared.fault.Fault.TheVariants as fault
use Rattle.jedge.proofs.BlamingLemmas.{Unnamed, blames_after, mounts_blame, put_blames}
use Rattle.jedge.proofs.LookingLemmas.{answers_looks, both}
use Rattle.jmakes.specs.Blaming.{HasFailedWriting, IsFileBlamed}
use Rattle.jmakes.specs.Laws.{BlamesMaking, ComesLate, IsOfWriting, IsWriteBlamed, JudgesBeforeMaking, LeavesAtFault}
use Rattle.jmakes.specs.Leaving.{LeavesFiles}
use Rattle.jmakes.specs.Making.{FileMade, WantedFile, makes}
use Rattle.jmakes.specs.Notes.{TakesNotes, WeakNotes, written_told}
use Rattle.jmakes.specs.Writing.{Done, Emission, Emits, EndsAs, HasLaterMemory, HasOps, ImageWanted, Numbered, IsStartedBehind, WholeLine, all_ran, base_image, ending_of, mounts_in, not_written, told_on, plan_on, prints_accepted, writes_from, writes_lines, writes_on}
use Rattle.jmakes.proofs.BlamingLemmas.{made_blamed, makes_blamed}
use Rattle.jmakes.proofs.EndingLemmas.{EndsBadly, IsOfStop, ends_badly, unnamed_at_fault}
use Rattle.jmakes.proofs.LeavingLemmas.{IsQuiet, happened_after, looks_quiet, makes_leave, quiet_then}

-- ---- an act that only looks, and one behind it

pub then_leaves : {A : Type 0} (file : WantedFile) (first : Act A) (next : A → Act Told) → MakesNothing first → ((a : A) → LeavesAtFault file (next a)) → LeavesAtFault file (Then first next)
then_leaves file first next looks leaves events f atomic other (Ends g did is) =
    let quiet = looks_quiet [] events (looks events (Err g) did) in record { others = quiet.others; removed = quiet.removed }
then_leaves file first next looks leaves events f atomic other (GoesOn a before after did more is) =
    let rest = leaves a after f atomic other more in
    let quiet = quiet_then [] before after (looks_quiet [] before (looks before (Ok a) did)) (record { others = rest.others; removed = rest.removed }) in
    subst (λ (l : List Event). LeavesFiles l) (sym is) (record { others = quiet.others; removed = quiet.removed })

file_later : (name : List ℕ) (f : Fault) (xs ys : List Event) → IsFileBlamed name f ys → IsFileBlamed name f (xs ++ ys)
file_later name f xs ys is = (is.0, is.1, is.2, (is.3.0, is.3.1, happened_after _ xs ys is.3.2))

late_after : (name : List ℕ) (f : Fault) (xs ys : List Event) → ComesLate name f ys → ComesLate name f (xs ++ ys)
late_after name f xs ys (inl is) = inl (file_later name f xs ys is)
late_after name f xs ys (inr is) = inr is

pub then_judges : {A : Type 0} (file : WantedFile) (first : Act A) (next : A → Act Told) → MakesNothing first → ((a : A) → JudgesBeforeMaking file (next a)) → JudgesBeforeMaking file (Then first next)
then_judges file first next looks judges events f (Ends g did is) = inl (looks events (Err g) did)
then_judges file first next looks judges events f (GoesOn a before after did more is) = elim (judges a after f more) [
  | inl looked ↦ inl (subst (λ (l : List Event). LooksOnly l) (sym is) (both before after (looks before (Ok a) did) looked))
  | inr late ↦ inr (subst (λ (l : List Event). ComesLate file.name f l) (sym is) (late_after file.name f before after late))
]

-- how a fault is blamed
abbrev pub IsBlamedBy : List ℕ → Fault → List Event → Type 0
IsBlamedBy name f events = BlamesEvent f events ⊎ (IsFileBlamed name f events ⊎ IsWriteBlamed f events)

pub blamed_later : (name : List ℕ) (f : Fault) (xs ys : List Event) → IsBlamedBy name f ys → IsBlamedBy name f (xs ++ ys)
blamed_later name f xs ys (inl is) = inl (blames_after f xs ys is)
blamed_later name f xs ys (inr (inl is)) = inr (inl (file_later name f xs ys is))
blamed_later name f xs ys (inr (inr is)) = inr (inr (is.0, is.1, is.2, (is.3.0, is.3.1, happened_after _ xs ys is.3.2)))

pub then_blamed : {A : Type 0} (file : WantedFile) (first : Act A) (next : A → Act Told) → ((events : List Event) (f : Fault) → first events (Err f) → IsBlamedBy file.name f events) → ((a : A) → BlamesMaking file (next a)) → BlamesMaking file (Then first next)
then_blamed file first next one two events f (Ends g did is) = let alike : f ≡ g = cc in subst (λ (h : Fault). IsBlamedBy file.name h events) (sym alike) (one events g did)
then_blamed file first next one two events f (GoesOn a before after did more is) =
    subst (λ (l : List Event). IsBlamedBy file.name f l) (sym is) (blamed_later file.name f before after (two a after f more))

pub failed_blamed : {A : Type 0} (file : WantedFile) (first : Act A) → BlamesFailed first → (events : List Event) (f : Fault) → first events (Err f) → IsBlamedBy file.name f events
failed_blamed file first blames events f did = inl (blames events f did)

memory_blamed : (name : List ℕ) (events : List Event) (f : Fault) → f ≡ fault.OutOfMemory → IsBlamedBy name f events
memory_blamed name events f is = inl (subst (λ (g : Fault). BlamesEvent g events) (sym is) tt)

-- ---- the file is made, and the line is printed

closes_output : (failures : ℕ) (text : List ℕ) (events : List Event) (f : Fault) → closes Answers failures text events (Err f) → f ≡ fault.Output
closes_output failures text events (fault.File file) is = absurd is
closes_output failures text events (fault.NotRead file) is = absurd is
closes_output failures text events (fault.NoNodes of others) is = absurd is
closes_output failures text events (fault.NoSpace folder) is = absurd is
closes_output failures text events (fault.Findings of findings) is = absurd is
closes_output failures text events (fault.Refused why) is = absurd is
closes_output failures text events fault.Output is = refl
closes_output failures text events fault.OutOfMemory is = absurd is

put_output : (line : List ℕ) (told : Told) (text : List ℕ) (failures : ℕ) (events : List Event) (f : Fault) (answer : Result Told Fault) (closed : Result Unit Fault)
    → WholeLine line told text answer → closes Answers failures text events closed → Err f ≡ and_closed answer closed → f ≡ fault.Output
put_output line told text failures events f (Ok x) (Ok _) says out is = let no : ⊥ = cc in absurd no
put_output line told text failures events f (Ok x) (Err g) says out is = let alike : f ≡ g = cc in alike ∙ closes_output failures text events g out
put_output line told text failures events f (Err g) closed says out is = let alike : f ≡ g = cc in alike ∙ says.0

printed_output : (from : ℕ) (told : Told) (done : Done) (events : List Event) (f : Fault) → prints_accepted from told done events (Err f) → f ≡ fault.Output
printed_output from told done events f put = put_output _ told put.text put.failures events f put.answer put.closed put.says put.out put.comes_to

line_unnamed : (line : List ℕ) (told : Told) → Unnamed (WholeLine line told)
line_unnamed line told text f is = subst (λ (g : Fault). Rattle.jedge.proofs.BlamingLemmas.IsUnnamed g) (sym is.0) tt

printed_blames : (from : ℕ) (told : Told) (done : Done) (events : List Event) (f : Fault) → prints_accepted from told done events (Err f) → BlamesEvent f events
printed_blames from told done events f put = put_blames (WholeLine _ told) (line_unnamed _ told) put.text put.failures events f put.answer put.closed put.says put.counts put.out put.comes_to

-- how it ends by a fault
data FromFault (wanted : ImageWanted) (m : Mount) (of : Numbered) (events : List Event) (f : Fault) : Type 0 where
  NoMemory : events ≡ [] → f ≡ fault.OutOfMemory → FromFault wanted m of events f
  NotMade : makes wanted.file (Emits (written_flash wanted.order wanted.flash) m.image of.ops) all_ran events (Err f) → FromFault wanted m of events f
  EndedBadly : (made : FileMade Emission) → makes wanted.file (Emits (written_flash wanted.order wanted.flash) m.image of.ops) all_ran events (Ok made)
      → EndsAs wanted.file.name (ending_of (plan_on wanted.flash m.image) of.numbers made.answer made.closed) (Err f) → FromFault wanted m of events f
  NotPrinted : f ≡ fault.Output → BlamesEvent f events → FromFault wanted m of events f

ended_cases : (wanted : ImageWanted) (m : Mount) (of : Numbered) (from : ℕ) (told : Told) (made : FileMade Emission) (first last : List Event) (f : Fault)
    → makes wanted.file (Emits (written_flash wanted.order wanted.flash) m.image of.ops) all_ran first (Ok made)
    → Then (answers (EndsAs wanted.file.name (ending_of (plan_on wanted.flash m.image) of.numbers made.answer made.closed))) (prints_accepted from told) last (Err f)
    → FromFault wanted m of (first ++ last) f
ended_cases wanted m of from told made first last f did (Ends g ended is) =
    let alike : f ≡ g = cc in
    subst (λ (h : Fault). FromFault wanted m of (first ++ last) h) (sym alike)
    (subst (λ (l : List Event). FromFault wanted m of l g) (sym (ap (λ (l : List Event). first ++ l) ended.0 ∙ append-nil first)) (EndedBadly made did ended.1))
ended_cases wanted m of from told made first last f did (GoesOn done before after ended more is) =
    let blames = printed_blames from told done after f more in
    NotPrinted (printed_output from told done after f more)
    (blames_after f first last (subst (λ (l : List Event). BlamesEvent f l) (sym is) (blames_after f before after blames)))

made_cases : (wanted : ImageWanted) (m : Mount) (of : Numbered) (from : ℕ) (told : Told) (events : List Event) (f : Fault)
    → Then (makes wanted.file (Emits (written_flash wanted.order wanted.flash) m.image of.ops) all_ran) (λ made.
    Then (answers (EndsAs wanted.file.name (ending_of (plan_on wanted.flash m.image) of.numbers made.answer made.closed))) (prints_accepted from told)) events (Err f)
    → FromFault wanted m of events f
made_cases wanted m of from told events f (Ends g did is) = let alike : f ≡ g = cc in subst (λ (h : Fault). FromFault wanted m of events h) (sym alike) (NotMade did)
made_cases wanted m of from told events f (GoesOn made before after did more is) =
    subst (λ (l : List Event). FromFault wanted m of l f) (sym is) (ended_cases wanted m of from told made before after f did more)

from_cases : (wanted : ImageWanted) (m : Mount) (of : Numbered) (from : ℕ) (told : Told) (events : List Event) (f : Fault) → writes_from wanted m of from told events (Err f) → FromFault wanted m of events f
from_cases wanted m of from told events f (Ends g did is) = let alike : f ≡ g = cc in NoMemory did.0 (alike ∙ did.1)
from_cases wanted m of from told events f (GoesOn x before after did more is) =
    subst (λ (l : List Event). FromFault wanted m of l f) (sym (is ∙ ap (λ (l : List Event). l ++ after) did.0)) (made_cases wanted m of from told after f more)

-- ---- with an atomic file

from_leaves_by : (wanted : ImageWanted) (m : Mount) (of : Numbered) (events : List Event) (f : Fault) → wanted.file.atomic ≡ true → (f ≡ fault.Output → ⊥) → FromFault wanted m of events f → LeavesFiles events
from_leaves_by wanted m of events f atomic other (NoMemory none is) = subst (λ (l : List Event). LeavesFiles l) (sym none) (record { others = tt; removed = tt })
from_leaves_by wanted m of events f atomic other (NotMade did) = makes_leave wanted.file (Emits (written_flash wanted.order wanted.flash) m.image of.ops) all_ran events (Err f) atomic tt did
from_leaves_by wanted m of events f atomic other (EndedBadly made did ended) =
    makes_leave wanted.file (Emits (written_flash wanted.order wanted.flash) m.image of.ops) all_ran events (Ok made) atomic (unnamed_at_fault wanted.file.name f (plan_on wanted.flash m.image) of.numbers made.answer made.closed ended) did
from_leaves_by wanted m of events f atomic other (NotPrinted is blames) = absurd (other is)

from_leaves : (wanted : ImageWanted) (m : Mount) (of : Numbered) (from : ℕ) (told : Told) → LeavesAtFault wanted.file (writes_from wanted m of from told)
from_leaves wanted m of from told events f atomic other did = from_leaves_by wanted m of events f atomic other (from_cases wanted m of from told events f did)

pub on_leaves : (wanted : ImageWanted) (base : Told) (m : Mount) (of : Numbered) → LeavesAtFault wanted.file (writes_on wanted base m of)
on_leaves wanted base m of = then_leaves wanted.file _ _ (answers_looks _) (λ (from : ℕ).
    then_leaves wanted.file _ _ (answers_looks _) (λ (notes : WeakNotes). from_leaves wanted m of from (written_told base notes)))

pub lines_leave : (wanted : ImageWanted) (base : Option Viewed) (files : List ℕ → List ℕ) (lines : List Line) → LeavesAtFault wanted.file (writes_lines wanted base files lines)
lines_leave wanted base files lines = then_leaves wanted.file _ _ (answers_looks _) (λ (of : Numbered).
    then_leaves wanted.file _ _ (answers_looks _) (λ (m : Mount). on_leaves wanted (told_on base m) m of))

-- ---- all is judged before a file is made

stop_writes : (why : SessionFault) → IsOfStop why → IsOfWriting why
stop_writes (session.Refused refused) is = tt
stop_writes (session.Full needed free) is = tt
stop_writes session.Sink is = absurd is
stop_writes session.OutOfMemory is = tt
stop_writes session.Broken is = tt
stop_writes session.ReadOnly is = absurd is
stop_writes session.Geometry is = absurd is

badly_late : (name : List ℕ) (f : Fault) (events : List Event) → EndsBadly name f events → ComesLate name f events
badly_late name f events (inl is) = inl is
badly_late name f events (inr (inl is)) = inr (inl (session.Sink, is.0, causes.Host is.1, is.2, tt))
badly_late name f events (inr (inr is)) = inr (inl (is.0, is.1, is.2, is.3, stop_writes is.0 is.4))

bad_end : (wanted : ImageWanted) (m : Mount) (of : Numbered) (events : List Event) (f : Fault) (made : FileMade Emission)
    → makes wanted.file (Emits (written_flash wanted.order wanted.flash) m.image of.ops) all_ran events (Ok made)
    → EndsAs wanted.file.name (ending_of (plan_on wanted.flash m.image) of.numbers made.answer made.closed) (Err f) → EndsBadly wanted.file.name f events
bad_end wanted m of events f made did ended =
    ends_badly wanted.file f events events (written_flash wanted.order wanted.flash) m.image of.ops (plan_on wanted.flash m.image) of.numbers made did (made_blamed wanted.file (Emits (written_flash wanted.order wanted.flash) m.image of.ops) all_ran events made did) ended

from_judges_by : (wanted : ImageWanted) (m : Mount) (of : Numbered) (events : List Event) (f : Fault) → FromFault wanted m of events f → LooksOnly events ⊎ ComesLate wanted.file.name f events
from_judges_by wanted m of events f (NoMemory none is) = inl (subst (λ (l : List Event). LooksOnly l) (sym none) tt)
from_judges_by wanted m of events f (NotMade did) = elim (makes_blamed wanted.file (Emits (written_flash wanted.order wanted.flash) m.image of.ops) all_ran events f did) [
  | inl file ↦ inr (inl file)
  | inr memory ↦ inr (inr (inr (inr memory)))
]
from_judges_by wanted m of events f (EndedBadly made did ended) = inr (badly_late wanted.file.name f events (bad_end wanted m of events f made did ended))
from_judges_by wanted m of events f (NotPrinted is blames) = inr (inr (inr (inl is)))

from_judges : (wanted : ImageWanted) (m : Mount) (of : Numbered) (from : ℕ) (told : Told) → JudgesBeforeMaking wanted.file (writes_from wanted m of from told)
from_judges wanted m of from told events f did = from_judges_by wanted m of events f (from_cases wanted m of from told events f did)

pub lines_judge : (wanted : ImageWanted) (base : Option Viewed) (files : List ℕ → List ℕ) (lines : List Line) → JudgesBeforeMaking wanted.file (writes_lines wanted base files lines)
lines_judge wanted base files lines = then_judges wanted.file _ _ (answers_looks _) (λ (of : Numbered).
    then_judges wanted.file _ _ (answers_looks _) (λ (m : Mount).
    then_judges wanted.file _ _ (answers_looks _) (λ (from : ℕ).
    then_judges wanted.file _ _ (answers_looks _) (λ (notes : WeakNotes). from_judges wanted m of from (written_told (told_on base m) notes)))))

-- ---- a fault is an event

stop_of_bytes : (why : SessionFault) (line : Option ℕ) (cause : Cause) → IsOfStop why → IsOfBytes (program.Session why line cause)
stop_of_bytes (session.Refused refused) line cause is = tt
stop_of_bytes (session.Full needed free) line cause is = tt
stop_of_bytes session.Sink line cause is = absurd is
stop_of_bytes session.OutOfMemory line cause is = tt
stop_of_bytes session.Broken line cause is = tt
stop_of_bytes session.ReadOnly line cause is = absurd is
stop_of_bytes session.Geometry line cause is = absurd is

badly_blamed : (name : List ℕ) (f : Fault) (events : List Event) → EndsBadly name f events → IsBlamedBy name f events
badly_blamed name f events (inl is) = inr (inl is)
badly_blamed name f events (inr (inl is)) = inr (inr is)
badly_blamed name f events (inr (inr is)) = inl (subst (λ (g : Fault). BlamesEvent g events) (sym is.3) (stop_of_bytes is.0 is.1 is.2 is.4))

from_blamed_by : (wanted : ImageWanted) (m : Mount) (of : Numbered) (events : List Event) (f : Fault) → FromFault wanted m of events f → IsBlamedBy wanted.file.name f events
from_blamed_by wanted m of events f (NoMemory none is) = memory_blamed wanted.file.name events f is
from_blamed_by wanted m of events f (NotMade did) = elim (makes_blamed wanted.file (Emits (written_flash wanted.order wanted.flash) m.image of.ops) all_ran events f did) [
  | inl file ↦ inr (inl file)
  | inr memory ↦ memory_blamed wanted.file.name events f memory
]
from_blamed_by wanted m of events f (EndedBadly made did ended) = badly_blamed wanted.file.name f events (bad_end wanted m of events f made did ended)
from_blamed_by wanted m of events f (NotPrinted is blames) = inl blames

from_blamed : (wanted : ImageWanted) (m : Mount) (of : Numbered) (from : ℕ) (told : Told) → BlamesMaking wanted.file (writes_from wanted m of from told)
from_blamed wanted m of from told events f did = from_blamed_by wanted m of events f (from_cases wanted m of from told events f did)

pub start_of_bytes : (e : Endian) (flash : Flash) (m : Mount) (events : List Event) (f : Fault) → IsStartedBehind e flash m (Err f) → BlamesEvent f events
start_of_bytes e flash m events f is =
    let cause : Cause = cause_of (plan_on flash m.image) is.0 because.Other None in
    subst (λ (g : Fault). BlamesEvent g events) (sym is.2)
    (elim (why_not flash.page e flash.geometry.block flash.blocks m is.0 is.1) [
      | inl read_only ↦ subst (λ (why : SessionFault). IsOfBytes (program.Session why None cause)) (sym read_only) tt
      | inr geometry ↦ subst (λ (why : SessionFault). IsOfBytes (program.Session why None cause)) (sym geometry) tt
    ])

notes_memory : (asked : Bool) (e : Endian) (flash : Flash) (m : Mount) (ops : List Op) (f : Fault) → TakesNotes asked e flash m ops (Err f) → f ≡ fault.OutOfMemory
notes_memory true e flash m ops f is = is
notes_memory false e flash m ops f is = absurd is

pub lines_blamed : (wanted : ImageWanted) (base : Option Viewed) (files : List ℕ → List ℕ) (lines : List Line) → BlamesMaking wanted.file (writes_lines wanted base files lines)
lines_blamed wanted base files lines = then_blamed wanted.file _ _ (λ events f did. memory_blamed wanted.file.name events f did.1) (λ (of : Numbered).
    then_blamed wanted.file _ _ (failed_blamed {A = Mount} wanted.file (mounts_in wanted (base_image base)) (mounts_blame wanted.order wanted.flash.geometry.block (base_image base))) (λ (m : Mount).
    then_blamed wanted.file _ _ (λ events f did. inl (start_of_bytes wanted.order wanted.flash m events f did.1)) (λ (from : ℕ).
    then_blamed wanted.file _ _ (λ events f did. memory_blamed wanted.file.name events f (notes_memory wanted.weak wanted.order wanted.flash m of.ops f did.1)) (λ (notes : WeakNotes).
    from_blamed wanted m of from (written_told (told_on base m) notes)))))

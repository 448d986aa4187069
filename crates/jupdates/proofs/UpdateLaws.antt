-- Laws of `update` and `build --compress`: what comes before the file is made only looks.
use Rattle.std.proofs.Common.{◌≡◌, ◌⊎◌, ℕ, Bool, true, List, [], ◌++◌, Option, None, Some, Result, Ok, Err, refl, sym, ap, subst, ◌∙◌, inl, inr}
use Rattle.std.proofs.lemmas.List.{append-nil}
use Rattle.std.specs.Prelude.{IsTrue, length}
use Rattle.jnode.specs.declared.order.Endian.{Endian}
use Rattle.jmount.specs.Mount.{Mount}
use Rattle.jlisting.specs.declared.line.Line.{Line}
use Rattle.jbuild.specs.HostFiles.{part_contents}
use Rattle.jbuild.specs.declared.host_files.HostFiles.{HostFiles}
use Rattle.jcommand.specs.declared.parsed.Updating.{Updating}
use Rattle.jdevice.specs.Run.{DeviceDone, IsDeviceRun, device_image, stops_at_op}
use Rattle.jedge.specs.Acts.{Act, Ends, GoesOn, Then, answers}
use Rattle.jedge.specs.Calls.{Event}
use Rattle.jedge.specs.Laws.{LooksOnly}
use Rattle.jedge.specs.Told.{Told}
use Rattle.jedge.specs.declared.fault.Fault.{Fault}
use Rattle.jedge.specs.declared.fault.Fault.TheVariants as fault
use Rattle.jedge.proofs.LookingLemmas.{answers_looks, loads_looks}
use Rattle.jreads.proofs.LookLemmas.{loads_named_looks}
use Rattle.jmakes.specs.Laws.{ComesLate, JudgesBeforeMaking, LeavesAtFault}
use Rattle.jmakes.specs.Leaving.{LeavesFiles}
use Rattle.jmakes.specs.Making.{FileMade, WantedFile, makes}
use Rattle.jmakes.specs.Writing.{EndsAs, Numbered, ending_of, plan_on}
use Rattle.jmakes.proofs.BlamingLemmas.{made_blamed, makes_blamed}
use Rattle.jmakes.proofs.LawLemmas.{then_judges, then_leaves}
use Rattle.jmakes.proofs.LeavingLemmas.{makes_leave}
use Rattle.jupdates.specs.Asked.{DeviceWanted, device_built, device_wanted}
use Rattle.jupdates.specs.Commands.{updates_lines, updates_listing, updates_text}
use Rattle.jupdates.specs.Laws.{BuildCompressedIsJudged, BuildCompressedLeavesFiles, UpdateIsJudged, UpdateLeavesFiles}
use Rattle.jupdates.specs.Updating.{PutsImage, RunsOnDevice, ends_well, prints_updated, ran_of, updated_told, updates_mounted, writes_device}
use Rattle.jupdates.proofs.EndLemmas.{printed_by_output, update_late, update_unnamed}

-- ---- the file is made, and the line is printed

abbrev pub makes_update : DeviceWanted → List ℕ → DeviceDone → Act (FileMade Bool)
makes_update wanted image run = makes wanted.file (PutsImage (device_image wanted.on image run)) (ends_well run)

abbrev pub ends_update : DeviceWanted → List ℕ → List ℕ → DeviceDone → Told → FileMade Bool → Act Told
ends_update wanted image numbers run told made = Then (answers (EndsAs wanted.file.name (ending_of (plan_on wanted.on.flash image) numbers (ran_of run) made.closed))) (prints_updated (length run.bytes) told)

-- how it ends by a fault
data ByFault (wanted : DeviceWanted) (image numbers : List ℕ) (run : DeviceDone) (events : List Event) (f : Fault) : Type 0 where
  NotMade : makes_update wanted image run events (Err f) → ByFault wanted image numbers run events f
  EndedBadly : (made : FileMade Bool) → makes_update wanted image run events (Ok made)
      → EndsAs wanted.file.name (ending_of (plan_on wanted.on.flash image) numbers (ran_of run) made.closed) (Err f) → ByFault wanted image numbers run events f
  NotPrinted : f ≡ fault.Output → ByFault wanted image numbers run events f

ended_by : (wanted : DeviceWanted) (image numbers : List ℕ) (run : DeviceDone) (told : Told) (made : FileMade Bool) (first last : List Event) (f : Fault)
    → makes_update wanted image run first (Ok made) → ends_update wanted image numbers run told made last (Err f) → ByFault wanted image numbers run (first ++ last) f
ended_by wanted image numbers run told made first last f did (Ends g ended is) =
    let alike : f ≡ g = cc in
    subst (λ (h : Fault). ByFault wanted image numbers run (first ++ last) h) (sym alike)
    (subst (λ (l : List Event). ByFault wanted image numbers run l g) (sym (ap (λ (l : List Event). first ++ l) ended.0 ∙ append-nil first)) (EndedBadly made did ended.1))
ended_by wanted image numbers run told made first last f did (GoesOn done before after ended more is) = NotPrinted (printed_by_output (length run.bytes) told done after f more)

made_by : (wanted : DeviceWanted) (image numbers : List ℕ) (run : DeviceDone) (told : Told) (events : List Event) (f : Fault)
    → Then (makes_update wanted image run) (ends_update wanted image numbers run told) events (Err f) → ByFault wanted image numbers run events f
made_by wanted image numbers run told events f (Ends g did is) = let alike : f ≡ g = cc in subst (λ (h : Fault). ByFault wanted image numbers run events h) (sym alike) (NotMade did)
made_by wanted image numbers run told events f (GoesOn made before after did more is) =
    subst (λ (l : List Event). ByFault wanted image numbers run l f) (sym is) (ended_by wanted image numbers run told made before after f did more)

-- ---- with an atomic file

leaves_by : (wanted : DeviceWanted) (image numbers : List ℕ) (run : DeviceDone) (events : List Event) (f : Fault) → wanted.file.atomic ≡ true → (f ≡ fault.Output → ⊥) → ByFault wanted image numbers run events f → LeavesFiles events
leaves_by wanted image numbers run events f atomic other (NotMade did) = makes_leave wanted.file (PutsImage (device_image wanted.on image run)) (ends_well run) events (Err f) atomic tt did
leaves_by wanted image numbers run events f atomic other (EndedBadly made did ended) =
    makes_leave wanted.file (PutsImage (device_image wanted.on image run)) (ends_well run) events (Ok made) atomic
    (update_unnamed wanted.file.name f (plan_on wanted.on.flash image) numbers run made.answer made.closed ended) did
leaves_by wanted image numbers run events f atomic other (NotPrinted is) = absurd (other is)

write_leaves : (wanted : DeviceWanted) (image numbers : List ℕ) (run : DeviceDone) (told : Told) → LeavesAtFault wanted.file (writes_device wanted image numbers run told)
write_leaves wanted image numbers run told = then_leaves wanted.file _ _ (answers_looks _) (λ _ events f atomic other did. leaves_by wanted image numbers run events f atomic other (made_by wanted image numbers run told events f did))

mounted_leaves : (e : Endian) (wanted : DeviceWanted) (m : Mount) (of : Numbered) (others : Option ℕ) → LeavesAtFault wanted.file (updates_mounted e wanted m of others)
mounted_leaves e wanted m of others = then_leaves wanted.file _ _ (answers_looks _) (λ (from : ℕ).
    then_leaves wanted.file _ _ (answers_looks _) (λ (run : DeviceDone). write_leaves wanted m.image of.numbers run (updated_told wanted others m run)))

lines_leave : (e : Endian) (wanted : DeviceWanted) (image : List ℕ) (files : List ℕ → List ℕ) (lines : List Line) → LeavesAtFault wanted.file (updates_lines e wanted image files lines)
lines_leave e wanted image files lines = then_leaves wanted.file _ _ (answers_looks _) (λ (of : Numbered).
    then_leaves wanted.file _ _ (answers_looks _) (λ (others : Option ℕ).
    then_leaves wanted.file _ _ (answers_looks _) (λ (m : Mount). mounted_leaves e wanted m of others)))

pub text_leaves : (e : Endian) (wanted : DeviceWanted) (image : List ℕ) (before : HostFiles) (text : List ℕ) → LeavesAtFault wanted.file (updates_text e wanted image before text)
text_leaves e wanted image before text = then_leaves wanted.file _ _ (answers_looks _) (λ (lines : List Line).
    then_leaves wanted.file _ _ (loads_named_looks lines before) (λ (files : HostFiles). lines_leave e wanted image (part_contents files) lines))

listing_leaves : (e : Endian) (wanted : DeviceWanted) (image text : List ℕ) → LeavesAtFault wanted.file (updates_listing e wanted image text)
listing_leaves e wanted image text = then_leaves wanted.file _ _ (answers_looks _) (λ (none : HostFiles). text_leaves e wanted image none text)

-- the file, before it is known up to where it is filled
abbrev pub file_updated : Updating (List ℕ) → WantedFile
file_updated u = record { name = u.output; atomic = u.placing.atomic; filling = None }

pub update_leaves_files : UpdateLeavesFiles
update_leaves_files e u events f atomic other did =
    then_leaves (file_updated u) _ _ (loads_looks u.image) (λ (image : List ℕ).
    then_leaves (file_updated u) _ _ (loads_looks u.listing) (λ (text : List ℕ). listing_leaves e (device_wanted u image) image text)) events f atomic other did

pub build_compressed_leaves_files : BuildCompressedLeavesFiles
build_compressed_leaves_files e b = then_leaves (device_built b.target).file _ _ (loads_looks b.listing) (λ (text : List ℕ). listing_leaves e (device_built b.target) [] text)

-- ---- all is judged before a file is made

judged_by : (wanted : DeviceWanted) (image numbers : List ℕ) (run : DeviceDone) (events : List Event) (f : Fault) → IsTrue (stops_at_op run.stopped) → ByFault wanted image numbers run events f
    → LooksOnly events ⊎ ComesLate wanted.file.name f events
judged_by wanted image numbers run events f stops (NotMade did) = elim (makes_blamed wanted.file (PutsImage (device_image wanted.on image run)) (ends_well run) events f did) [
  | inl file ↦ inr (inl file)
  | inr memory ↦ inr (inr (inr (inr memory)))
]
judged_by wanted image numbers run events f stops (EndedBadly made did ended) =
    inr (update_late wanted.file.name f events (plan_on wanted.on.flash image) numbers run made.closed stops
    (made_blamed wanted.file (PutsImage (device_image wanted.on image run)) (ends_well run) events made did) ended)
judged_by wanted image numbers run events f stops (NotPrinted is) = inr (inr (inr (inl is)))

write_judges : (wanted : DeviceWanted) (image numbers : List ℕ) (run : DeviceDone) (told : Told) → IsTrue (stops_at_op run.stopped) → JudgesBeforeMaking wanted.file (writes_device wanted image numbers run told)
write_judges wanted image numbers run told stops = then_judges wanted.file _ _ (answers_looks _) (λ _ events f did. judged_by wanted image numbers run events f stops (made_by wanted image numbers run told events f did))

-- operations run in memory, and what they did goes to the file
run_judges : (e : Endian) (wanted : DeviceWanted) (m : Mount) (of : Numbered) (others : Option ℕ)
    → JudgesBeforeMaking wanted.file (Then (answers (RunsOnDevice e wanted.on m.image of.ops)) (λ run. writes_device wanted m.image of.numbers run (updated_told wanted others m run)))
run_judges e wanted m of others events f (Ends g did is) = inl (answers_looks (RunsOnDevice e wanted.on m.image of.ops) events (Err g) did)
run_judges e wanted m of others events f (GoesOn run before after did more is) =
    subst (λ (l : List Event). LooksOnly l ⊎ ComesLate wanted.file.name f l) (sym (is ∙ ap (λ (l : List Event). l ++ after) did.0))
    (write_judges wanted m.image of.numbers run (updated_told wanted others m run) did.1.stops after f more)

mounted_judges : (e : Endian) (wanted : DeviceWanted) (m : Mount) (of : Numbered) (others : Option ℕ) → JudgesBeforeMaking wanted.file (updates_mounted e wanted m of others)
mounted_judges e wanted m of others = then_judges wanted.file _ _ (answers_looks _) (λ (from : ℕ). run_judges e wanted m of others)

lines_judge : (e : Endian) (wanted : DeviceWanted) (image : List ℕ) (files : List ℕ → List ℕ) (lines : List Line) → JudgesBeforeMaking wanted.file (updates_lines e wanted image files lines)
lines_judge e wanted image files lines = then_judges wanted.file _ _ (answers_looks _) (λ (of : Numbered).
    then_judges wanted.file _ _ (answers_looks _) (λ (others : Option ℕ).
    then_judges wanted.file _ _ (answers_looks _) (λ (m : Mount). mounted_judges e wanted m of others)))

pub text_judges : (e : Endian) (wanted : DeviceWanted) (image : List ℕ) (before : HostFiles) (text : List ℕ) → JudgesBeforeMaking wanted.file (updates_text e wanted image before text)
text_judges e wanted image before text = then_judges wanted.file _ _ (answers_looks _) (λ (lines : List Line).
    then_judges wanted.file _ _ (loads_named_looks lines before) (λ (files : HostFiles). lines_judge e wanted image (part_contents files) lines))

listing_judges : (e : Endian) (wanted : DeviceWanted) (image text : List ℕ) → JudgesBeforeMaking wanted.file (updates_listing e wanted image text)
listing_judges e wanted image text = then_judges wanted.file _ _ (answers_looks _) (λ (none : HostFiles). text_judges e wanted image none text)

pub update_is_judged : UpdateIsJudged
update_is_judged e u events f did =
    then_judges (file_updated u) _ _ (loads_looks u.image) (λ (image : List ℕ).
    then_judges (file_updated u) _ _ (loads_looks u.listing) (λ (text : List ℕ). listing_judges e (device_wanted u image) image text)) events f did

pub build_compressed_is_judged : BuildCompressedIsJudged
build_compressed_is_judged e b = then_judges (device_built b.target).file _ _ (loads_looks b.listing) (λ (text : List ℕ). listing_judges e (device_built b.target) [] text)

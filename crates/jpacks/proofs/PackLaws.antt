-- Laws of `pack` and `pack --compress`: what comes before the listing is written only looks.
use Rattle.std.proofs.Common.{◌≡◌, ◌⊎◌, ◌++◌, ℕ, List, [], None, Ok, Err, inl, inr, refl, subst, sym}
use Rattle.jnode.specs.declared.order.Endian.{Endian}
use Rattle.jbuild.specs.declared.host_files.HostFiles.{HostFiles}
use Rattle.jedge.specs.Acts.{Act, Ends, GoesOn, Then, answers}
use Rattle.jedge.specs.Calls.{Answers, Event, Open}
use Rattle.jedge.specs.Laws.{BlamesEvent}
use Rattle.jedge.specs.Told.{Told}
use Rattle.jcommand.specs.declared.parsed.Packing.{Packing}
use Rattle.jedge.specs.declared.fault.Fault.{Fault}
use Rattle.jedge.specs.declared.fault.Fault.TheVariants as fault
use Rattle.jedge.proofs.LookingLemmas.{answers_looks}
use Rattle.jfolders.specs.Keeping.{reads_folder}
use Rattle.jfolders.specs.Laws.{BlamesCall}
use Rattle.jfolders.specs.Reading.{listing_settings}
use Rattle.jfolders.specs.declared.keeping.Listed.{Listed}
use Rattle.jfolders.proofs.BlameLaws.{folders_blamed}
use Rattle.jfolders.proofs.ReadLaws.{reading_makes_nothing}
use Rattle.jmakes.specs.Laws.{BlamesMaking, JudgesBeforeMaking, LeavesAtFault}
use Rattle.jmakes.specs.Commands.{writes_text}
use Rattle.jmakes.specs.Making.{WantedFile}
use Rattle.jmakes.specs.Writing.{ImageWanted}
use Rattle.jmakes.proofs.CommandLaws.{text_blamed, text_judges, text_leaves}
use Rattle.jmakes.proofs.LawLemmas.{IsBlamedBy, blamed_later, then_blamed, then_judges, then_leaves}
use Rattle.jupdates.specs.Commands.{updates_text}
use Rattle.jupdates.proofs.UpdateLaws.{text_leaves as compressed_leaves, text_judges as compressed_judges}
use Rattle.jpacks.specs.PackLaws.{IsPackBlamed, PackBlamed, PackCompressedJudgedFirst, PackCompressedLeavesFiles, PackJudgedFirst, PackLeavesFiles}
use Rattle.jpacks.specs.Packing.{WereKept, device_of_packing, file_of_packing, image_packed, packed_told, packs_folder, writes_listed}

-- the fault is that of the act before an answer
fault_of : (act : Act Told) (make : Told → Told) (events : List Event) (f : Fault) → Then act (λ told. answers (λ result. result ≡ Ok (make told))) events (Err f) → act events (Err f)
fault_of act make events f (Ends g did is) = let alike : f ≡ g = cc in subst (λ (h : Fault). act events (Err h)) (sym alike) did
fault_of act make events f (GoesOn told before after did more is) = let no : ⊥ = (let wrong = more.1 in cc) in absurd no

-- ---- the listing of a folder is written

-- by an act, of what was read before and of a text
abbrev pub Writing : Type 1
Writing = HostFiles → List ℕ → Act Told

listed_leaves : (file : WantedFile) (writes : Writing) (listed : Listed) → ((before : HostFiles) (text : List ℕ) → LeavesAtFault file (writes before text)) → LeavesAtFault file (writes_listed writes listed)
listed_leaves file writes listed leaves = then_leaves file _ _ (answers_looks _) (λ (before : HostFiles) events f atomic other did.
    leaves before listed.text.items events f atomic other (fault_of _ (packed_told listed.left_out) events f did))

listed_judges : (file : WantedFile) (writes : Writing) (listed : Listed) → ((before : HostFiles) (text : List ℕ) → JudgesBeforeMaking file (writes before text)) → JudgesBeforeMaking file (writes_listed writes listed)
listed_judges file writes listed judges = then_judges file _ _ (answers_looks _) (λ (before : HostFiles) events f did.
    judges before listed.text.items events f (fault_of _ (packed_told listed.left_out) events f did))

kept_blamed : (wanted : ImageWanted) (listed : Listed) (events : List Event) (f : Fault) → answers (WereKept listed.files) events (Err f) → IsBlamedBy wanted.file.name f events
kept_blamed wanted listed events f is = let no : ⊥ = (let wrong = is.1.1 in cc) in absurd no

listed_blamed : (wanted : ImageWanted) (listed : Listed) → BlamesMaking wanted.file (writes_listed (writes_text wanted None) listed)
listed_blamed wanted listed = then_blamed wanted.file _ _ (kept_blamed wanted listed) (λ (before : HostFiles) events f did.
    text_blamed wanted None before listed.text.items events f (fault_of _ (packed_told listed.left_out) events f did))

-- ---- the commands

packs_leave : (asked : Packing (List ℕ)) (file : WantedFile) (writes : Writing) → ((before : HostFiles) (text : List ℕ) → LeavesAtFault file (writes before text)) → LeavesAtFault file (packs_folder asked writes)
packs_leave asked file writes leaves = then_leaves file _ _
    (reading_makes_nothing (listing_settings asked.owner asked.time) asked.quiet asked.folder).1
    (λ (listed : Listed). listed_leaves file writes listed leaves)

packs_judge : (asked : Packing (List ℕ)) (file : WantedFile) (writes : Writing) → ((before : HostFiles) (text : List ℕ) → JudgesBeforeMaking file (writes before text)) → JudgesBeforeMaking file (packs_folder asked writes)
packs_judge asked file writes judges = then_judges file _ _
    (reading_makes_nothing (listing_settings asked.owner asked.time) asked.quiet asked.folder).1
    (λ (listed : Listed). listed_judges file writes listed judges)

pub pack_leaves_files : PackLeavesFiles
pack_leaves_files e asked = packs_leave asked (file_of_packing asked) (writes_text (image_packed e asked) None) (text_leaves (image_packed e asked) None)

pub pack_judged_first : PackJudgedFirst
pack_judged_first e asked = packs_judge asked (file_of_packing asked) (writes_text (image_packed e asked) None) (text_judges (image_packed e asked) None)

pub pack_compressed_leaves_files : PackCompressedLeavesFiles
pack_compressed_leaves_files e asked = packs_leave asked (file_of_packing asked) (updates_text e (device_of_packing asked) []) (compressed_leaves e (device_of_packing asked) [])

pub pack_compressed_judged_first : PackCompressedJudgedFirst
pack_compressed_judged_first e asked = packs_judge asked (file_of_packing asked) (updates_text e (device_of_packing asked) []) (compressed_judges e (device_of_packing asked) [])

-- a call that failed is one on a file or a folder
call_blamed : (f : Fault) (events : List Event) → BlamesEvent f events → BlamesCall f events
call_blamed (fault.File file) events is = (_, inl refl, is)
call_blamed (fault.NotRead file) events is = is
call_blamed (fault.NoNodes name others) events is = is
call_blamed (fault.NoSpace folder) events is = is
call_blamed (fault.Findings name findings) events is = is
call_blamed (fault.Refused why) events is = is
call_blamed fault.Output events is = (Answers, is.0, is.1, is.2)
call_blamed fault.OutOfMemory events is = is

pack_blamed_by : (name : List ℕ) (f : Fault) (events : List Event) → IsBlamedBy name f events → IsPackBlamed name f events
pack_blamed_by name f events (inl is) = inl (call_blamed f events is)
pack_blamed_by name f events (inr is) = inr is

pub pack_blamed : PackBlamed
pack_blamed e asked events f (Ends g did is) =
    let alike : f ≡ g = cc in
    let blames = (folders_blamed.0 (listing_settings asked.owner asked.time) asked.quiet asked.folder).1 in
    inl (subst (λ (h : Fault). BlamesCall h events) (sym alike) (blames events g did))
pack_blamed e asked events f (GoesOn listed before after did more is) =
    let wanted = image_packed e asked in
    subst (λ (l : List Event). IsPackBlamed wanted.file.name f l) (sym is)
    (pack_blamed_by wanted.file.name f (before ++ after)
    (blamed_later wanted.file.name f before after (listed_blamed wanted listed after f more)))

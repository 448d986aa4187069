-- A fault of a command on a folder is an event.
use Rattle.std.proofs.Common.{◌≡◌, ℕ, Bool, true, false, List, [], ◌∷◌, ◌++◌, Option, None, Some, Ok, Err, refl, sym, ap, subst, inl, inr, ◌∙◌}
use Rattle.std.specs.Prelude.{Result, string_bytes}
use Rattle.flashbase.specs.Device.{next_count}
use Rattle.flashbase.specs.Sinks.{SinkChange}
use Rattle.jnode.specs.declared.order.Endian.{Endian}
use Rattle.jmount.specs.Mount.{Mount}
use Rattle.jmount.specs.Tree.{State}
use Rattle.jextract.specs.Extracts.{Extracts}
use Rattle.jextract.specs.Folders.{FolderChange, Made}
use Rattle.jextract.specs.declared.fault.ExtractFault.{ExtractFault}
use Rattle.jextract.specs.declared.fault.ExtractFault.TheVariants as extract
use Rattle.jextract.specs.declared.totals.Totals.{Totals}
use Rattle.jfolder.specs.Known.{Known}
use Rattle.jfolder.specs.Notes.{Tells}
use Rattle.jfolder.specs.Text.{listing_text}
use Rattle.jfolder.specs.declared.fault.ReadFault.{ReadFault}
use Rattle.jfolder.specs.declared.fault.ReadFault.TheVariants as read
use Rattle.jfolder.specs.declared.found.Options.{Options}
use Rattle.jfolder.specs.declared.reading.FolderTree.{FolderTree}
use Rattle.jreport.specs.declared.reason.Reason.{Reason}
use Rattle.jcommand.specs.declared.parsed.Extraction.{Extraction}
use Rattle.jedge.specs.Acts.{Act, Then, Ends, GoesOn, Whole, answers, closes_errors, loads, prints}
use Rattle.jedge.specs.Calls.{Answers, Errors, Event, Did, Failed, Fill, Keep, LookThrough, Open, Print, printed}
use Rattle.jedge.specs.Images.{HasNodes, MountsWith}
use Rattle.jedge.specs.Views.{NamesPart}
use Rattle.jedge.specs.Laws.{BlamesEvent, BlamesFailed, Happened}
use Rattle.jedge.specs.declared.fault.Fault.{Fault}
use Rattle.jedge.specs.declared.fault.Fault.TheVariants as fault
use Rattle.jedge.proofs.BlamingLemmas.{after_more, before_more, loads_blames, mounts_as_blame, nodes_blame, one_not_none, part_blames, whole_blames}
use Rattle.jfolders.specs.Commands.{extract_act, listing_told, listing_act}
use Rattle.jfolders.specs.Extracting.{HasPart}
use Rattle.jfolders.specs.Filling.{IsFilled, IsOfFolder, asks_to_fill, closes_filled, fillings, fills_asked, none_failed, stop_of, the_folder}
use Rattle.jfolders.specs.Keeping.{IsKeptAs, closes_whole, keeps_through}
use Rattle.jfolders.specs.Laws.{BlamesCall, BlamesOnlyFailed, FoldersBlamed}
use Rattle.jfolders.specs.Mounting.{MountsDeleted, MountsToExtract}
use Rattle.jfolders.specs.Reading.{IsReadAs, IsFolderReadFault, asks_to_read, closes_read, looked_through, looks_through}
use Rattle.jfolders.specs.declared.host.Closed.{Closed}
use Rattle.jfolders.proofs.EndLemmas.{Ended, ended, filled_never, read_never, whole_never}

same : (f : Fault) {events other : List Event} → events ≡ other → BlamesCall f other → BlamesCall f events
same f is blames = subst (λ (l : List Event). BlamesCall f l) (sym is) blames

alike : {f g : Fault} (events : List Event) → f ≡ g → BlamesCall g events → BlamesCall f events
alike events is blames = subst (λ (h : Fault). BlamesCall h events) (sym is) blames

-- what the edge says of a call's fault
of_event : (f : Fault) (events : List Event) → BlamesEvent f events → BlamesCall f events
of_event (fault.File file) events is = (Open (string_bytes file.name), inl refl, is)
of_event (fault.NotRead file) events is = is
of_event (fault.NoNodes of others) events is = is
of_event (fault.NoSpace folder) events is = is
of_event (fault.Findings of findings) events is = is
of_event (fault.Refused why) events is = is
of_event fault.Output events is = (Answers, is.0, is.1, is.2)
of_event fault.OutOfMemory events is = tt

pub of_act : {A : Type 0} (act : Act A) → BlamesFailed act → BlamesOnlyFailed act
of_act act blames events f did = of_event f events (blames events f did)

call_after : (f : Fault) (xs ys : List Event) → BlamesCall f ys → BlamesCall f (xs ++ ys)
call_after (fault.File file) xs ys is = (is.0, is.1, after_more _ xs ys is.2)
call_after (fault.NotRead file) xs ys is = (is.0, after_more _ xs ys is.1)
call_after (fault.NoNodes of others) xs ys is = is
call_after (fault.NoSpace folder) xs ys is = (is.0, is.1, after_more _ xs ys is.2)
call_after (fault.Findings of findings) xs ys is = is
call_after (fault.Refused why) xs ys is = is
call_after fault.Output xs ys is = (is.0, is.1, is.2, after_more _ xs ys is.3)
call_after fault.OutOfMemory xs ys is = tt

pub then_blamed : {A B : Type 0} (first : Act A) (next : A → Act B) → BlamesOnlyFailed first → ((a : A) → BlamesOnlyFailed (next a)) → BlamesOnlyFailed (Then first next)
then_blamed first next one two events f (Ends g did is) = let is_it : f ≡ g = cc in alike events is_it (one events g did)
then_blamed first next one two events f (GoesOn a before after did more is) = same f is (call_after f before after (two a after f more))

-- where standard error failed, a print on it did
told_failed : (lost : ℕ) (text : List ℕ) (before said : List Event) (r : Result Unit Fault) → lost ≡ next_count 0 → closes_errors lost text said r → BlamesCall fault.Output (before ++ said)
told_failed lost text before said r one (inl w) = absurd (one_not_none one w.0)
told_failed lost text before said r one (inr cut) = call_after fault.Output before said (same fault.Output cut.happened
    (Errors, cut.rest, cut.reason, after_more _ (printed Errors cut.begun) (Failed (Print Errors cut.rest) cut.reason ∷ []) (inl refl)))

-- the folder of a name is blamed, which was looked through
folder_blamed : (name : List ℕ) (reason : Reason) (f : Fault) (events : List Event) → IsOfFolder name reason f → Happened (Failed (LookThrough name) reason) events → BlamesCall f events
folder_blamed name reason f events (inl w) did = alike events w.1 (
  LookThrough name,
  inr (inr (ap LookThrough (sym w.2))),
  subst (λ (r : Reason). Happened (Failed (LookThrough name) r) events) (sym w.3) did,
)
folder_blamed name reason f events (inr w) did = alike events w tt

-- the same of one that is made
made_blamed : (name : List ℕ) (reason : Reason) (f : Fault) (events : List Event) → IsOfFolder name reason f → Happened (Failed (Fill name the_folder) reason) events → BlamesCall f events
made_blamed name reason f events (inl w) did = alike events w.1 (
  Fill name the_folder,
  inr (inl (ap (λ (n : List ℕ). Fill n the_folder) (sym w.2))),
  subst (λ (r : Reason). Happened (Failed (Fill name the_folder) r) events) (sym w.3) did,
)
made_blamed name reason f events (inr w) did = alike events w tt

-- ---- a folder that is read

asks_blamed : (name : List ℕ) (quiet : Bool) → BlamesOnlyFailed (asks_to_read name quiet)
asks_blamed name quiet events f (inl w) = let no : ⊥ = cc in absurd no
asks_blamed name quiet events f (inr w) = let is : f ≡ fault.OutOfMemory = cc in alike events is tt

-- why a reading ended, after these events
reading_blamed : (name : List ℕ) (reason : Reason) (why : ReadFault) (f : Fault) (lost : ℕ) (text : List ℕ) (work said events : List Event) (r : Result Unit Fault)
    → IsFolderReadFault name reason why f → ((of : _) → why ≡ read.Folder of → Happened (Failed (LookThrough name) reason) work) → (why ≡ read.Notes → lost ≡ next_count 0)
    → closes_errors lost text said r → events ≡ work ++ said → BlamesCall f events
reading_blamed name reason (read.Folder of) f lost text work said events r is failed one told did =
    same f did (folder_blamed name reason f (work ++ said) is (before_more _ work said (failed of refl)))
reading_blamed name reason read.Notes f lost text work said events r is failed one told did =
    same f did (alike (work ++ said) is (told_failed lost text work said r (one refl) told))
reading_blamed name reason read.OutOfMemory f lost text work said events r is failed one told did = alike events is tt

-- standard error failed once
notes_failed : (known : Known) (options : Options) (s : SinkChange) (answer : Result FolderTree ReadFault) → s.before ≡ 0 → Tells known options s answer → answer ≡ Err read.Notes → s.now ≡ next_count 0
notes_failed known options s answer none tells is =
    let told : Tells known options s (Err read.Notes) = subst (λ (a : Result FolderTree ReadFault). Tells known options s a) is tells in
    told.1 ∙ ap next_count none

looked_failed : (name : List ℕ) (why : Option ReadFault) (reason : Reason) (of : _) → why ≡ Some (read.Folder of) → Happened (Failed (LookThrough name) reason) (looked_through name why reason)
looked_failed name why reason of is = subst (λ (w : Option ReadFault). Happened (Failed (LookThrough name) reason) (looked_through name w reason)) (sym is) (inl refl)

-- the events of a folder that is given back
read_reason : (name : List ℕ) (why : Option ReadFault) (reason : Reason) (work : List Event) → closes_read name why work (Ok reason) → work ≡ looked_through name why reason
read_reason name why reason work is = let alike : reason ≡ is.0 = cc in is.1 ∙ ap (looked_through name why) (sym alike)

looks_blamed_as : (name : List ℕ) (known : Known) (options : Options) (s : SinkChange) (answer : Result FolderTree ReadFault) (text : List ℕ) (events : List Event) (f : Fault) → s.before ≡ 0
    → Tells known options s answer → Ended (closes_read name (stop_of answer)) s.now text (λ reason. IsReadAs name reason answer) events (Err f) → BlamesCall f events
looks_blamed_as name known options s (Ok tree) text events f none tells end = let no : ⊥ = cc in absurd no
looks_blamed_as name known options s (Err why) text events f none tells end =
    let it = end.is in
    let alike : f ≡ it.0 = cc in
    reading_blamed name end.answer why f s.now text end.work end.said events end.rest (subst (λ (g : Fault). IsFolderReadFault name end.answer why g) (sym alike) it.2)
    (λ of is. subst (λ (l : List Event). Happened (Failed (LookThrough name) end.answer) l) (sym (read_reason name (Some why) end.answer end.work end.closed)) (looked_failed name (Some why) end.answer of (ap (λ (w : ReadFault). Some w) is)))
    (λ is. notes_failed known options s (Err why) none tells (ap (λ (w : ReadFault). Err w) is))
    end.told end.happened

looks_blamed : (name : List ℕ) (options : Options) (known : Known) → BlamesOnlyFailed (looks_through name options known)
looks_blamed name options known events f did =
    looks_blamed_as name known options (record { old = Some []; new = Some did.text; before = 0; now = did.lost }) did.answer did.text events f refl did.tells
    (ended _ did.lost did.text (λ reason. IsReadAs name reason did.answer) events (Err f) (read_never name (stop_of did.answer)) did.ends)

-- the same of one whose files are kept
whole_events : (name : List ℕ) (why : Option ReadFault) (closed : Closed) (work : List Event) → closes_whole name why work (Ok closed)
    → (files : List ℕ → Option (List ℕ)) × (work ≡ Did (Keep name files) ∷ looked_through name why closed.reason)
whole_events name why closed work is =
    let alike : closed ≡ is.0 = cc in
    (is.1, is.4 ∙ ap (λ (c : Closed). Did (Keep name is.1) ∷ looked_through name why c.reason) (sym alike))

keeps_blamed_as : (name : List ℕ) (known : Known) (options : Options) (s : SinkChange) (answer : Result FolderTree ReadFault) (text : List ℕ) (events : List Event) (f : Fault) → s.before ≡ 0
    → Tells known options s answer → Ended (closes_whole name (stop_of answer)) s.now text (λ closed. IsKeptAs name answer closed) events (Err f) → BlamesCall f events
keeps_blamed_as name known options s (Ok tree) text events f none tells end = elim end.is [
  | inl w ↦ let no : ⊥ = cc in absurd no
  | inr w ↦ let is : f ≡ fault.OutOfMemory = cc in alike events is tt
]
keeps_blamed_as name known options s (Err why) text events f none tells end =
    let it = end.is in
    let alike : f ≡ it.0 = cc in
    let reason = end.answer.reason in
    let work = whole_events name (Some why) end.answer end.work end.closed in
    reading_blamed name reason why f s.now text end.work end.said events end.rest (subst (λ (g : Fault). IsFolderReadFault name reason why g) (sym alike) it.2)
    (λ of is. subst (λ (l : List Event). Happened (Failed (LookThrough name) reason) l) (sym work.1) (inr (looked_failed name (Some why) reason of (ap (λ (w : ReadFault). Some w) is))))
    (λ is. notes_failed known options s (Err why) none tells (ap (λ (w : ReadFault). Err w) is))
    end.told end.happened

keeps_blamed : (name : List ℕ) (options : Options) (known : Known) → BlamesOnlyFailed (keeps_through name options known)
keeps_blamed name options known events f did =
    keeps_blamed_as name known options (record { old = Some []; new = Some did.text; before = 0; now = did.lost }) did.answer did.text events f refl did.tells
    (ended _ did.lost did.text (λ closed. IsKeptAs name did.answer closed) events (Err f) (whole_never name (stop_of did.answer)) did.ends)

-- ---- a folder that is filled

asks_fill_blamed : (name : List ℕ) (quiet : Bool) → BlamesOnlyFailed (asks_to_fill name quiet)
asks_fill_blamed name quiet events f (inl w) = let no : ⊥ = cc in absurd no
asks_fill_blamed name quiet events f (inr w) = let is : f ≡ fault.OutOfMemory = cc in alike events is tt

folder_failed : (name : List ℕ) (made : List Made) (reason : Reason) (work : List Event) → closes_filled name made (Some extract.Folder) work (Ok reason) → Happened (Failed (Fill name the_folder) reason) work
folder_failed name made reason work is =
    let alike : reason ≡ is.reason = cc in
    subst (λ (l : List Event). Happened (Failed (Fill name the_folder) reason) l) (sym (is.happened ∙ ap (λ (l : List Event). fillings name made ++ l) is.ends))
    (after_more _ (fillings name made) (Failed (Fill name the_folder) is.reason ∷ []) (inl (ap (λ (r : Reason). Failed (Fill name the_folder) r) (sym alike))))

room_failed : (name : List ℕ) (made : List Made) (reason : Reason) (work : List Event) → closes_filled name made (Some extract.NoSpace) work (Ok reason)
    → (what : Made) × (why : Reason) × Happened (Failed (Fill name what) why) work
room_failed name made reason work is = (
  is.ends.0,
  is.reason,
  subst (λ (l : List Event). Happened (Failed (Fill name is.ends.0) is.reason) l) (sym (is.happened ∙ ap (λ (l : List Event). fillings name made ++ l) is.ends.1))
      (after_more _ (fillings name made) (Failed (Fill name is.ends.0) is.reason ∷ []) (inl refl)),
)

full_blamed : (name : List ℕ) (f : Fault) (events : List Event) (what : Made) (why : Reason) → (folder : _) × (f ≡ fault.NoSpace folder) × (string_bytes folder ≡ name) → Happened (Failed (Fill name what) why) events → BlamesCall f events
full_blamed name f events what why w did = alike events w.1 (what, why, subst (λ (n : List ℕ). Happened (Failed (Fill n what) why) events) (sym w.2) did)

lost_notes : (s : State) (owners : Bool) (folder : FolderChange) (notes : SinkChange) → notes.before ≡ 0 → Extracts s owners folder notes (Err extract.Notes) → notes.now ≡ next_count 0
lost_notes s owners folder notes none extracts = extracts.1 ∙ ap next_count none

fills_blamed_as : (name : List ℕ) (s : State) (owners : Bool) (folder : FolderChange) (notes : SinkChange) (made : List Made) (answer : Result Totals ExtractFault) (text : List ℕ) (events : List Event) (f : Fault)
    → notes.before ≡ 0 → Extracts s owners folder notes answer → Ended (closes_filled name made (stop_of answer)) notes.now text (λ reason. IsFilled name reason answer) events (Err f) → BlamesCall f events
fills_blamed_as name s owners folder notes made (Ok totals) text events f none extracts end = let no : ⊥ = cc in absurd no
fills_blamed_as name s owners folder notes made (Err extract.Folder) text events f none extracts end =
    let it = end.is in
    let is_it : f ≡ it.0 = cc in
    same f end.happened (made_blamed name end.answer f (end.work ++ end.said) (subst (λ (g : Fault). IsOfFolder name end.answer g) (sym is_it) it.2)
    (before_more _ end.work end.said (folder_failed name made end.answer end.work end.closed)))
fills_blamed_as name s owners folder notes made (Err extract.Notes) text events f none extracts end =
    let it = end.is in
    let is_it : f ≡ it.0 = cc in
    same f end.happened (alike (end.work ++ end.said) (is_it ∙ it.2) (told_failed notes.now text end.work end.said end.rest (lost_notes s owners folder notes none extracts) end.told))
fills_blamed_as name s owners folder notes made (Err extract.NoSpace) text events f none extracts end =
    let it = end.is in
    let is_it : f ≡ it.0 = cc in
    let room = room_failed name made end.answer end.work end.closed in
    elim it.2 [
      | inl w ↦ same f end.happened (full_blamed name f (end.work ++ end.said) room.0 room.1 (w.0, is_it ∙ w.1, w.2) (before_more _ end.work end.said room.2))
      | inr w ↦ alike events (is_it ∙ w) tt
    ]
fills_blamed_as name s owners folder notes made (Err extract.OutOfMemory) text events f none extracts end =
    let it = end.is in
    let is_it : f ≡ it.0 = cc in
    alike events (is_it ∙ it.2) tt

fills_blamed : (name : List ℕ) (owners : Bool) (s : State) → BlamesOnlyFailed (fills_asked name owners s)
fills_blamed name owners s events f did = fills_blamed_as name s owners
    (record { old = Some []; new = Some did.made; before = none_failed; now = did.failures })
    (record { old = Some []; new = Some did.text; before = 0; now = did.lost })
    did.made did.answer did.text events f refl did.extracts
    (ended _ did.lost did.text (λ reason. IsFilled name reason did.answer) events (Err f) (filled_never name did.made (stop_of did.answer)) did.ends)

-- ---- the commands

part_blamed : (s : State) (part : Option (List ℕ)) → BlamesOnlyFailed (answers (HasPart s part))
part_blamed s part events f is = elim is.1 [
  | inl w ↦ alike events w.3 tt
  | inr w ↦ alike events w.1 tt
]

gives_blamed : {A : Type 0} (told : A) → BlamesOnlyFailed (answers (λ (result : Result A Fault). result ≡ Ok told))
gives_blamed told events f is = let no : ⊥ = cc in absurd no

-- deleted files do not mount for a reason of a mount through
as_through : (e : Endian) (size : ℕ) (image : List ℕ) (f : Fault) → MountsDeleted e size image (Err f) → MountsWith true e size image (Err f)
as_through e size image (fault.File file) is = absurd is
as_through e size image (fault.NotRead file) is = absurd is
as_through e size image (fault.NoNodes of others) is = absurd is
as_through e size image (fault.NoSpace folder) is = absurd is
as_through e size image (fault.Findings of findings) is = absurd is
as_through e size image (fault.Refused why) is = is
as_through e size image fault.Output is = absurd is
as_through e size image fault.OutOfMemory is = absurd is

to_extract_blames : (deleted decompress : Bool) (e : Endian) (size : ℕ) (image : List ℕ) → BlamesFailed (answers (MountsToExtract deleted decompress e size image))
to_extract_blames false decompress e size image events f is = mounts_as_blame decompress e size image events f is
to_extract_blames true decompress e size image events f is = mounts_as_blame true e size image events f (is.0, as_through e size image f is.1)

extract_blamed : (x : Extraction (List ℕ)) → BlamesOnlyFailed (extract_act x)
extract_blamed x = then_blamed _ _ (of_act (answers (NamesPart x.path)) (part_blames x.path)) (λ (part : Option (List ℕ)).
    then_blamed _ _ (of_act (loads x.image) (loads_blames x.image)) (λ (image : List ℕ).
    then_blamed _ _ (of_act (answers (HasNodes x.options.endian x.options.geometry.block None image)) (nodes_blame x.options.endian x.options.geometry.block None image)) (λ _.
    then_blamed _ _ (of_act (answers (MountsToExtract x.deleted x.decompress x.options.endian x.options.geometry.block image)) (to_extract_blames x.deleted x.decompress x.options.endian x.options.geometry.block image)) (λ (m : Mount).
    then_blamed _ _ (part_blamed m.state part) (λ (s : State).
    then_blamed _ _ (then_blamed _ _ (asks_fill_blamed x.folder x.quiet) (λ _. fills_blamed x.folder x.owners s)) (λ (totals : Totals). gives_blamed _))))))

listing_blamed : (options : Options) (quiet : Bool) (name : List ℕ) → BlamesOnlyFailed (listing_act options quiet name)
listing_blamed options quiet name = then_blamed _ _ (then_blamed _ _ (asks_blamed name quiet) (λ (known : Known). looks_blamed name options known)) (λ (tree : FolderTree).
    of_act (prints (Whole (listing_text tree.root tree.items.items) (listing_told tree))) (whole_blames (listing_text tree.root tree.items.items) (listing_told tree)))

pub folders_blamed : FoldersBlamed
folders_blamed = (
  λ options quiet name. (listing_blamed options quiet name, then_blamed _ _ (asks_blamed name quiet) (λ (known : Known). keeps_blamed name options known)),
  extract_blamed,
)

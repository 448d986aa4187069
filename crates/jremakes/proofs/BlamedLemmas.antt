-- A fault is an event.
use Rattle.std.proofs.Common.{◌≡◌, ◌⊎◌, ℕ, Bool, false, List, [], ◌++◌, Option, None, Some, Result, Ok, Err, arith, refl, sym, ap, subst, ◌∙◌, inl, inr}
use Rattle.std.specs.Prelude.{is_ok}
use Rattle.std.proofs.lemmas.List.{append-nil}
use Rattle.jnode.specs.declared.node.NodeRef.{NodeRef}
use Rattle.jnode.specs.declared.order.Endian.{Endian}
use Rattle.jexpand.specs.declared.fault.ConvertFault.{ConvertFault}
use Rattle.jexpand.specs.declared.fault.ConvertFault.TheVariants as convert
use Rattle.jmount.specs.Mount.{Mount}
use Rattle.jthrough.specs.Addressed.{addressed_nodes}
use Rattle.jcollect.specs.Planning.{IsNoPlan}
use Rattle.jcollect.specs.PlanningApart.{IsUnplannedApart}
use Rattle.jcollect.specs.Tiles.{copied_image}
use Rattle.jcollect.specs.declared.fault.CollectFault.{CollectFault}
use Rattle.jcollect.specs.declared.fault.CollectFault.TheVariants as collect
use Rattle.jcollect.specs.declared.fault.ThroughFault.{ThroughFault}
use Rattle.jcollect.specs.declared.fault.ThroughFault.TheVariants as through
use Rattle.jconvert.specs.Compressing.{compress_fault}
use Rattle.jconvert.specs.Converting.{FaultOwes, convert_fault, converted_image}
use Rattle.jreport.specs.declared.reason.Reason.{Reason}
use Rattle.jedge.proofs.BlamingLemmas.{Unnamed, after_more, blames_after, loads_blames, nodes_blame, of_bytes, prints_blames, then_blames, view_of}
use Rattle.jedge.specs.Acts.{Act, Then, Ends, GoesOn, answers, loads, prints_put}
use Rattle.jedge.specs.Calls.{Event}
use Rattle.jedge.specs.Laws.{BlamesEvent, BlamesFailed, IsOfBytes}
use Rattle.jedge.specs.Views.{conversion_refusal}
use Rattle.jedge.specs.declared.fault.Fault.{Fault}
use Rattle.jedge.specs.declared.fault.Fault.TheVariants as fault
use Rattle.jmakes.proofs.BlamingLemmas.{IsUncreated, made_blamed, makes_blamed}
use Rattle.jmakes.proofs.KeepingLemmas.{compares_blames, findings_blame}
use Rattle.jmakes.specs.Blaming.{HasFailedMaking, IsEndBlamed, IsFileBlamed}
use Rattle.jmakes.specs.Making.{Beside, EndsInPlace, FileMade, FilePlace, FileSaying, InPlace, WantedFile, closes_file, compares_names, makes}
use Rattle.jmakes.specs.declared.wanted.CloseFault.{CloseFault}
use Rattle.jmakes.specs.declared.wanted.CloseFault.TheVariants as close
use Rattle.jmakes.specs.declared.wanted.Filling.{Filling}
use Rattle.jremakes.specs.Asked.{AskedRemaking, MayBeReplaced, gives, takes_original}
use Rattle.jremakes.specs.Judging.{ArePartedOf, IsCompressible, IsConvertible}
use Rattle.jremakes.specs.Compacting.{IsCompactable, collect_refusal, compact_blocks}
use Rattle.jremakes.specs.CompactingApart.{IsCompactableApart, apart_refusal}
use Rattle.jremakes.specs.Laws.{Apart, Compact, CompactApart, Compress, Decompress, IsUnwrittenBlamed, RemadeIsBlamed}
use Rattle.jremakes.specs.Putting.{ComesTo, PutsAll, PutsCompressed, PutsNodes, TakesMemory, TellsLine, end_reason, remakes, unwritten_by, unwritten_for_memory}
use Rattle.jremakes.specs.declared.remaking.Unput.{Unput}
use Rattle.jremakes.specs.declared.remaking.Unput.TheVariants as unput

-- a fault comes with its event, by the name of the file that is made
abbrev pub IsBlamed : List ℕ → Fault → List Event → Type 0
IsBlamed name f events = BlamesEvent f events ⊎ (IsFileBlamed name f events ⊎ IsUnwrittenBlamed f events)

abbrev pub BlamesAt : {A : Type 0} → List ℕ → Act A → Type 0
BlamesAt name act = (events : List Event) (f : Fault) → act events (Err f) → IsBlamed name f events

blamed_at : (name : List ℕ) {f g : Fault} {events other : List Event} → f ≡ g → events ≡ other → IsBlamed name g other → IsBlamed name f events
blamed_at name {g} {events} same is blamed = subst (λ (h : Fault). IsBlamed name h events) (sym same) (subst (λ (l : List Event). IsBlamed name g l) (sym is) blamed)

blamed_after : (name : List ℕ) (f : Fault) (xs ys : List Event) → IsBlamed name f ys → IsBlamed name f (xs ++ ys)
blamed_after name f xs ys (inl is) = inl (blames_after f xs ys is)
blamed_after name f xs ys (inr (inl is)) = inr (inl (is.0, is.1, is.2, (is.3.0, is.3.1, after_more _ xs ys is.3.2)))
blamed_after name f xs ys (inr (inr is)) = inr (inr (is.0, is.1, (is.2.0, is.2.1, after_more _ xs ys is.2.2)))

then_blamed : {A B : Type 0} (name : List ℕ) (first : Act A) (next : A → Act B) → BlamesAt name first → ((a : A) → BlamesAt name (next a)) → BlamesAt name (Then first next)
then_blamed name first next one two events f (Ends g did is) = let alike : f ≡ g = cc in blamed_at name alike refl (one events g did)
then_blamed name first next one two events f (GoesOn a before after did more is) = blamed_at name refl is (blamed_after name f before after (two a after f more))

by_event : {A : Type 0} (name : List ℕ) (act : Act A) → BlamesFailed act → BlamesAt name act
by_event name act blames events f did = inl (blames events f did)

-- ---- the image is taken and judged

replaced_blames : (e : Endian) (asked : AskedRemaking) (over : Bool) (image : List ℕ) → BlamesFailed (answers (MayBeReplaced e asked over image))
replaced_blames e asked over image events f is = findings_blame asked.image _ events f is.1.1

gives_blames : {A : Type 0} (x : A) → BlamesFailed (gives x)
gives_blames x events f is = let no : ⊥ = (let wrong = is.1 in cc) in absurd no

takes_blames : (e : Endian) (asked : AskedRemaking) → BlamesFailed (takes_original e asked)
takes_blames e asked = then_blames _ _ (compares_blames asked.image asked.output.name) (λ (over : Bool). then_blames (loads asked.image) _ (loads_blames asked.image) (λ (image : List ℕ).
    then_blames _ _ (nodes_blame e asked.options.geometry.block None image) (λ _. then_blames _ _ (replaced_blames e asked over image) (λ _. gives_blames image))))

-- no sink is blamed for an image that is refused
refusal_of : (Refuses : ConvertFault → Type 0) (refused : ConvertFault) → FaultOwes ⊥ (Unit {0}) Refuses refused → IsOfBytes (conversion_refusal refused)
refusal_of Refuses convert.BlockSize is = tt
refusal_of Refuses convert.TooLarge is = tt
refusal_of Refuses (convert.Incompatible addr nodetype) is = tt
refusal_of Refuses (convert.Compressed addr compr) is = tt
refusal_of Refuses (convert.Data addr) is = tt
refusal_of Refuses (convert.TooLong addr) is = tt
refusal_of Refuses convert.ReadOnly is = tt
refusal_of Refuses convert.Geometry is = tt
refusal_of Refuses (convert.Full needed free) is = tt
refusal_of Refuses convert.Sink is = absurd is
refusal_of Refuses convert.OutOfMemory is = tt

convertible_blames : (e : Endian) (size : ℕ) (image : List ℕ) → BlamesFailed (answers (IsConvertible e size image))
convertible_blames e size image events (fault.File file) is = absurd is.1
convertible_blames e size image events (fault.NotRead file) is = absurd is.1
convertible_blames e size image events (fault.NoNodes of others) is = tt
convertible_blames e size image events (fault.NoSpace folder) is = absurd is.1
convertible_blames e size image events (fault.Findings of findings) is = tt
convertible_blames e size image events (fault.Refused why) is = of_bytes why is.1.1 (refusal_of (λ (g : ConvertFault). convert_fault e size image ≡ Some g) is.1.0 is.1.2)
convertible_blames e size image events fault.Output is = absurd is.1
convertible_blames e size image events fault.OutOfMemory is = tt

compressible_blames : (e : Endian) (size : ℕ) (image : List ℕ) → BlamesFailed (answers (IsCompressible e size image))
compressible_blames e size image events (fault.File file) is = absurd is.1
compressible_blames e size image events (fault.NotRead file) is = absurd is.1
compressible_blames e size image events (fault.NoNodes of others) is = tt
compressible_blames e size image events (fault.NoSpace folder) is = absurd is.1
compressible_blames e size image events (fault.Findings of findings) is = tt
compressible_blames e size image events (fault.Refused why) is = of_bytes why is.1.1 (refusal_of (λ (g : ConvertFault). compress_fault e size image ≡ Some g) is.1.0 is.1.2)
compressible_blames e size image events fault.Output is = absurd is.1
compressible_blames e size image events fault.OutOfMemory is = tt

parted_blames : (e : Endian) (size : ℕ) (image : List ℕ) → BlamesFailed (answers (ArePartedOf e size image))
parted_blames e size image events (fault.File file) is = absurd is.1
parted_blames e size image events (fault.NotRead file) is = absurd is.1
parted_blames e size image events (fault.NoNodes of others) is = tt
parted_blames e size image events (fault.NoSpace folder) is = absurd is.1
parted_blames e size image events (fault.Findings of findings) is = tt
parted_blames e size image events (fault.Refused why) is = of_bytes why is.1 tt
parted_blames e size image events fault.Output is = absurd is.1
parted_blames e size image events fault.OutOfMemory is = tt

collect_of_bytes : (ns : List (ℕ × NodeRef)) (e : Endian) (size blocks : ℕ) (m : Mount) (refused : CollectFault) → IsNoPlan ns e size blocks m refused → IsOfBytes (collect_refusal size blocks refused)
collect_of_bytes ns e size blocks m collect.ReadOnly is = tt
collect_of_bytes ns e size blocks m collect.Geometry is = tt
collect_of_bytes ns e size blocks m (collect.TooLong addr) is = tt
collect_of_bytes ns e size blocks m (collect.Full needed free) is = tt
collect_of_bytes ns e size blocks m collect.Sink is = absurd is
collect_of_bytes ns e size blocks m collect.OutOfMemory is = tt

compactable_blames : (e : Endian) (size blocks : ℕ) (image : List ℕ) → BlamesFailed (answers (IsCompactable e size blocks image))
compactable_blames e size blocks image events (fault.File file) is = absurd is.1
compactable_blames e size blocks image events (fault.NotRead file) is = absurd is.1
compactable_blames e size blocks image events (fault.NoNodes of others) is = tt
compactable_blames e size blocks image events (fault.NoSpace folder) is = absurd is.1
compactable_blames e size blocks image events (fault.Findings of findings) is = tt
compactable_blames e size blocks image events (fault.Refused why) (none, inl is) = of_bytes why is.1 (view_of is.0)
compactable_blames e size blocks image events (fault.Refused why) (none, inr is) = of_bytes why is.2 (collect_of_bytes (addressed_nodes e size is.0.image) e size blocks is.0 is.1 is.4)
compactable_blames e size blocks image events fault.Output is = absurd is.1
compactable_blames e size blocks image events fault.OutOfMemory is = tt

apart_of_bytes : (e : Endian) (size blocks : ℕ) (image : List ℕ) (refused : ThroughFault) → IsUnplannedApart e size blocks image refused → IsOfBytes (apart_refusal size blocks refused)
apart_of_bytes e size blocks image (through.Unmounted why) is = view_of why
apart_of_bytes e size blocks image (through.Uncollected why) is = collect_of_bytes is.0 e size blocks is.2 why is.4

compactable_apart_blames : (e : Endian) (size blocks : ℕ) (image : List ℕ) → BlamesFailed (answers (IsCompactableApart e size blocks image))
compactable_apart_blames e size blocks image events (fault.File file) is = absurd is.1
compactable_apart_blames e size blocks image events (fault.NotRead file) is = absurd is.1
compactable_apart_blames e size blocks image events (fault.NoNodes of others) is = tt
compactable_apart_blames e size blocks image events (fault.NoSpace folder) is = absurd is.1
compactable_apart_blames e size blocks image events (fault.Findings of findings) is = tt
compactable_apart_blames e size blocks image events (fault.Refused why) is = of_bytes why is.1.1 (apart_of_bytes e size blocks image is.1.0 is.1.2)
compactable_apart_blames e size blocks image events fault.Output is = absurd is.1
compactable_apart_blames e size blocks image events fault.OutOfMemory is = tt

memory_blames : BlamesFailed (answers TakesMemory)
memory_blames events f is = subst (λ (h : Fault). BlamesEvent h events) (sym is.1) tt

-- ---- the file is made

-- a file that failed before it ended is not written
abbrev pub IsFailure : {A : Type 0} → FileSaying (Result A Unput) → Type 0
IsFailure {A} Puts = (text : List ℕ) (failures : ℕ) → Puts text failures (Err unput.File) → failures ≡ 1

in_place_failed : (name : List ℕ) (failures : ℕ) (text : List ℕ) (events : List Event) (closed : Result Unit CloseFault) → failures ≡ 1 → EndsInPlace name failures text events closed
    → (reason : Reason) × (closed ≡ Err (close.NotWritten reason))
in_place_failed name failures text events (Ok _) one is = let no : ⊥ = (let zero = is.0 in omega (arith, sym one ∙ zero)) in absurd no
in_place_failed name failures text events (Err (close.NotWritten reason)) one is = (reason, refl)
in_place_failed name failures text events (Err (close.NotNamed reason)) one is = absurd is

ended_failed : (place : FilePlace) (to : Option Filling) (failures : ℕ) (text : List ℕ) (events : List Event) (closed : Result Unit CloseFault) → failures ≡ 1
    → closes_file place to false failures text events (Ok closed) → (reason : Reason) × (closed ≡ Err (close.NotWritten reason))
ended_failed (InPlace name) to failures text events closed one is = in_place_failed name failures text events closed one is
ended_failed (Beside other target) to failures text events closed one is = in_place_failed other failures text is.first closed one is.ends

put_failed : {A : Type 0} (Puts : FileSaying (Result A Unput)) (to : Option Filling) (place : FilePlace) (text : List ℕ) (failures : ℕ) (events : List Event) (answer : Result A Unput) (closed : Result Unit CloseFault)
    → IsFailure Puts → answer ≡ Err unput.File → Puts text failures answer → closes_file place to (is_ok answer) failures text events (Ok closed) → (reason : Reason) × (closed ≡ Err (close.NotWritten reason))
put_failed Puts to place text failures events (Ok x) closed fails is puts ends = let no : ⊥ = cc in absurd no
put_failed Puts to place text failures events (Err unput.File) closed fails is puts ends = ended_failed place to failures text events closed (fails text failures puts) ends
put_failed Puts to place text failures events (Err unput.OutOfMemory) closed fails is puts ends = let no : ⊥ = cc in absurd no

made_failed : {A : Type 0} (file : WantedFile) (Puts : FileSaying (Result A Unput)) (events : List Event) (made : FileMade (Result A Unput)) → IsFailure Puts → made.answer ≡ Err unput.File
    → makes file Puts is_ok events (Ok made) → (reason : Reason) × (made.closed ≡ Err (close.NotWritten reason))
made_failed file Puts events made fails is (Ends f did last) = let wrong : ⊥ = cc in absurd wrong
made_failed {A} file Puts events made fails is (GoesOn place before after did more all) =
    let same : more.made ≡ made = (let out = more.is in cc) in
    subst (λ (m : FileMade (Result A Unput)). (reason : Reason) × (m.closed ≡ Err (close.NotWritten reason))) same
    (put_failed Puts file.filling place more.text more.failures after more.made.answer more.made.closed fails (ap (λ (m : FileMade (Result A Unput)). m.answer) same ∙ is) more.puts more.ends)

ending_blamed : {A : Type 0} (name : List ℕ) (answer : Result A Unput) (closed : Result Unit CloseFault) (events : List Event) (f : Fault)
    → (answer ≡ Err unput.File → (reason : Reason) × (closed ≡ Err (close.NotWritten reason))) → IsEndBlamed closed events → ComesTo name answer closed (Err f) → IsBlamed name f events
ending_blamed name (Ok x) (Ok _) events f failed blamed is = let no : ⊥ = cc in absurd no
ending_blamed name (Ok x) (Err (close.NotWritten reason)) events f failed blamed is = inr (inr (reason, is, blamed))
ending_blamed name (Ok x) (Err (close.NotNamed reason)) events f failed blamed is =
    inr (inl (is.0, is.1, is.2, subst (λ (r : Reason). HasFailedMaking r events) (sym is.3) blamed))
ending_blamed name (Err unput.File) closed events f failed blamed is =
    let why = failed refl in
    let alike : f ≡ unwritten_by (end_reason closed) = cc in
    inr (inr (why.0, alike ∙ ap (λ (c : Result Unit CloseFault). unwritten_by (end_reason c)) why.1, subst (λ (c : Result Unit CloseFault). IsEndBlamed c events) why.1 blamed))
ending_blamed name (Err unput.OutOfMemory) closed events f failed blamed is =
    let alike : f ≡ unwritten_for_memory = cc in inl (subst (λ (h : Fault). BlamesEvent h events) (sym alike) tt)

uncreated_blamed : (name : List ℕ) (events : List Event) (f : Fault) → IsUncreated name f events → IsBlamed name f events
uncreated_blamed name events f (inl is) = inr (inl is)
uncreated_blamed name events f (inr is) = inl (subst (λ (h : Fault). BlamesEvent h events) (sym is) tt)

none_after : (name : List ℕ) (f : Fault) (xs ys : List Event) → ys ≡ [] → IsBlamed name f xs → IsBlamed name f (xs ++ ys)
none_after name f xs ys none is = subst (λ (l : List Event). IsBlamed name f (xs ++ l)) (sym none) (subst (λ (l : List Event). IsBlamed name f l) (sym (append-nil xs)) is)

remakes_blamed : {A : Type 0} (file : WantedFile) (Puts : FileSaying (Result A Unput)) → IsFailure Puts → BlamesAt file.name (remakes file Puts)
remakes_blamed file Puts fails events f (Ends g did is) = let alike : f ≡ g = cc in
    blamed_at file.name alike refl (uncreated_blamed file.name events g (makes_blamed file Puts is_ok events g did))
remakes_blamed file Puts fails events f (GoesOn made before after did more is) = blamed_at file.name refl is (none_after file.name f before after more.0
    (ending_blamed file.name made.answer made.closed before f (λ same. made_failed file Puts before made fails same did) (made_blamed file Puts is_ok before made did) more.1))

all_fails : {A : Type 0} (whole : List ℕ) (x : A) → IsFailure (PutsAll whole x)
all_fails whole x text failures is = is.1

compressed_fails : (e : Endian) (size : ℕ) (image : List ℕ) → IsFailure (PutsCompressed e size image)
compressed_fails e size image text failures is = is.1

nodes_fail : (e : Endian) (size : ℕ) (nodes : List NodeRef) → IsFailure (PutsNodes e size nodes)
nodes_fail e size nodes text failures is = is.1

-- ---- the line is printed

line_unnamed : {A : Type 0} (line : List ℕ) (x : A) → Unnamed (TellsLine line x)
line_unnamed line x text (fault.File file) is = absurd is
line_unnamed line x text (fault.NotRead file) is = absurd is
line_unnamed line x text (fault.NoNodes of others) is = absurd is
line_unnamed line x text (fault.NoSpace folder) is = absurd is
line_unnamed line x text (fault.Findings of findings) is = absurd is
line_unnamed line x text (fault.Refused why) is = absurd is
line_unnamed line x text fault.Output is = tt
line_unnamed line x text fault.OutOfMemory is = absurd is

line_blames : {A : Type 0} (line : List ℕ) (x : A) → BlamesFailed (prints_put (TellsLine line x))
line_blames line x events f did = prints_blames (TellsLine line x) (line_unnamed line x) events f (inl did)

line_at : {A : Type 0} (name line : List ℕ) (x : A) → BlamesAt name (prints_put (TellsLine line x))
line_at name line x events f did = inl (line_blames line x events f did)

memory_at : (name : List ℕ) → BlamesAt name (answers TakesMemory)
memory_at name = by_event name (answers TakesMemory) memory_blames

pub remade_is_blamed : RemadeIsBlamed
remade_is_blamed (Decompress asked) events f did =
    let e = asked.options.endian in
    let size = asked.options.geometry.block in
    let name = asked.output.name in
    then_blamed name (takes_original e asked) _ (by_event name (takes_original e asked) (takes_blames e asked)) (λ (image : List ℕ).
    then_blamed name (answers (IsConvertible e size image)) _ (by_event name (answers (IsConvertible e size image)) (convertible_blames e size image)) (λ told.
    then_blamed name (answers TakesMemory) _ (memory_at name) (λ _.
    then_blamed name (remakes asked.output (PutsAll (converted_image e size image) (tt {0}))) _
    (remakes_blamed asked.output (PutsAll (converted_image e size image) (tt {0})) (all_fails (converted_image e size image) (tt {0}))) (λ _.
    line_at name _ _)))) events f did
remade_is_blamed (Compress asked) events f did =
    let e = asked.options.endian in
    let size = asked.options.geometry.block in
    let name = asked.output.name in
    then_blamed name (takes_original e asked) _ (by_event name (takes_original e asked) (takes_blames e asked)) (λ (image : List ℕ).
    then_blamed name (answers (IsCompressible e size image)) _ (by_event name (answers (IsCompressible e size image)) (compressible_blames e size image)) (λ nodes.
    then_blamed name (answers TakesMemory) _ (memory_at name) (λ _.
    then_blamed name (remakes asked.output (PutsCompressed e size image)) _ (remakes_blamed asked.output (PutsCompressed e size image) (compressed_fails e size image)) (λ done.
    line_at name _ _)))) events f did
remade_is_blamed (Apart asked) events f did =
    let e = asked.options.endian in
    let size = asked.options.geometry.block in
    let name = asked.output.name in
    then_blamed name (takes_original e asked) _ (by_event name (takes_original e asked) (takes_blames e asked)) (λ (image : List ℕ).
    then_blamed name (answers (IsConvertible e size image)) _ (by_event name (answers (IsConvertible e size image)) (convertible_blames e size image)) (λ told.
    then_blamed name (answers (ArePartedOf e size image)) _ (by_event name (answers (ArePartedOf e size image)) (parted_blames e size image)) (λ parted.
    then_blamed name (answers TakesMemory) _ (memory_at name) (λ _.
    then_blamed name (remakes asked.output (PutsNodes e size parted.stay)) _ (remakes_blamed asked.output (PutsNodes e size parted.stay) (nodes_fail e size parted.stay)) (λ bytes.
    line_at name _ _))))) events f did
remade_is_blamed (Compact asked given) events f did =
    let e = asked.options.endian in
    let size = asked.options.geometry.block in
    let blocks : ℕ = compact_blocks size given in
    let name = asked.output.name in
    then_blamed name (takes_original e asked) _ (by_event name (takes_original e asked) (takes_blames e asked)) (λ (image : List ℕ).
    then_blamed name (answers (IsCompactable e size blocks image)) _ (by_event name (answers (IsCompactable e size blocks image)) (compactable_blames e size blocks image)) (λ plan.
    then_blamed name (answers TakesMemory) _ (memory_at name) (λ _.
    then_blamed name (remakes asked.output (PutsAll (copied_image e size image plan.addresses) (tt {0}))) _
    (remakes_blamed asked.output (PutsAll (copied_image e size image plan.addresses) (tt {0})) (all_fails (copied_image e size image plan.addresses) (tt {0}))) (λ _.
    line_at name _ _)))) events f did
remade_is_blamed (CompactApart asked given) events f did =
    let e = asked.options.endian in
    let size = asked.options.geometry.block in
    let blocks : ℕ = compact_blocks size given in
    let name = asked.output.name in
    then_blamed name (takes_original e asked) _ (by_event name (takes_original e asked) (takes_blames e asked)) (λ (image : List ℕ).
    then_blamed name (answers (IsCompactableApart e size blocks image)) _ (by_event name (answers (IsCompactableApart e size blocks image)) (compactable_apart_blames e size blocks image)) (λ plan.
    then_blamed name (answers TakesMemory) _ (memory_at name) (λ _.
    then_blamed name (remakes asked.output (PutsAll (copied_image e size image plan.addresses) (tt {0}))) _
    (remakes_blamed asked.output (PutsAll (copied_image e size image plan.addresses) (tt {0})) (all_fails (copied_image e size image plan.addresses) (tt {0}))) (λ _.
    line_at name _ _)))) events f did

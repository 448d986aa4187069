-- A fault is an event.
use Rattle.std.proofs.Common.{◌≡◌, ℕ, Bool, true, false, List, [], ◌∷◌, ◌++◌, Option, None, Some, Result, Ok, Err, arith, sym, ap, subst, inl, inr, ◌∙◌, refl}
use Rattle.jcommand.specs.declared.parsed.Comparison.{Comparison}
use Rattle.jcommand.specs.declared.parsed.Options.{Options}
use Rattle.jnode.specs.declared.order.Endian.{Endian}
use Rattle.flashbase.specs.Device.{next_count}
use Rattle.jnode.specs.declared.node.NodeRef.{NodeRef}
use Rattle.jmount.specs.Mount.{Mount}
use Rattle.jmount.specs.Tree.{State}
use Rattle.jmount.specs.declared.fault.MountFault.{MountFault}
use Rattle.jmount.specs.declared.fault.MountFault.TheVariants as mount
use Rattle.jexpand.specs.declared.fault.ConvertFault.{ConvertFault}
use Rattle.jexpand.specs.declared.fault.ConvertFault.TheVariants as convert
use Rattle.jconvert.specs.Converting.{Converts}
use Rattle.jreport.specs.Content.{IsContentFault, content_of}
use Rattle.jreport.specs.Refusal.{IsShownRefusal}
use Rattle.jreport.specs.declared.faults.ProgramFault.{ProgramFault}
use Rattle.jreport.specs.declared.faults.ProgramFault.TheVariants as program
use Rattle.jscan.specs.Image.{nodes}
use Rattle.jdiff.specs.declared.comparing.Comparing.{Comparing}
use Rattle.jedge.specs.Acts.{Act, CountsOutput, Then, Ends, GoesOn, IsPrintedInPart, IsUnfinished, Saying, Whole, and_closed, answers, closes, loads, opens, prints, reads_whole}
use Rattle.jedge.specs.Calls.{Event, Answers, Failed, Open, Print, ReadPart, printed}
use Rattle.jthrough.specs.declared.fault.ViewFault.{ViewFault}
use Rattle.jthrough.specs.declared.fault.ViewFault.TheVariants as view
use Rattle.jlook.specs.Chosen.{Choice}
use Rattle.jedge.specs.Commands.{comparing, Cat, Check, Damage, Diff, Info, Ls, cat_act, check_act, compares, content_told, damage_act, diff_act, info_act, list_act, read_told, shows_mount}
use Rattle.jedge.specs.Comparing.{Compares, compared}
use Rattle.jedge.specs.Images.{HasNodes, MountsBoth, MountsFor, MountsOrRefuses, MountsWith, NotesNone, view_refusal}
use Rattle.jedge.specs.Showing.{Checks, Contains, Lists, NamesNothing}
use Rattle.jspare.specs.declared.layout.PageLayout.{PageLayout}
use Rattle.jedge.specs.Parting.{FindsRegions}
use Rattle.jedge.specs.Sparing.{FindsSpare}
use Rattle.jregions.specs.declared.region.Regions.{Regions}
use Rattle.jedge.specs.Told.{Told}
use Rattle.jedge.specs.Views.{HasBlockSize, IsViewed, NamesPart, NamesPath, conversion_refusal, views}
use Rattle.jedge.specs.Laws.{BlamesEvent, BlamedIsFailed, BlamesFailed, Happened, IsOfBytes}
use Rattle.jedge.specs.Missing.{missing_bytes}
use Rattle.jedge.specs.declared.fault.Fault.{Fault}
use Rattle.jedge.specs.declared.fault.Fault.TheVariants as fault

pub before_more : (e : Event) (xs ys : List Event) → Happened e xs → Happened e (xs ++ ys)
before_more e [] ys did = absurd did
before_more e (x ∷ xs) ys (inl is) = inl is
before_more e (x ∷ xs) ys (inr did) = inr (before_more e xs ys did)

pub after_more : (e : Event) (xs ys : List Event) → Happened e ys → Happened e (xs ++ ys)
after_more e [] ys did = did
after_more e (x ∷ xs) ys did = inr (after_more e xs ys did)

pub blames_after : (f : Fault) (xs ys : List Event) → BlamesEvent f ys → BlamesEvent f (xs ++ ys)
blames_after (fault.File file) xs ys is = after_more _ xs ys is
blames_after (fault.NotRead file) xs ys is = (is.0, after_more _ xs ys is.1)
blames_after (fault.NoNodes of others) xs ys is = tt
blames_after (fault.NoSpace folder) xs ys is = (is.0, is.1, after_more _ xs ys is.2)
blames_after (fault.Findings of findings) xs ys is = tt
blames_after (fault.Refused why) xs ys is = is
blames_after fault.Output xs ys is = (is.0, is.1, after_more _ xs ys is.2)
blames_after fault.OutOfMemory xs ys is = tt

pub same : (f : Fault) {events other : List Event} → events ≡ other → BlamesEvent f other → BlamesEvent f events
same f is blames = subst (λ (l : List Event). BlamesEvent f l) (sym is) blames

-- why a file was left before its end, or why an image does not mount, names no file
pub unfinished_of : (bytes : List ℕ) (why : ProgramFault) → IsUnfinished bytes why → IsOfBytes why
unfinished_of bytes why (inl is) = subst (λ (f : ProgramFault). IsOfBytes f) (sym is.0) tt
unfinished_of bytes why (inr is) = subst (λ (f : ProgramFault). IsOfBytes f) (sym is) tt

pub refused_of : (ns : List (ℕ × NodeRef)) (refused : MountFault) (why : ProgramFault) → IsShownRefusal ns refused why → IsOfBytes why
refused_of ns mount.BlockSize why is = subst (λ (f : ProgramFault). IsOfBytes f) (sym is) tt
refused_of ns mount.TooLarge why is = subst (λ (f : ProgramFault). IsOfBytes f) (sym is) tt
refused_of ns (mount.Incompatible addr nodetype) why is = subst (λ (f : ProgramFault). IsOfBytes f) (sym is) tt
refused_of ns (mount.Compressed addr compr) why is = subst (λ (f : ProgramFault). IsOfBytes f) (sym is) tt
refused_of ns (mount.Clash addr) why is = subst (λ (f : ProgramFault). IsOfBytes f) (sym is.1) tt
refused_of ns mount.RootKind why is = subst (λ (f : ProgramFault). IsOfBytes f) (sym is) tt
refused_of ns mount.OutOfMemory why is = subst (λ (f : ProgramFault). IsOfBytes f) (sym is) tt

pub opens_blames : (name : List ℕ) → BlamesFailed (opens name)
opens_blames name events (fault.File file) is = same (fault.File file) is.1 (inl (ap (λ (n : List ℕ). Failed (Open n) file.reason) (sym is.0)))
opens_blames name events (fault.NotRead file) is = absurd is
opens_blames name events (fault.NoNodes of others) is = absurd is
opens_blames name events (fault.NoSpace folder) is = absurd is
opens_blames name events (fault.Findings of findings) is = absurd is
opens_blames name events (fault.Refused why) is = absurd is
opens_blames name events fault.Output is = absurd is
opens_blames name events fault.OutOfMemory is = tt

pub reads_blames : (name : List ℕ) → BlamesFailed (reads_whole name)
reads_blames name events (fault.File file) is = absurd is
reads_blames name events (fault.NotRead file) is = same (fault.NotRead file) is.1.1 (is.1.0, inl (ap (λ (n : List ℕ). Failed (ReadPart n is.1.0) file.reason) (sym is.0)))
reads_blames name events (fault.NoNodes of others) is = absurd is
reads_blames name events (fault.NoSpace folder) is = absurd is
reads_blames name events (fault.Findings of findings) is = absurd is
reads_blames name events (fault.Refused why) is = unfinished_of is.0 why is.2
reads_blames name events fault.Output is = absurd is
reads_blames name events fault.OutOfMemory is = absurd is

pub then_blames : {A B : Type 0} (first : Act A) (next : A → Act B) → BlamesFailed first → ((a : A) → BlamesFailed (next a)) → BlamesFailed (Then first next)
then_blames first next one two events f (Ends g did is) = let alike : f ≡ g = cc in one events f (subst (λ (h : Fault). first events (Err h)) (sym alike) did)
then_blames first next one two events f (GoesOn a before after did more is) = same f is (blames_after f before after (two a after f more))

pub cut_blames : (text : List ℕ) (events : List Event) → IsPrintedInPart Answers text events → BlamesEvent fault.Output events
cut_blames text events cut = same fault.Output cut.happened (cut.rest, cut.reason, after_more _ (printed Answers cut.begun) (Failed (Print Answers cut.rest) cut.reason ∷ []) (inl refl))

pub closed_blames : (failures : ℕ) (text : List ℕ) → BlamesFailed (closes Answers failures text)
closed_blames failures text events (fault.File file) is = absurd is
closed_blames failures text events (fault.NotRead file) is = absurd is
closed_blames failures text events (fault.NoNodes of others) is = absurd is
closed_blames failures text events (fault.NoSpace folder) is = absurd is
closed_blames failures text events (fault.Findings of findings) is = absurd is
closed_blames failures text events (fault.Refused why) is = absurd is
closed_blames failures text events fault.Output is = cut_blames text events is
closed_blames failures text events fault.OutOfMemory is = absurd is

pub one_not_none : {n : ℕ} → n ≡ next_count 0 → n ≡ 0 → ⊥
one_not_none one none = let no : 0 ≡ 1 = sym none ∙ one in omega (arith, no)

-- where a sink failed, the print did not go out
pub failed_blames : (failures : ℕ) (text : List ℕ) (events : List Event) (closed : Result Unit Fault) → failures ≡ next_count 0 → closes Answers failures text events closed → BlamesEvent fault.Output events
failed_blames failures text events (Ok _) one is = absurd (one_not_none one is.0)
failed_blames failures text events (Err (fault.File file)) one is = absurd is
failed_blames failures text events (Err (fault.NotRead file)) one is = absurd is
failed_blames failures text events (Err (fault.NoNodes of others)) one is = absurd is
failed_blames failures text events (Err (fault.NoSpace folder)) one is = absurd is
failed_blames failures text events (Err (fault.Findings of findings)) one is = absurd is
failed_blames failures text events (Err (fault.Refused why)) one is = absurd is
failed_blames failures text events (Err fault.Output) one is = cut_blames text events is
failed_blames failures text events (Err fault.OutOfMemory) one is = absurd is

-- a fault of a call that prints names no file
abbrev pub IsUnnamed : Fault → Type 0
IsUnnamed (fault.File file) = ⊥
IsUnnamed (fault.NotRead file) = ⊥
IsUnnamed (fault.NoNodes of others) = Unit {0}
IsUnnamed (fault.NoSpace folder) = ⊥
IsUnnamed (fault.Findings of findings) = Unit {0}
IsUnnamed (fault.Refused why) = IsOfBytes why
IsUnnamed fault.Output = Unit {0}
IsUnnamed fault.OutOfMemory = Unit {0}

abbrev pub Unnamed : {A : Type 0} → Saying A → Type 0
Unnamed {A} Says = (text : List ℕ) (f : Fault) → Says text (Err f) → IsUnnamed f

pub put_blames : {A : Type 0} (Says : Saying A) → Unnamed Says → (text : List ℕ) (failures : ℕ) (events : List Event) (f : Fault) (answer : Result A Fault) (closed : Result Unit Fault)
    → Says text answer → CountsOutput 0 failures answer → closes Answers failures text events closed → Err f ≡ and_closed answer closed → BlamesEvent f events
put_blames Says quiet text failures events f (Ok y) (Ok _) says counts out is = let no : ⊥ = cc in absurd no
put_blames Says quiet text failures events f (Ok y) (Err g) says counts out is = let alike : f ≡ g = cc in
    subst (λ (h : Fault). BlamesEvent h events) (sym alike) (closed_blames failures text events g out)
put_blames Says quiet text failures events f (Err (fault.File file)) closed says counts out is = absurd (quiet text (fault.File file) says)
put_blames Says quiet text failures events f (Err (fault.NotRead file)) closed says counts out is = absurd (quiet text (fault.NotRead file) says)
put_blames Says quiet text failures events f (Err (fault.NoNodes of others)) closed says counts out is = let alike : f ≡ fault.NoNodes of others = cc in
    subst (λ (h : Fault). BlamesEvent h events) (sym alike) tt
put_blames Says quiet text failures events f (Err (fault.NoSpace folder)) closed says counts out is = absurd (quiet text (fault.NoSpace folder) says)
put_blames Says quiet text failures events f (Err (fault.Findings of found)) closed says counts out is = let alike : f ≡ fault.Findings of found = cc in
    subst (λ (h : Fault). BlamesEvent h events) (sym alike) tt
put_blames Says quiet text failures events f (Err (fault.Refused why)) closed says counts out is = let alike : f ≡ fault.Refused why = cc in
    subst (λ (h : Fault). BlamesEvent h events) (sym alike) (quiet text (fault.Refused why) says)
put_blames Says quiet text failures events f (Err fault.Output) closed says counts out is = let alike : f ≡ fault.Output = cc in
    subst (λ (h : Fault). BlamesEvent h events) (sym alike) (failed_blames failures text events closed counts out)
put_blames Says quiet text failures events f (Err fault.OutOfMemory) closed says counts out is = let alike : f ≡ fault.OutOfMemory = cc in
    subst (λ (h : Fault). BlamesEvent h events) (sym alike) tt

pub prints_blames : {A : Type 0} (Says : Saying A) → Unnamed Says → BlamesFailed (prints Says)
prints_blames Says quiet events f (inl put) = put_blames Says quiet put.text put.failures events f put.answer put.closed put.says put.counts put.out put.comes_to
prints_blames Says quiet events f (inr none) = let alike : f ≡ fault.OutOfMemory = cc in subst (λ (h : Fault). BlamesEvent h events) (sym alike) tt

pub whole_unnamed : {A : Type 0} (whole : List ℕ) (x : A) → Unnamed (Whole whole x)
whole_unnamed whole x text (fault.File file) is = absurd is
whole_unnamed whole x text (fault.NotRead file) is = absurd is
whole_unnamed whole x text (fault.NoNodes of others) is = absurd is
whole_unnamed whole x text (fault.NoSpace folder) is = absurd is
whole_unnamed whole x text (fault.Findings of findings) is = absurd is
whole_unnamed whole x text (fault.Refused why) is = absurd is
whole_unnamed whole x text fault.Output is = tt
whole_unnamed whole x text fault.OutOfMemory is = tt

pub whole_blames : {A : Type 0} (whole : List ℕ) (x : A) → BlamesFailed (prints (Whole whole x))
whole_blames whole x = prints_blames (Whole whole x) (whole_unnamed whole x)

pub of_bytes : {f : ProgramFault} (why : ProgramFault) → why ≡ f → IsOfBytes f → IsOfBytes why
of_bytes why is of = subst (λ (g : ProgramFault). IsOfBytes g) (sym is) of

pub checks_unnamed : (e : Endian) (size : ℕ) (shape : Bool) (image : List ℕ) → Unnamed (Checks e size shape image)
checks_unnamed e size shape image text (fault.File file) is = absurd is
checks_unnamed e size shape image text (fault.NotRead file) is = absurd is
checks_unnamed e size shape image text (fault.NoNodes of others) is = absurd is
checks_unnamed e size shape image text (fault.NoSpace folder) is = absurd is
checks_unnamed e size shape image text (fault.Findings of findings) is = absurd is
checks_unnamed e size shape image text (fault.Refused why) is = of_bytes why is.0 tt
checks_unnamed e size shape image text fault.Output is = tt
checks_unnamed e size shape image text fault.OutOfMemory is = tt

pub nothing_of : (s : State) (part : Option (List ℕ)) (why : ProgramFault) → NamesNothing s part why → IsOfBytes why
nothing_of s None why is = absurd is
nothing_of s (Some path) why is = of_bytes why is.1 tt

pub lists_unnamed : (s : State) (part : Option (List ℕ)) (told : Told) → Unnamed (Lists s part told)
lists_unnamed s part told text (fault.File file) is = absurd is
lists_unnamed s part told text (fault.NotRead file) is = absurd is
lists_unnamed s part told text (fault.NoNodes of others) is = absurd is
lists_unnamed s part told text (fault.NoSpace folder) is = absurd is
lists_unnamed s part told text (fault.Findings of findings) is = absurd is
lists_unnamed s part told text (fault.Refused why) is = nothing_of s part why is.0
lists_unnamed s part told text fault.Output is = tt
lists_unnamed s part told text fault.OutOfMemory is = tt

pub content_of_bytes : (content : Result (List ℕ) ProgramFault) (why : ProgramFault) → IsContentFault content why → IsOfBytes why
content_of_bytes content (program.Path reason) is = tt
content_of_bytes content program.NotRegular is = tt
content_of_bytes content why is = absurd is

pub contains_unnamed : (content : Result (List ℕ) ProgramFault) (told : Told) → Unnamed (Contains content told)
contains_unnamed content told text (fault.File file) is = absurd is
contains_unnamed content told text (fault.NotRead file) is = absurd is
contains_unnamed content told text (fault.NoNodes of others) is = absurd is
contains_unnamed content told text (fault.NoSpace folder) is = absurd is
contains_unnamed content told text (fault.Findings of findings) is = absurd is
contains_unnamed content told text (fault.Refused why) is = content_of_bytes content why is.0
contains_unnamed content told text fault.Output is = tt
contains_unnamed content told text fault.OutOfMemory is = tt

pub nodes_blame : (e : Endian) (size : ℕ) (name : Option (List ℕ)) (image : List ℕ) → BlamesFailed (answers (HasNodes e size name image))
nodes_blame e size name image events (fault.File file) is = absurd is.1
nodes_blame e size name image events (fault.NotRead file) is = absurd is.1
nodes_blame e size name image events (fault.NoNodes of others) is = tt
nodes_blame e size name image events (fault.NoSpace folder) is = absurd is.1
nodes_blame e size name image events (fault.Findings of findings) is = tt
nodes_blame e size name image events (fault.Refused why) is = absurd is.1
nodes_blame e size name image events fault.Output is = absurd is.1
nodes_blame e size name image events fault.OutOfMemory is = tt

pub mounts_blame : (e : Endian) (size : ℕ) (image : List ℕ) → BlamesFailed (answers (MountsOrRefuses e size image))
mounts_blame e size image events (fault.File file) is = absurd is.1
mounts_blame e size image events (fault.NotRead file) is = absurd is.1
mounts_blame e size image events (fault.NoNodes of others) is = absurd is.1
mounts_blame e size image events (fault.NoSpace folder) is = absurd is.1
mounts_blame e size image events (fault.Findings of findings) is = absurd is.1
mounts_blame e size image events (fault.Refused why) is = refused_of (nodes e size image) is.1.0 why is.1.2
mounts_blame e size image events fault.Output is = absurd is.1
mounts_blame e size image events fault.OutOfMemory is = absurd is.1

-- no sink is blamed for an image that does not mount through its compression
pub view_of : (refused : ViewFault) → IsOfBytes (view_refusal refused)
view_of view.BlockSize = tt
view_of view.TooLarge = tt
view_of (view.Incompatible addr nodetype) = tt
view_of (view.Compressed addr compr) = tt
view_of (view.Data addr) = tt
view_of (view.TooLong addr) = tt
view_of (view.Clash addr) = tt
view_of view.RootKind = tt
view_of view.OutOfMemory = tt

pub mounts_as_blame : (decompress : Bool) (e : Endian) (size : ℕ) (image : List ℕ) → BlamesFailed (answers (MountsWith decompress e size image))
mounts_as_blame false e size image events f is = mounts_blame e size image events f is
mounts_as_blame true e size image events (fault.File file) is = absurd is.1
mounts_as_blame true e size image events (fault.NotRead file) is = absurd is.1
mounts_as_blame true e size image events (fault.NoNodes of others) is = absurd is.1
mounts_as_blame true e size image events (fault.NoSpace folder) is = absurd is.1
mounts_as_blame true e size image events (fault.Findings of findings) is = absurd is.1
mounts_as_blame true e size image events (fault.Refused why) is = of_bytes why is.1.1 (view_of is.1.0)
mounts_as_blame true e size image events fault.Output is = absurd is.1
mounts_as_blame true e size image events fault.OutOfMemory is = absurd is.1

pub mounts_for_blame : (choice : Choice) (decompress : Bool) (e : Endian) (size : ℕ) (image : List ℕ) → BlamesFailed (answers (MountsFor choice decompress e size image))
mounts_for_blame choice false e size image events f is = mounts_blame e size image events f is
mounts_for_blame choice true e size image events (fault.File file) is = absurd is.1
mounts_for_blame choice true e size image events (fault.NotRead file) is = absurd is.1
mounts_for_blame choice true e size image events (fault.NoNodes of others) is = absurd is.1
mounts_for_blame choice true e size image events (fault.NoSpace folder) is = absurd is.1
mounts_for_blame choice true e size image events (fault.Findings of findings) is = absurd is.1
mounts_for_blame choice true e size image events (fault.Refused why) is = of_bytes why is.1.1 (view_of is.1.0)
mounts_for_blame choice true e size image events fault.Output is = absurd is.1
mounts_for_blame choice true e size image events fault.OutOfMemory is = absurd is.1

pub both_blame : (decompress : Bool) (e : Endian) (size : ℕ) (image other : List ℕ) → BlamesFailed (answers (MountsBoth decompress e size image other))
both_blame decompress e size image other events f is = elim is.1 [
  | inl first ↦ mounts_as_blame decompress e size image events f (is.0, first)
  | inr second ↦ mounts_as_blame decompress e size other events f (is.0, second.2)
]

pub notes_blame : (e : Endian) (size : ℕ) (image : List ℕ) → BlamesFailed (answers (NotesNone e size image))
notes_blame e size image events f is = absurd is.1

pub spare_blames : (dump : List ℕ) → BlamesFailed (answers (FindsSpare dump))
spare_blames dump events (fault.File file) is = absurd is.1
spare_blames dump events (fault.NotRead file) is = absurd is.1
spare_blames dump events (fault.NoNodes of others) is = tt
spare_blames dump events (fault.NoSpace folder) is = absurd is.1
spare_blames dump events (fault.Findings of findings) is = tt
spare_blames dump events (fault.Refused why) is = absurd is.1
spare_blames dump events fault.Output is = absurd is.1
spare_blames dump events fault.OutOfMemory is = tt

pub regions_blame : (file : List ℕ) → BlamesFailed (answers (FindsRegions file))
regions_blame file events (fault.File name) is = absurd is.1
regions_blame file events (fault.NotRead name) is = absurd is.1
regions_blame file events (fault.NoNodes of others) is = tt
regions_blame file events (fault.NoSpace folder) is = absurd is.1
regions_blame file events (fault.Findings of findings) is = tt
regions_blame file events (fault.Refused why) is = absurd is.1
regions_blame file events fault.Output is = absurd is.1
regions_blame file events fault.OutOfMemory is = tt

pub shows_blames : (choice : Choice) (decompress : Bool) (e : Endian) (size : ℕ) (says : Option ℕ → Mount → Saying Told) → ((others : Option ℕ) (m : Mount) → Unnamed (says others m))
    → (image : List ℕ) → BlamesFailed (shows_mount choice decompress e size says image)
shows_blames choice decompress e size says unnamed image = then_blames _ _ (notes_blame e size image) (λ (others : Option ℕ).
    then_blames _ _ (mounts_for_blame choice decompress e size image) (λ (m : Mount). prints_blames _ (unnamed others m)))

pub loads_blames : (name : List ℕ) → BlamesFailed (loads name)
loads_blames name = then_blames (opens name) reads_whole (opens_blames name) reads_blames

pub size_blames : (size : ℕ) → BlamesFailed (answers (HasBlockSize size))
size_blames size events (fault.File file) is = absurd is.1
size_blames size events (fault.NotRead file) is = absurd is.1
size_blames size events (fault.NoNodes of others) is = tt
size_blames size events (fault.NoSpace folder) is = absurd is.1
size_blames size events (fault.Findings of findings) is = tt
size_blames size events (fault.Refused why) is = of_bytes why is.1.0 tt
size_blames size events fault.Output is = absurd is.1
size_blames size events fault.OutOfMemory is = tt

pub path_blames : (word : List ℕ) → BlamesFailed (answers (NamesPath word))
path_blames word events (fault.File file) is = absurd is.1
path_blames word events (fault.NotRead file) is = absurd is.1
path_blames word events (fault.NoNodes of others) is = tt
path_blames word events (fault.NoSpace folder) is = absurd is.1
path_blames word events (fault.Findings of findings) is = tt
path_blames word events (fault.Refused why) is = of_bytes why is.1.0 tt
path_blames word events fault.Output is = absurd is.1
path_blames word events fault.OutOfMemory is = tt

pub part_blames : (word : Option (List ℕ)) → BlamesFailed (answers (NamesPart word))
part_blames None events f is = absurd is.1
part_blames (Some word) events f is = path_blames word events f is

-- no sink is blamed for an image that is not decompressed
pub conversion_of : (e : Endian) (size : ℕ) (image : List ℕ) (refused : ConvertFault) → Converts e size image (Err refused) → IsOfBytes (conversion_refusal refused)
conversion_of e size image convert.BlockSize is = tt
conversion_of e size image convert.TooLarge is = tt
conversion_of e size image (convert.Incompatible addr nodetype) is = tt
conversion_of e size image (convert.Compressed addr compr) is = tt
conversion_of e size image (convert.Data addr) is = tt
conversion_of e size image (convert.TooLong addr) is = tt
conversion_of e size image convert.ReadOnly is = tt
conversion_of e size image convert.Geometry is = tt
conversion_of e size image (convert.Full needed free) is = tt
conversion_of e size image convert.Sink is = absurd is
conversion_of e size image convert.OutOfMemory is = tt

pub viewed_blames : (e : Endian) (size : ℕ) (decompress : Bool) (image : List ℕ) → BlamesFailed (answers (IsViewed e size decompress image))
viewed_blames e size decompress image events (fault.File file) is = absurd is.1
viewed_blames e size decompress image events (fault.NotRead file) is = absurd is.1
viewed_blames e size decompress image events (fault.NoNodes of others) is = tt
viewed_blames e size decompress image events (fault.NoSpace folder) is = absurd is.1
viewed_blames e size decompress image events (fault.Findings of findings) is = tt
viewed_blames e size decompress image events (fault.Refused why) is =
    of_bytes why is.1.1.1 (conversion_of e size image is.1.1.0 is.1.1.2)
viewed_blames e size decompress image events fault.Output is = absurd is.1
viewed_blames e size decompress image events fault.OutOfMemory is = tt

pub views_blames : (e : Endian) (size : ℕ) (decompress : Bool) (name : List ℕ) → BlamesFailed (views e size decompress name)
views_blames e size decompress name = then_blames (loads name) _ (loads_blames name) (λ (image : List ℕ). viewed_blames e size decompress image)

pub check_blames : (options : Options) (shape : Bool) (name : List ℕ) → BlamesFailed (check_act options shape name)
check_blames options shape name = then_blames (opens name) _ (opens_blames name) (λ (opened : List ℕ).
    then_blames _ _ (size_blames options.geometry.block) (λ _.
    then_blames (reads_whole opened) _ (reads_blames opened) (λ (image : List ℕ).
    prints_blames _ (checks_unnamed options.endian options.geometry.block shape image))))

pub list_blames : (options : Options) (decompress : Bool) (name : List ℕ) (word : Option (List ℕ)) → BlamesFailed (list_act options decompress name word)
list_blames options decompress name word = then_blames _ _ (part_blames word) (λ (part : Option (List ℕ)).
    then_blames (loads name) _ (loads_blames name) (shows_blames _ decompress options.endian options.geometry.block _
    (λ (others : Option ℕ) (m : Mount). lists_unnamed m.state part (read_told options.endian options.geometry.block others m))))

pub cat_blames : (options : Options) (decompress strict : Bool) (name word : List ℕ) → BlamesFailed (cat_act options decompress strict name word)
cat_blames options decompress strict name word = then_blames _ _ (path_blames word) (λ (path : List ℕ).
    then_blames (loads name) _ (loads_blames name) (shows_blames _ decompress options.endian options.geometry.block _
    (λ (others : Option ℕ) (m : Mount). contains_unnamed (content_of m.state path) (content_told strict (missing_bytes options.endian options.geometry.block path m) (read_told options.endian options.geometry.block others m)))))

pub info_blames : (name : List ℕ) → BlamesFailed (info_act name)
info_blames name = then_blames (loads name) _ (loads_blames name) (λ (image : List ℕ). then_blames _ _ (spare_blames image) (λ (spare : Option PageLayout). then_blames _ _ (regions_blame image) (λ (regions : Regions). whole_blames _ _)))

pub damage_blames : (options : Options) (decompress : Bool) (name : List ℕ) → BlamesFailed (damage_act options decompress name)
damage_blames options decompress name = then_blames (loads name) _ (loads_blames name)
    (λ (image : List ℕ). then_blames _ _ (nodes_blame options.endian options.geometry.block None image)
    (λ _. then_blames _ _ (mounts_as_blame decompress options.endian options.geometry.block image) (λ _. whole_blames _ _)))

pub differs_unnamed : (how : Comparing) (left right : Mount) (answer : ℕ → Told) → Unnamed (Compares how left right answer)
differs_unnamed how left right answer text (fault.File file) is = absurd is
differs_unnamed how left right answer text (fault.NotRead file) is = absurd is
differs_unnamed how left right answer text (fault.NoNodes of others) is = absurd is
differs_unnamed how left right answer text (fault.NoSpace folder) is = absurd is
differs_unnamed how left right answer text (fault.Findings of findings) is = absurd is
differs_unnamed how left right answer text (fault.Refused why) is = absurd is
differs_unnamed how left right answer text fault.Output is = tt
differs_unnamed how left right answer text fault.OutOfMemory is = tt

pub compare_blames : (x : Comparison (List ℕ)) (image other : List ℕ) → BlamesFailed (compares x image other)
compare_blames x image other = then_blames _ _ (nodes_blame x.options.endian x.options.geometry.block (Some x.first) image) (λ _.
    then_blames _ _ (nodes_blame x.options.endian x.options.geometry.block (Some x.second) other) (λ _.
    then_blames _ _ (both_blame x.decompress x.options.endian x.options.geometry.block image other) (λ (both : Mount × Mount).
    prints_blames _ (differs_unnamed (comparing x) both.0 both.1 (compared x.first x.second both.0 both.1)))))

pub diff_blames : (x : Comparison (List ℕ)) → BlamesFailed (diff_act x)
diff_blames x = then_blames (loads x.first) _ (loads_blames x.first) (λ (image : List ℕ).
    then_blames (loads x.second) _ (loads_blames x.second) (λ (other : List ℕ). compare_blames x image other))

pub blamed_is_failed : BlamedIsFailed
blamed_is_failed (Check options shape name) = check_blames options shape name
blamed_is_failed (Ls options decompress name word) = list_blames options decompress name word
blamed_is_failed (Cat options decompress strict name word) = cat_blames options decompress strict name word
blamed_is_failed (Info name) = info_blames name
blamed_is_failed (Damage options decompress name) = damage_blames options decompress name
blamed_is_failed (Diff asked) = diff_blames asked

-- What is refused is refused before anything is printed.
use Rattle.std.proofs.Common.{◌≡◌, ◌⊎◌, ℕ, Bool, Option, List, [], ◌∷◌, ◌++◌, Result, Ok, Err, sym, ap, subst, inl, inr, ◌∙◌, refl}
use Rattle.jcommand.specs.declared.parsed.Comparison.{Comparison}
use Rattle.jcommand.specs.declared.parsed.Options.{Options}
use Rattle.jnode.specs.declared.order.Endian.{Endian}
use Rattle.jmount.specs.Mount.{Mount}
use Rattle.jmount.specs.Tree.{State}
use Rattle.jreport.specs.Content.{content_of}
use Rattle.jmount.specs.declared.fault.MountFault.TheVariants as mount
use Rattle.jreport.specs.declared.faults.ProgramFault.{ProgramFault}
use Rattle.jreport.specs.declared.faults.ProgramFault.TheVariants as program
use Rattle.jdiff.specs.declared.comparing.Comparing.{Comparing}
use Rattle.jedge.specs.Acts.{Act, Then, Ends, GoesOn, Saying, Whole, and_closed, answers, closes, loads, opens, prints, reads_whole}
use Rattle.jedge.specs.Calls.{Event, Answers, Did, Failed, Print, printed}
use Rattle.jedge.specs.Commands.{comparing, Cat, Check, Damage, Diff, Info, Ls, cat_act, check_act, content_told, damage_act, diff_act, info_act, list_act, read_told}
use Rattle.jedge.specs.Comparing.{Compares, compared}
use Rattle.jedge.specs.Laws.{ComesFirst, JudgedFirst, JudgesFirst, JudgesFirstBut, NonePrinted}
use Rattle.jedge.specs.Missing.{missing_bytes}
use Rattle.jedge.specs.Showing.{Checks, Contains, Lists}
use Rattle.jregions.specs.declared.region.Regions.{Regions}
use Rattle.jspare.specs.declared.layout.PageLayout.{PageLayout}
use Rattle.jedge.specs.Told.{Told}
use Rattle.jedge.specs.Views.{views}
use Rattle.jedge.specs.declared.fault.Fault.{Fault}
use Rattle.jedge.specs.declared.fault.Fault.TheVariants as fault

pub same : {events other : List Event} → events ≡ other → NonePrinted other → NonePrinted events
same is none = subst (λ (l : List Event). NonePrinted l) (sym is) none

pub both : (xs ys : List Event) → NonePrinted xs → NonePrinted ys → NonePrinted (xs ++ ys)
both [] ys one two = two
both (Did call ∷ xs) ys one two = (one.0, both xs ys one.1 two)
both (Failed call reason ∷ xs) ys one two = both xs ys one two

pub none_first : (f : Fault) (events : List Event) → NonePrinted events → ComesFirst f events
none_first (fault.File file) events none = none
none_first (fault.NotRead file) events none = none
none_first (fault.NoNodes of others) events none = none
none_first (fault.NoSpace folder) events none = none
none_first (fault.Findings of findings) events none = none
none_first (fault.Refused why) events none = none
none_first fault.Output events none = tt
none_first fault.OutOfMemory events none = none

pub first_after : (f : Fault) (xs ys : List Event) → NonePrinted xs → ComesFirst f ys → ComesFirst f (xs ++ ys)
first_after (fault.File file) xs ys none more = both xs ys none more
first_after (fault.NotRead file) xs ys none more = both xs ys none more
first_after (fault.NoNodes of others) xs ys none more = both xs ys none more
first_after (fault.NoSpace folder) xs ys none more = both xs ys none more
first_after (fault.Findings of findings) xs ys none more = both xs ys none more
first_after (fault.Refused why) xs ys none more = both xs ys none more
first_after fault.Output xs ys none more = tt
first_after fault.OutOfMemory xs ys none more = both xs ys none more

-- nothing is printed, whatever it answers
abbrev pub Silent : {A : Type 0} → Act A → Type 0
Silent {A} act = (events : List Event) (result : Result A Fault) → act events result → NonePrinted events

pub opens_silent : (name : List ℕ) → Silent (opens name)
opens_silent name events (Ok opened) is = same is.1 (tt, tt)
opens_silent name events (Err (fault.File file)) is = same is.1 tt
opens_silent name events (Err (fault.NotRead file)) is = absurd is
opens_silent name events (Err (fault.NoNodes of others)) is = absurd is
opens_silent name events (Err (fault.NoSpace folder)) is = absurd is
opens_silent name events (Err (fault.Findings of findings)) is = absurd is
opens_silent name events (Err (fault.Refused why)) is = absurd is
opens_silent name events (Err fault.Output) is = absurd is
opens_silent name events (Err fault.OutOfMemory) is = same is tt

pub reads_silent : (name : List ℕ) → Silent (reads_whole name)
reads_silent name events (Ok bytes) is = same is.0 (tt, tt)
reads_silent name events (Err (fault.File file)) is = absurd is
reads_silent name events (Err (fault.NotRead file)) is = same is.1.1 tt
reads_silent name events (Err (fault.NoNodes of others)) is = absurd is
reads_silent name events (Err (fault.NoSpace folder)) is = absurd is
reads_silent name events (Err (fault.Findings of findings)) is = absurd is
reads_silent name events (Err (fault.Refused why)) is = same is.1 (tt, tt)
reads_silent name events (Err fault.Output) is = absurd is
reads_silent name events (Err fault.OutOfMemory) is = absurd is

pub answers_silent : {A : Type 0} (Is : Result A Fault → Type 0) → Silent (answers Is)
answers_silent Is events result is = same is.0 tt

pub then_silent : {A B : Type 0} (first : Act A) (next : A → Act B) → Silent first → ((a : A) → Silent (next a)) → Silent (Then first next)
then_silent first next one two events r (Ends f did is) = one events (Err f) did
then_silent first next one two events r (GoesOn a before after did more is) = same is (both before after (one before (Ok a) did) (two a after r more))

pub then_first : {A B : Type 0} (first : Act A) (next : A → Act B) → Silent first → ((a : A) → JudgesFirst (next a)) → JudgesFirst (Then first next)
then_first {A} first next one two events f (Ends g did is) = none_first f events (one events (Err g) did)
then_first first next one two events f (GoesOn a before after did more is) =
    subst (λ (l : List Event). ComesFirst f l) (sym is) (first_after f before after (one before (Ok a) did) (two a after f more))

pub none_begun : (begun left : List ℕ) → [] ≡ begun ++ left → begun ≡ []
none_begun [] left is = refl
none_begun (b ∷ begun) left is = let no : ⊥ = cc in absurd no

-- nothing was put: nothing is printed, also where the stream fails
pub empty_silent : (failures : ℕ) (text : List ℕ) (events : List Event) (closed : Result Unit Fault) → text ≡ [] → closes Answers failures text events closed → NonePrinted events
empty_silent failures text events (Ok _) none is = same (is.1 ∙ ap (λ (t : List ℕ). printed Answers t) none) tt
empty_silent failures text events (Err (fault.File file)) none is = absurd is
empty_silent failures text events (Err (fault.NotRead file)) none is = absurd is
empty_silent failures text events (Err (fault.NoNodes of others)) none is = absurd is
empty_silent failures text events (Err (fault.NoSpace folder)) none is = absurd is
empty_silent failures text events (Err (fault.Findings of findings)) none is = absurd is
empty_silent failures text events (Err (fault.Refused why)) none is = absurd is
empty_silent failures text events (Err fault.Output) none is =
    let begun : is.begun ≡ [] = none_begun is.begun is.left (sym none ∙ is.of) in
    same (is.happened ∙ ap (λ (t : List ℕ). printed Answers t ++ Failed (Print Answers is.rest) is.reason ∷ []) begun) tt
empty_silent failures text events (Err fault.OutOfMemory) none is = absurd is

pub closed_first : (failures : ℕ) (text : List ℕ) → JudgesFirst (closes Answers failures text)
closed_first failures text events (fault.File file) is = absurd is
closed_first failures text events (fault.NotRead file) is = absurd is
closed_first failures text events (fault.NoNodes of others) is = absurd is
closed_first failures text events (fault.NoSpace folder) is = absurd is
closed_first failures text events (fault.Findings of findings) is = absurd is
closed_first failures text events (fault.Refused why) is = absurd is
closed_first failures text events fault.Output is = tt
closed_first failures text events fault.OutOfMemory is = absurd is

-- where a call ends by this fault, and not by that of the output, it put nothing
abbrev pub IsUnput : Fault → List ℕ → Type 0
IsUnput (fault.File file) text = text ≡ []
IsUnput (fault.NotRead file) text = text ≡ []
IsUnput (fault.NoNodes of others) text = text ≡ []
IsUnput (fault.NoSpace folder) text = text ≡ []
IsUnput (fault.Findings of findings) text = text ≡ []
IsUnput (fault.Refused why) text = text ≡ []
IsUnput fault.Output text = Unit {0}
IsUnput fault.OutOfMemory text = text ≡ []

pub unput_first : (g f : Fault) (text : List ℕ) (failures : ℕ) (events : List Event) (closed : Result Unit Fault)
    → IsUnput g text → closes Answers failures text events closed → f ≡ g → ComesFirst f events
unput_first fault.Output f text failures events closed none out is = subst (λ (h : Fault). ComesFirst h events) (sym is) tt
unput_first (fault.File file) f text failures events closed none out is = none_first f events (empty_silent failures text events closed none out)
unput_first (fault.NotRead file) f text failures events closed none out is = none_first f events (empty_silent failures text events closed none out)
unput_first (fault.NoNodes of others) f text failures events closed none out is = none_first f events (empty_silent failures text events closed none out)
unput_first (fault.NoSpace folder) f text failures events closed none out is = none_first f events (empty_silent failures text events closed none out)
unput_first (fault.Findings of findings) f text failures events closed none out is = none_first f events (empty_silent failures text events closed none out)
unput_first (fault.Refused why) f text failures events closed none out is = none_first f events (empty_silent failures text events closed none out)
unput_first fault.OutOfMemory f text failures events closed none out is = none_first f events (empty_silent failures text events closed none out)

pub put_first : {A : Type 0} (Says : Saying A) (text : List ℕ) (failures : ℕ) (events : List Event) (f : Fault) (answer : Result A Fault) (closed : Result Unit Fault)
    → Says text answer → (Says text (Err f) → IsUnput f text) → closes Answers failures text events closed → Err f ≡ and_closed answer closed → ComesFirst f events
put_first Says text failures events f (Ok y) (Ok _) says unput out is = let no : ⊥ = cc in absurd no
put_first Says text failures events f (Ok y) (Err g) says unput out is = let alike : f ≡ g = cc in
    subst (λ (h : Fault). ComesFirst h events) (sym alike) (closed_first failures text events g out)
put_first {A} Says text failures events f (Err g) closed says unput out is =
    let alike : f ≡ g = cc in
    let none : IsUnput f text = unput (subst (λ (h : Fault). Says text (Err h)) (sym alike) says) in
    unput_first g f text failures events closed (subst (λ (h : Fault). IsUnput h text) alike none) out alike

pub prints_first : {A : Type 0} (Says : Saying A) → ((text : List ℕ) (f : Fault) → Says text (Err f) → IsUnput f text) → JudgesFirst (prints Says)
prints_first Says unput events f (inl put) = put_first Says put.text put.failures events f put.answer put.closed put.says (unput put.text f) put.out put.comes_to
prints_first Says unput events f (inr none) = none_first f events (same none.0 tt)

pub whole_unput : {A : Type 0} (whole : List ℕ) (x : A) (text : List ℕ) (f : Fault) → Whole whole x text (Err f) → IsUnput f text
whole_unput whole x text (fault.File file) is = absurd is
whole_unput whole x text (fault.NotRead file) is = absurd is
whole_unput whole x text (fault.NoNodes of others) is = absurd is
whole_unput whole x text (fault.NoSpace folder) is = absurd is
whole_unput whole x text (fault.Findings of findings) is = absurd is
whole_unput whole x text (fault.Refused why) is = absurd is
whole_unput whole x text fault.Output is = tt
whole_unput whole x text fault.OutOfMemory is = is

pub whole_first : {A : Type 0} (whole : List ℕ) (x : A) → JudgesFirst (prints (Whole whole x))
whole_first whole x = prints_first (Whole whole x) (whole_unput whole x)

pub contains_unput : (content : Result (List ℕ) ProgramFault) (told : Told) (text : List ℕ) (f : Fault) → Contains content told text (Err f) → IsUnput f text
contains_unput content told text (fault.File file) is = absurd is
contains_unput content told text (fault.NotRead file) is = absurd is
contains_unput content told text (fault.NoNodes of others) is = absurd is
contains_unput content told text (fault.NoSpace folder) is = absurd is
contains_unput content told text (fault.Findings of findings) is = absurd is
contains_unput content told text (fault.Refused why) is = is.1
contains_unput content told text fault.Output is = tt
contains_unput content told text fault.OutOfMemory is = absurd is

-- ---- one that may want memory when it has printed

pub then_first_but : {A B : Type 0} (Late : Fault → Type 0) (first : Act A) (next : A → Act B) → Silent first → ((a : A) → JudgesFirstBut Late (next a)) → JudgesFirstBut Late (Then first next)
then_first_but Late first next one two events f not (Ends g did is) = none_first f events (one events (Err g) did)
then_first_but Late first next one two events f not (GoesOn a before after did more is) =
    subst (λ (l : List Event). ComesFirst f l) (sym is) (first_after f before after (one before (Ok a) did) (two a after f not more))

pub prints_first_but : {A : Type 0} (Late : Fault → Type 0) (Says : Saying A) → ((text : List ℕ) (f : Fault) → (Late f → ⊥) → Says text (Err f) → IsUnput f text) → JudgesFirstBut Late (prints Says)
prints_first_but Late Says unput events f not (inl put) = put_first Says put.text put.failures events f put.answer put.closed put.says (unput put.text f not) put.out put.comes_to
prints_first_but Late Says unput events f not (inr none) = none_first f events (same none.0 tt)

pub lists_unput : (s : State) (part : Option (List ℕ)) (told : Told) (text : List ℕ) (f : Fault) → (f ≡ fault.OutOfMemory → ⊥) → Lists s part told text (Err f) → IsUnput f text
lists_unput s part told text (fault.File file) not is = absurd is
lists_unput s part told text (fault.NotRead file) not is = absurd is
lists_unput s part told text (fault.NoNodes of others) not is = absurd is
lists_unput s part told text (fault.NoSpace folder) not is = absurd is
lists_unput s part told text (fault.Findings of findings) not is = absurd is
lists_unput s part told text (fault.Refused why) not is = is.1
lists_unput s part told text fault.Output not is = tt
lists_unput s part told text fault.OutOfMemory not is = absurd (not refl)

-- memory is wanted behind the report too
abbrev pub IsWanting : Fault → Type 0
IsWanting f = (f ≡ fault.OutOfMemory) ⊎ (f ≡ fault.Refused (program.Mount mount.OutOfMemory))

pub checks_unput : (e : Endian) (size : ℕ) (shape : Bool) (image text : List ℕ) (f : Fault) → (IsWanting f → ⊥) → Checks e size shape image text (Err f) → IsUnput f text
checks_unput e size shape image text (fault.File file) not is = absurd is
checks_unput e size shape image text (fault.NotRead file) not is = absurd is
checks_unput e size shape image text (fault.NoNodes of others) not is = absurd is
checks_unput e size shape image text (fault.NoSpace folder) not is = absurd is
checks_unput e size shape image text (fault.Findings of findings) not is = absurd is
checks_unput e size shape image text (fault.Refused why) not is = absurd (not (inr (ap (λ (w : ProgramFault). fault.Refused w) is.0)))
checks_unput e size shape image text fault.Output not is = tt
checks_unput e size shape image text fault.OutOfMemory not is = absurd (not (inl refl))

-- ---- the commands

pub loads_silent : (name : List ℕ) → Silent (loads name)
loads_silent name = then_silent (opens name) reads_whole (opens_silent name) reads_silent

pub views_silent : (e : Endian) (size : ℕ) (decompress : Bool) (name : List ℕ) → Silent (views e size decompress name)
views_silent e size decompress name = then_silent (loads name) _ (loads_silent name) (λ (image : List ℕ). answers_silent _)

pub cat_first : (options : Options) (decompress strict : Bool) (name word : List ℕ) → JudgesFirst (cat_act options decompress strict name word)
cat_first options decompress strict name word = then_first _ _ (answers_silent _) (λ (path : List ℕ).
    then_first (loads name) _ (loads_silent name) (λ (image : List ℕ). then_first _ _ (answers_silent _) (λ (others : Option ℕ).
    then_first _ _ (answers_silent _) (λ (m : Mount).
    prints_first _ (contains_unput (content_of m.state path) (content_told strict (missing_bytes options.endian options.geometry.block path m) (read_told options.endian options.geometry.block others m)))))))

pub list_first : (options : Options) (decompress : Bool) (name : List ℕ) (word : Option (List ℕ)) → JudgesFirstBut (λ f. f ≡ fault.OutOfMemory) (list_act options decompress name word)
list_first options decompress name word = then_first_but _ _ _ (answers_silent _) (λ (part : Option (List ℕ)).
    then_first_but _ (loads name) _ (loads_silent name) (λ (image : List ℕ). then_first_but _ _ _ (answers_silent _) (λ (others : Option ℕ).
    then_first_but _ _ _ (answers_silent _) (λ (m : Mount). prints_first_but _ _ (lists_unput m.state part (read_told options.endian options.geometry.block others m))))))

pub differs_unput : (how : Comparing) (left right : Mount) (answer : ℕ → Told) (text : List ℕ) (f : Fault) → (f ≡ fault.OutOfMemory → ⊥) → Compares how left right answer text (Err f) → IsUnput f text
differs_unput how left right answer text (fault.File file) not is = absurd is
differs_unput how left right answer text (fault.NotRead file) not is = absurd is
differs_unput how left right answer text (fault.NoNodes of others) not is = absurd is
differs_unput how left right answer text (fault.NoSpace folder) not is = absurd is
differs_unput how left right answer text (fault.Findings of findings) not is = absurd is
differs_unput how left right answer text (fault.Refused why) not is = absurd is
differs_unput how left right answer text fault.Output not is = tt
differs_unput how left right answer text fault.OutOfMemory not is = absurd (not refl)

pub diff_first : (x : Comparison (List ℕ)) → JudgesFirstBut (λ f. f ≡ fault.OutOfMemory) (diff_act x)
diff_first x = then_first_but _ (loads x.first) _ (loads_silent x.first) (λ (image : List ℕ).
    then_first_but _ (loads x.second) _ (loads_silent x.second) (λ (other : List ℕ).
    then_first_but _ _ _ (answers_silent _) (λ _. then_first_but _ _ _ (answers_silent _) (λ _.
    then_first_but _ _ _ (answers_silent _) (λ (both : Mount × Mount).
    prints_first_but _ _ (differs_unput (comparing x) both.0 both.1 (compared x.first x.second both.0 both.1)))))))

pub check_first : (options : Options) (shape : Bool) (name : List ℕ) → JudgesFirstBut IsWanting (check_act options shape name)
check_first options shape name = then_first_but _ (opens name) _ (opens_silent name) (λ (opened : List ℕ).
    then_first_but _ _ _ (answers_silent _) (λ _.
    then_first_but _ (reads_whole opened) _ (reads_silent opened) (λ (image : List ℕ).
    prints_first_but _ _ (checks_unput options.endian options.geometry.block shape image))))

pub info_first : (name : List ℕ) → JudgesFirst (info_act name)
info_first name = then_first (loads name) _ (loads_silent name) (λ (image : List ℕ). then_first _ _ (answers_silent _) (λ (spare : Option PageLayout). then_first _ _ (answers_silent _) (λ (regions : Regions). whole_first _ _)))

pub damage_first : (options : Options) (decompress : Bool) (name : List ℕ) → JudgesFirst (damage_act options decompress name)
damage_first options decompress name = then_first (loads name) _ (loads_silent name)
    (λ (image : List ℕ). then_first _ _ (answers_silent _) (λ _. then_first _ _ (answers_silent _) (λ _. whole_first _ _)))

pub judged_first : JudgedFirst
judged_first (Check options shape name) = check_first options shape name
judged_first (Ls options decompress name word) = list_first options decompress name word
judged_first (Cat options decompress strict name word) = λ events f not did. cat_first options decompress strict name word events f did
judged_first (Info name) = λ events f not did. info_first name events f did
judged_first (Damage options decompress name) = λ events f not did. damage_first options decompress name events f did
judged_first (Diff asked) = diff_first asked

-- A file that is to take its name when all is written leaves the others as they were at a fault.
use Rattle.std.proofs.Common.{◌≡◌, ℕ, true, List, [], ◌++◌, Result, Ok, Err, refl, sym, subst}
use Rattle.std.specs.Prelude.{is_ok}
use Rattle.std.proofs.lemmas.List.{append-nil}
use Rattle.jedge.proofs.LookingLemmas.{answers_looks}
use Rattle.jedge.specs.Acts.{Act, Then, Ends, GoesOn, and_closed, closes, prints_put}
use Rattle.jedge.specs.Calls.{Event, Answers}
use Rattle.jedge.specs.Laws.{LooksOnly, MakesNothing}
use Rattle.jedge.specs.Told.{Told}
use Rattle.jedge.specs.declared.fault.Fault.{Fault}
use Rattle.jedge.specs.declared.fault.Fault.TheVariants as fault
use Rattle.jmakes.proofs.LeavingLemmas.{looks_quiet, makes_leave, owned, quiet_both, quiet_more}
use Rattle.jmakes.specs.Leaving.{EndsUnnamed, LeavesFiles}
use Rattle.jmakes.specs.Making.{FileSaying, WantedFile}
use Rattle.jmakes.specs.declared.wanted.CloseFault.{CloseFault}
use Rattle.jremakes.proofs.JudgedLemmas.{takes_looks}
use Rattle.jremakes.specs.Laws.{Apart, Compact, CompactApart, Compress, Decompress, RemadeIsLeft}
use Rattle.jremakes.specs.Putting.{ComesTo, TellsLine, remakes}
use Rattle.jremakes.specs.declared.remaking.Unput.{Unput}
use Rattle.jremakes.specs.declared.remaking.Unput.TheVariants as unput

-- at any fault but that of the output nothing is left of an act
abbrev pub LeavesAt : {A : Type 0} → Act A → Type 0
LeavesAt act = (events : List Event) (f : Fault) → (f ≡ fault.Output → ⊥) → act events (Err f) → LeavesFiles events

left_at : {events other : List Event} → events ≡ other → LeavesFiles other → LeavesFiles events
left_at is left = subst (λ (l : List Event). LeavesFiles l) (sym is) left

looks_left : (events : List Event) → LooksOnly events → LeavesFiles events
looks_left events looks = let quiet = looks_quiet [] events looks in record { others = quiet.others; removed = quiet.removed }

left_after : (xs ys : List Event) → LooksOnly xs → LeavesFiles ys → LeavesFiles (xs ++ ys)
left_after xs ys looks left =
    let both = quiet_both [] xs ys (looks_quiet [] xs looks) (quiet_more [] (owned [] xs) ys (λ name is. absurd is) (record { others = left.others; removed = left.removed })) in
    record { others = both.others; removed = both.removed }

then_left : {A B : Type 0} (first : Act A) (next : A → Act B) → MakesNothing first → ((a : A) → LeavesAt (next a)) → LeavesAt (Then first next)
then_left first next one two events f not (Ends g did is) = looks_left events (one events (Err g) did)
then_left first next one two events f not (GoesOn a before after did more is) =
    left_at is (left_after before after (one before (Ok a) did) (two a after f not more))

-- ---- the line fails with the output alone

closed_output : (failures : ℕ) (text : List ℕ) (events : List Event) (f : Fault) → closes Answers failures text events (Err f) → f ≡ fault.Output
closed_output failures text events (fault.File file) is = absurd is
closed_output failures text events (fault.NotRead file) is = absurd is
closed_output failures text events (fault.NoNodes of others) is = absurd is
closed_output failures text events (fault.NoSpace folder) is = absurd is
closed_output failures text events (fault.Findings of findings) is = absurd is
closed_output failures text events (fault.Refused why) is = absurd is
closed_output failures text events fault.Output is = refl
closed_output failures text events fault.OutOfMemory is = absurd is

line_output : {A : Type 0} (line : List ℕ) (x : A) (text : List ℕ) (f : Fault) → TellsLine line x text (Err f) → f ≡ fault.Output
line_output line x text (fault.File file) is = absurd is
line_output line x text (fault.NotRead file) is = absurd is
line_output line x text (fault.NoNodes of others) is = absurd is
line_output line x text (fault.NoSpace folder) is = absurd is
line_output line x text (fault.Findings of findings) is = absurd is
line_output line x text (fault.Refused why) is = absurd is
line_output line x text fault.Output is = refl
line_output line x text fault.OutOfMemory is = absurd is

put_output : {A : Type 0} (line : List ℕ) (x : A) (text : List ℕ) (failures : ℕ) (events : List Event) (f : Fault) (answer : Result A Fault) (closed : Result Unit Fault)
    → TellsLine line x text answer → closes Answers failures text events closed → Err f ≡ and_closed answer closed → f ≡ fault.Output
put_output line x text failures events f (Ok y) (Ok _) says out is = let no : ⊥ = cc in absurd no
put_output line x text failures events f (Ok y) (Err g) says out is = let alike : f ≡ g = cc in let output = closed_output failures text events g out in cc
put_output line x text failures events f (Err g) closed says out is = let alike : f ≡ g = cc in let output = line_output line x text g says in cc

pub prints_output : {A : Type 0} (line : List ℕ) (x : A) (events : List Event) (f : Fault) → prints_put (TellsLine line x) events (Err f) → f ≡ fault.Output
prints_output line x events f is = put_output line x is.text is.failures events f is.answer is.closed is.says is.out is.comes_to

-- ---- the file is made

unnamed_by : {A : Type 0} (name : List ℕ) (answer : Result A Unput) (closed : Result Unit CloseFault) (f : Fault) → ComesTo name answer closed (Err f) → EndsUnnamed (is_ok answer) closed
unnamed_by name (Ok x) (Ok _) f is = let no : ⊥ = cc in absurd no
unnamed_by name (Ok x) (Err why) f is = tt
unnamed_by name (Err unput.File) (Ok _) f is = refl
unnamed_by name (Err unput.File) (Err why) f is = tt
unnamed_by name (Err unput.OutOfMemory) (Ok _) f is = refl
unnamed_by name (Err unput.OutOfMemory) (Err why) f is = tt

none_after : (xs ys : List Event) → ys ≡ [] → LeavesFiles xs → LeavesFiles (xs ++ ys)
none_after xs ys none left = subst (λ (l : List Event). LeavesFiles (xs ++ l)) (sym none) (subst (λ (l : List Event). LeavesFiles l) (sym (append-nil xs)) left)

pub remakes_left : {A : Type 0} (file : WantedFile) (Puts : FileSaying (Result A Unput)) → file.atomic ≡ true → LeavesAt (remakes file Puts)
remakes_left {A} file Puts atomic events f not (Ends g did is) = makes_leave file Puts is_ok events (Err g) atomic tt did
remakes_left file Puts atomic events f not (GoesOn made before after did more is) =
    left_at is (none_after before after more.0 (makes_leave file Puts is_ok before (Ok made) atomic (unnamed_by file.name made.answer made.closed f more.1) did))

-- and the line is printed
last_left : {A : Type 0} (file : WantedFile) (Puts : FileSaying (Result A Unput)) (next : A → Act Told) → file.atomic ≡ true
    → ((x : A) (events : List Event) (f : Fault) → next x events (Err f) → f ≡ fault.Output) → LeavesAt (Then (remakes file Puts) next)
last_left file Puts next atomic output events f not (Ends g did is) = remakes_left file Puts atomic events g (λ same. not (let alike : f ≡ g = cc in cc)) did
last_left file Puts next atomic output events f not (GoesOn x before after did more is) = absurd (not (output x after f more))

pub remade_is_left : RemadeIsLeft
remade_is_left (Decompress asked) events f atomic not did =
    then_left _ _ (takes_looks asked.options.endian asked) (λ (image : List ℕ). then_left _ _ (answers_looks _) (λ told. then_left _ _ (answers_looks _)
    (λ _. last_left asked.output _ _ atomic (λ x events f did. prints_output _ _ events f did)))) events f not did
remade_is_left (Compress asked) events f atomic not did =
    then_left _ _ (takes_looks asked.options.endian asked) (λ (image : List ℕ). then_left _ _ (answers_looks _) (λ nodes. then_left _ _ (answers_looks _)
    (λ _. last_left asked.output _ _ atomic (λ x events f did. prints_output _ _ events f did)))) events f not did
remade_is_left (Apart asked) events f atomic not did =
    then_left _ _ (takes_looks asked.options.endian asked) (λ (image : List ℕ). then_left _ _ (answers_looks _) (λ told. then_left _ _ (answers_looks _) (λ parted. then_left _ _ (answers_looks _)
    (λ _. last_left asked.output _ _ atomic (λ x events f did. prints_output _ _ events f did))))) events f not did
remade_is_left (Compact asked blocks) events f atomic not did =
    then_left _ _ (takes_looks asked.options.endian asked) (λ (image : List ℕ). then_left _ _ (answers_looks _) (λ plan. then_left _ _ (answers_looks _)
    (λ _. last_left asked.output _ _ atomic (λ x events f did. prints_output _ _ events f did)))) events f not did
remade_is_left (CompactApart asked blocks) events f atomic not did =
    then_left _ _ (takes_looks asked.options.endian asked) (λ (image : List ℕ). then_left _ _ (answers_looks _) (λ plan. then_left _ _ (answers_looks _)
    (λ _. last_left asked.output _ _ atomic (λ x events f did. prints_output _ _ events f did)))) events f not did

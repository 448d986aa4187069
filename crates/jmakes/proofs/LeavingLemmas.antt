-- What is left of a file that does not take its name.
use Rattle.std.proofs.Common.{◌≡◌, ℕ, Bool, true, false, List, [], ◌∷◌, ◌++◌, Option, None, Some, Result, Ok, Err, refl, sym, ap, subst, ◌∙◌, inl, inr, append_assoc}
use Rattle.jreport.specs.declared.reason.Reason.{Reason}
use Rattle.jreport.specs.declared.reason.Reason.TheVariants as because
use Rattle.jedge.specs.Acts.{Act, Then, Ends, GoesOn}
use Rattle.jedge.specs.Calls.{Call, Event, Did, Failed, Kind, Meaning, Nothing, Regular, Special, Measure, Open, Read, ReadPart, ReadRegion, PrintJson, Find, Compare, Print, Create, OpenToWrite, Write, Sync, SyncFolder, Rename, Remove, Close, FillFolder, Fill, ReadFolder, LookThrough, Keep}
use Rattle.jedge.specs.Laws.{Happened, IsLooking, LooksOnly}
use Rattle.jedge.specs.declared.fault.Fault.{Fault}
use Rattle.jmakes.specs.Leaving.{AllRemoved, EndsUnnamed, IsOnOwn, IsOwn, IsRemovedIn, IsTriedOnOwn, HasNoName, LeavesFiles, LeavesOthers, own_at, own_of}
use Rattle.jmakes.specs.Making.{AreTaken, Beside, EndsInPlace, EndsNamed, FileMade, FilePlace, FileSaying, GetsNoName, InPlace, IsCallRefused, IsRemoved, IsUndone, IsWrittenInPart, MakesBeside, WantedFile, anew, closes_file, creates, creates_by, filled_to, finds, makes, opens_anew, opens_by, opens_meant, opens_special, puts_out, written_out}
use Rattle.jmakes.specs.declared.wanted.CloseFault.{CloseFault}
use Rattle.jmakes.specs.declared.wanted.CloseFault.TheVariants as close
use Rattle.jmakes.specs.declared.wanted.Filling.{Filling}

-- ---- what is among one's own

abbrev pub IsPartOf : List (List ℕ) → List (List ℕ) → Type 0
IsPartOf own other = (name : List ℕ) → IsOwn name own → IsOwn name other

own_after : (name : List ℕ) (xs ys : List (List ℕ)) → IsOwn name ys → IsOwn name (xs ++ ys)
own_after name [] ys is = is
own_after name (x ∷ xs) ys is = inr (own_after name xs ys is)

part_after : (xs own other : List (List ℕ)) → IsPartOf own other → IsPartOf (xs ++ own) (xs ++ other)
part_after [] own other part name is = part name is
part_after (x ∷ xs) own other part name (inl is) = inl is
part_after (x ∷ xs) own other part name (inr is) = inr (part_after xs own other part name is)

on_more : (own other : List (List ℕ)) (call : Call) → IsPartOf own other → IsOnOwn own call → IsOnOwn other call
on_more own other (Measure name n) part is = tt
on_more own other (Open name) part is = tt
on_more own other (Read name bytes) part is = tt
on_more own other (ReadPart name bytes) part is = tt
on_more own other (ReadRegion region names) part is = tt
on_more own other (PrintJson lines) part is = tt
on_more own other (Find name meaning) part is = tt
on_more own other (Compare name second same) part is = tt
on_more own other (Print stream text) part is = tt
on_more own other (Create name how) part is = is
on_more own other (OpenToWrite name) part is = part name is
on_more own other (Write name bytes) part is = part name is
on_more own other (Sync name) part is = part name is
on_more own other (SyncFolder name) part is = tt
on_more own other (Rename name second) part is = absurd is
on_more own other (Remove name) part is = part name is
on_more own other (Close name) part is = tt
on_more own other (FillFolder name quiet) part is = absurd is
on_more own other (Fill name made) part is = absurd is
on_more own other (ReadFolder name quiet known) part is = tt
on_more own other (LookThrough name) part is = tt
on_more own other (Keep name files) part is = tt

tried_more : (own other : List (List ℕ)) (call : Call) → IsPartOf own other → IsTriedOnOwn own call → IsTriedOnOwn other call
tried_more own other (Measure name n) part is = tt
tried_more own other (Open name) part is = tt
tried_more own other (Read name bytes) part is = tt
tried_more own other (ReadPart name bytes) part is = tt
tried_more own other (ReadRegion region names) part is = tt
tried_more own other (PrintJson lines) part is = tt
tried_more own other (Find name meaning) part is = tt
tried_more own other (Compare name second same) part is = tt
tried_more own other (Print stream text) part is = tt
tried_more own other (Create name how) part is = is
tried_more own other (OpenToWrite name) part is = part name is
tried_more own other (Write name bytes) part is = part name is
tried_more own other (Sync name) part is = part name is
tried_more own other (SyncFolder name) part is = tt
tried_more own other (Rename name second) part is = part name is
tried_more own other (Remove name) part is = part name is
tried_more own other (Close name) part is = tt
tried_more own other (FillFolder name quiet) part is = absurd is
tried_more own other (Fill name made) part is = absurd is
tried_more own other (ReadFolder name quiet known) part is = tt
tried_more own other (LookThrough name) part is = tt
tried_more own other (Keep name files) part is = tt

pub leaves_more : (own other : List (List ℕ)) (events : List Event) → IsPartOf own other → LeavesOthers own events → LeavesOthers other events
leaves_more own other [] part is = tt
leaves_more own other (Did call ∷ events) part is =
    (on_more own other call part is.0, leaves_more (own_of call ++ own) (own_of call ++ other) events (part_after (own_of call) own other part) is.1)
leaves_more own other (Failed call reason ∷ events) part is = (tried_more own other call part is.0, leaves_more own other events part is.1)

-- what is its own behind events
abbrev pub owned : List (List ℕ) → List Event → List (List ℕ)
owned own [] = own
owned own (Did call ∷ events) = owned (own_of call ++ own) events
owned own (Failed call reason ∷ events) = owned own events

pub leaves_both : (own : List (List ℕ)) (xs ys : List Event) → LeavesOthers own xs → LeavesOthers (owned own xs) ys → LeavesOthers own (xs ++ ys)
leaves_both own [] ys one two = two
leaves_both own (Did call ∷ xs) ys one two = (one.0, leaves_both (own_of call ++ own) xs ys one.1 two)
leaves_both own (Failed call reason ∷ xs) ys one two = (one.0, leaves_both own xs ys one.1 two)

owned_both : (own : List (List ℕ)) (xs ys : List Event) → owned own (xs ++ ys) ≡ owned (owned own xs) ys
owned_both own [] ys = refl
owned_both own (Did call ∷ xs) ys = owned_both (own_of call ++ own) xs ys
owned_both own (Failed call reason ∷ xs) ys = owned_both own xs ys

still_own : (own : List (List ℕ)) (xs : List Event) → IsPartOf own (owned own xs)
still_own own [] name is = is
still_own own (Did call ∷ xs) name is = still_own (own_of call ++ own) xs name (own_after name (own_of call) own is)
still_own own (Failed call reason ∷ xs) name is = still_own own xs name is

-- ---- what is removed

pub happened_before : (e : Event) (xs ys : List Event) → Happened e xs → Happened e (xs ++ ys)
happened_before e [] ys did = absurd did
happened_before e (x ∷ xs) ys (inl is) = inl is
happened_before e (x ∷ xs) ys (inr did) = inr (happened_before e xs ys did)

pub happened_after : (e : Event) (xs ys : List Event) → Happened e ys → Happened e (xs ++ ys)
happened_after e [] ys did = did
happened_after e (x ∷ xs) ys did = inr (happened_after e xs ys did)

pub removed_after : (xs ys : List Event) (name : List ℕ) → IsRemovedIn ys name → IsRemovedIn (xs ++ ys) name
removed_after xs ys name (inl did) = inl (happened_after _ xs ys did)
removed_after xs ys name (inr failed) = inr (failed.0, happened_after _ xs ys failed.1)

pub removed_before : (xs ys : List Event) (name : List ℕ) → IsRemovedIn xs name → IsRemovedIn (xs ++ ys) name
removed_before xs ys name (inl did) = inl (happened_before _ xs ys did)
removed_before xs ys name (inr failed) = inr (failed.0, happened_before _ xs ys failed.1)

removed_by : (name : List ℕ) (events : List Event) → IsRemoved name events → IsRemovedIn events name
removed_by name events (inl is) = subst (λ (l : List Event). IsRemovedIn l name) (sym is) (inl (inl refl))
removed_by name events (inr is) = subst (λ (l : List Event). IsRemovedIn l name) (sym is.1) (inr (is.0, inl refl))

-- ---- events that make nothing

-- all of them change what is its own alone, and nothing is made
pub record IsQuiet (own : List (List ℕ)) (events : List Event) : Type 0 where
  pub others : LeavesOthers own events
  pub removed : AllRemoved events

quiet_at : {own : List (List ℕ)} {events other : List Event} → events ≡ other → IsQuiet own other → IsQuiet own events
quiet_at {own} is quiet = subst (λ (l : List Event). IsQuiet own l) (sym is) quiet

all_removed_both : (xs ys : List Event) → AllRemoved xs → AllRemoved ys → AllRemoved (xs ++ ys)
all_removed_both [] ys one two = two
all_removed_both (Did (Measure name n) ∷ xs) ys one two = all_removed_both xs ys one two
all_removed_both (Did (Open name) ∷ xs) ys one two = all_removed_both xs ys one two
all_removed_both (Did (Read name bytes) ∷ xs) ys one two = all_removed_both xs ys one two
all_removed_both (Did (ReadPart name bytes) ∷ xs) ys one two = all_removed_both xs ys one two
all_removed_both (Did (ReadRegion region names) ∷ xs) ys one two = all_removed_both xs ys one two
all_removed_both (Did (PrintJson lines) ∷ xs) ys one two = all_removed_both xs ys one two
all_removed_both (Did (Find name meaning) ∷ xs) ys one two = all_removed_both xs ys one two
all_removed_both (Did (Compare name second same) ∷ xs) ys one two = all_removed_both xs ys one two
all_removed_both (Did (Print stream text) ∷ xs) ys one two = all_removed_both xs ys one two
all_removed_both (Did (Create name how) ∷ xs) ys one two = (removed_before xs ys name one.0, all_removed_both xs ys one.1 two)
all_removed_both (Did (OpenToWrite name) ∷ xs) ys one two = all_removed_both xs ys one two
all_removed_both (Did (Write name bytes) ∷ xs) ys one two = all_removed_both xs ys one two
all_removed_both (Did (Sync name) ∷ xs) ys one two = all_removed_both xs ys one two
all_removed_both (Did (SyncFolder name) ∷ xs) ys one two = all_removed_both xs ys one two
all_removed_both (Did (Rename name other) ∷ xs) ys one two = all_removed_both xs ys one two
all_removed_both (Did (Remove name) ∷ xs) ys one two = all_removed_both xs ys one two
all_removed_both (Did (Close name) ∷ xs) ys one two = all_removed_both xs ys one two
all_removed_both (Did (FillFolder name quiet) ∷ xs) ys one two = all_removed_both xs ys one two
all_removed_both (Did (Fill name made) ∷ xs) ys one two = all_removed_both xs ys one two
all_removed_both (Did (ReadFolder name quiet known) ∷ xs) ys one two = all_removed_both xs ys one two
all_removed_both (Did (LookThrough name) ∷ xs) ys one two = all_removed_both xs ys one two
all_removed_both (Did (Keep name files) ∷ xs) ys one two = all_removed_both xs ys one two
all_removed_both (Failed call reason ∷ xs) ys one two = all_removed_both xs ys one two

pub quiet_both : (own : List (List ℕ)) (xs ys : List Event) → IsQuiet own xs → IsQuiet (owned own xs) ys → IsQuiet own (xs ++ ys)
quiet_both own xs ys one two = record {
  others = leaves_both own xs ys one.others two.others;
  removed = all_removed_both xs ys one.removed two.removed;
}

pub quiet_more : (own other : List (List ℕ)) (events : List Event) → IsPartOf own other → IsQuiet own events → IsQuiet other events
quiet_more own other events part quiet = record { others = leaves_more own other events part quiet.others; removed = quiet.removed }

-- the same of two where the second needs no more than the first had
pub quiet_then : (own : List (List ℕ)) (xs ys : List Event) → IsQuiet own xs → IsQuiet own ys → IsQuiet own (xs ++ ys)
quiet_then own xs ys one two = quiet_both own xs ys one (quiet_more own (owned own xs) ys (still_own own xs) two)

looked_on : (own : List (List ℕ)) (call : Call) → IsLooking call → IsTriedOnOwn own call
looked_on own (Measure name n) is = tt
looked_on own (Open name) is = tt
looked_on own (Read name bytes) is = tt
looked_on own (ReadPart name bytes) is = tt
looked_on own (ReadRegion region names) is = tt
looked_on own (PrintJson lines) is = tt
looked_on own (Find name meaning) is = tt
looked_on own (Compare name other same) is = tt
looked_on own (Print stream text) is = tt
looked_on own (Create name how) is = absurd is
looked_on own (OpenToWrite name) is = absurd is
looked_on own (Write name bytes) is = absurd is
looked_on own (Sync name) is = absurd is
looked_on own (SyncFolder name) is = absurd is
looked_on own (Rename name other) is = absurd is
looked_on own (Remove name) is = absurd is
looked_on own (Close name) is = absurd is
looked_on own (FillFolder name quiet) is = absurd is
looked_on own (Fill name made) is = absurd is
looked_on own (ReadFolder name quiet known) is = tt
looked_on own (LookThrough name) is = tt
looked_on own (Keep name files) is = tt

did_quiet : (own : List (List ℕ)) (call : Call) (events : List Event) → IsLooking call → IsQuiet (own_of call ++ own) events → IsQuiet own (Did call ∷ events)
did_quiet own (Measure name n) events is quiet = record { others = (tt, quiet.others); removed = quiet.removed }
did_quiet own (Open name) events is quiet = record { others = (tt, quiet.others); removed = quiet.removed }
did_quiet own (Read name bytes) events is quiet = record { others = (tt, quiet.others); removed = quiet.removed }
did_quiet own (ReadPart name bytes) events is quiet = record { others = (tt, quiet.others); removed = quiet.removed }
did_quiet own (ReadRegion region names) events is quiet = record { others = (tt, quiet.others); removed = quiet.removed }
did_quiet own (PrintJson lines) events is quiet = record { others = (tt, quiet.others); removed = quiet.removed }
did_quiet own (Find name meaning) events is quiet = record { others = (tt, quiet.others); removed = quiet.removed }
did_quiet own (Compare name other same) events is quiet = record { others = (tt, quiet.others); removed = quiet.removed }
did_quiet own (Print stream text) events is quiet = record { others = (tt, quiet.others); removed = quiet.removed }
did_quiet own (Create name how) events is quiet = absurd is
did_quiet own (OpenToWrite name) events is quiet = absurd is
did_quiet own (Write name bytes) events is quiet = absurd is
did_quiet own (Sync name) events is quiet = absurd is
did_quiet own (SyncFolder name) events is quiet = absurd is
did_quiet own (Rename name other) events is quiet = absurd is
did_quiet own (Remove name) events is quiet = absurd is
did_quiet own (Close name) events is quiet = absurd is
did_quiet own (FillFolder name quiet) events is quiet' = absurd is
did_quiet own (Fill name made) events is quiet = absurd is
did_quiet own (ReadFolder name silent known) events is quiet = record { others = (tt, quiet.others); removed = quiet.removed }
did_quiet own (LookThrough name) events is quiet = record { others = (tt, quiet.others); removed = quiet.removed }
did_quiet own (Keep name files) events is quiet = record { others = (tt, quiet.others); removed = quiet.removed }

-- events that only look are quiet
pub looks_quiet : (own : List (List ℕ)) (events : List Event) → LooksOnly events → IsQuiet own events
looks_quiet own [] is = record { others = tt; removed = tt }
looks_quiet own (Did call ∷ events) is = did_quiet own call events is.0 (looks_quiet (own_of call ++ own) events is.1)
looks_quiet own (Failed call reason ∷ events) is = let rest = looks_quiet own events is.1 in record { others = (looked_on own call is.0, rest.others); removed = rest.removed }

mine : (name : List ℕ) → IsOwn name (name ∷ [])
mine name = inl refl

-- ---- a file is written and ends

wrote_quiet : (name text : List ℕ) → IsQuiet (name ∷ []) (written_out name text)
wrote_quiet name [] = record { others = tt; removed = tt }
wrote_quiet name (b ∷ bytes) = record { others = (mine name, tt); removed = tt }

part_quiet : (name text : List ℕ) (reason : Reason) (events : List Event) → IsWrittenInPart name text reason events → IsQuiet (name ∷ []) events
part_quiet name text reason events is = quiet_at is.happened (quiet_then (name ∷ []) (written_out name is.begun) _ (wrote_quiet name is.begun) (record { others = (mine name, tt); removed = tt }))

gone_quiet : (name : List ℕ) (events : List Event) → IsRemoved name events → IsQuiet (name ∷ []) events
gone_quiet name events (inl is) = quiet_at is (record { others = (mine name, tt); removed = tt })
gone_quiet name events (inr is) = quiet_at is.1 (record { others = (mine name, tt); removed = tt })

in_place_quiet : (name : List ℕ) (failures : ℕ) (text : List ℕ) (events : List Event) (closed : Result Unit CloseFault) → EndsInPlace name failures text events closed → IsQuiet (name ∷ []) events
in_place_quiet name failures text events (Ok _) is = quiet_at is.1 (wrote_quiet name text)
in_place_quiet name failures text events (Err (close.NotWritten reason)) is = part_quiet name text reason events is
in_place_quiet name failures text events (Err (close.NotNamed reason)) is = absurd is

-- a new file ends without a name, and is removed
pub record IsGone (name : List ℕ) (events : List Event) : Type 0 where
  pub quiet : IsQuiet (name ∷ []) events
  pub gone : IsRemovedIn events name

gone_at : {name : List ℕ} {events other : List Event} → events ≡ other → IsGone name other → IsGone name events
gone_at {name} is gone = subst (λ (l : List Event). IsGone name l) (sym is) gone

then_gone : (name : List ℕ) (first last : List Event) → IsQuiet (name ∷ []) first → IsRemoved name last → IsGone name (first ++ last)
then_gone name first last quiet removed = record {
  quiet = quiet_then (name ∷ []) first last quiet (gone_quiet name last removed);
  gone = removed_after first last name (removed_by name last removed);
}

no_name_quiet : (name target : List ℕ) (reason : Reason) (events : List Event) → GetsNoName name target reason events → IsGone name events
no_name_quiet name target reason events is = elim is.fails [
  | inl first ↦ gone_at (is.happened ∙ ap (λ (l : List Event). l ++ is.last) first) (then_gone name (Failed (Sync name) reason ∷ []) is.last (record { others = (mine name, tt); removed = tt }) is.removed)
  | inr first ↦ gone_at (is.happened ∙ ap (λ (l : List Event). l ++ is.last) first) (then_gone name (Did (Sync name) ∷ Failed (Rename name target) reason ∷ []) is.last (record { others = (mine name, (mine name, tt)); removed = tt }) is.removed)
]

named_gone : (name target : List ℕ) (failures : ℕ) (text : List ℕ) (events : List Event) (f : CloseFault) → EndsNamed name target failures text events (Err f) → IsGone name events
named_gone name target failures text events (close.NotWritten reason) is =
    gone_at is.4 (then_gone name is.0 is.1 (part_quiet name text reason is.0 is.2) is.3)
named_gone name target failures text events (close.NotNamed reason) is =
    let none = no_name_quiet name target reason is.1.0 is.1.1 in
    gone_at is.1.2 (record {
      quiet = quiet_then (name ∷ []) (written_out name text) is.1.0 (wrote_quiet name text) none.quiet;
      gone = removed_after (written_out name text) is.1.0 name none.gone;
    })

beside_gone : (name target : List ℕ) (to : Option Filling) (well : Bool) (failures : ℕ) (text : List ℕ) (events : List Event) (closed : Result Unit CloseFault)
    → EndsUnnamed well closed → closes_file (Beside name target) to well failures text events (Ok closed) → IsGone name events
beside_gone name target to true failures text events (Ok _) not is = let no : ⊥ = cc in absurd no
beside_gone name target to true failures text events (Err f) not is = named_gone name target failures (filled_to to text) events f is
beside_gone name target to false failures text events closed not is =
    gone_at is.happened (then_gone name is.first is.last (in_place_quiet name failures text is.first closed is.ends) is.removed)

special_quiet : (name : List ℕ) (to : Option Filling) (well : Bool) (failures : ℕ) (text : List ℕ) (events : List Event) (closed : Result Unit CloseFault)
    → closes_file (InPlace name) to well failures text events (Ok closed) → IsQuiet (name ∷ []) events
special_quiet name to true failures text events closed is = in_place_quiet name failures (filled_to to text) events closed is
special_quiet name to false failures text events closed is = in_place_quiet name failures text events closed is

-- ---- a file is opened

taken_quiet : (own : List (List ℕ)) (kind : Kind) (events : List Event) → ((n : List ℕ) → IsOnOwn own (Create n (anew kind))) → AreTaken kind events → IsQuiet own events
taken_quiet own kind [] new is = record { others = tt; removed = tt }
taken_quiet own kind (event ∷ events) new is = let rest = taken_quiet own kind events new is.1 in
    quiet_at (ap (λ (e : Event). e ∷ events) is.0.1) (record { others = (new is.0.0, rest.others); removed = rest.removed })

anew_exclusive : (kind : Kind) (own : List (List ℕ)) (n : List ℕ) → IsOnOwn own (Create n (anew kind))
anew_exclusive Nothing own n = refl
anew_exclusive Regular own n = refl
anew_exclusive Special own n = refl

undone_quiet : (kind : Kind) (own : List (List ℕ)) (events : List Event) → IsUndone kind events → IsQuiet own events
undone_quiet kind own events (inl is) = quiet_at is (record { others = tt; removed = tt })
undone_quiet kind own events (inr is) = let gone = gone_quiet is.0 is.1 is.2 in
    quiet_at is.3 (record {
      others = (anew_exclusive kind own is.0, leaves_more (is.0 ∷ []) (is.0 ∷ own) is.1 (λ name (own : IsOwn name (is.0 ∷ [])). elim own [ inl it ↦ inl it | inr none ↦ absurd none ]) gone.others);
      removed = (removed_by is.0 is.1 is.2, gone.removed);
    })

not_beside_quiet : (name : List ℕ) (kind : Kind) (target : List ℕ) (own : List (List ℕ)) (events : List Event) (f : Fault) → MakesBeside name kind target events (Err f) → IsQuiet own events
not_beside_quiet name kind target own events f (inl is) = quiet_at is.1.3 (record { others = (anew_exclusive kind own is.0, tt); removed = tt })
not_beside_quiet name kind target own events f (inr is) = undone_quiet kind own events is.1

-- nothing is left of a file that was not opened
abbrev pub IsUnopened : {A : Type 0} → Act A → Type 0
IsUnopened act = (events : List Event) (f : Fault) → act events (Err f) → IsQuiet [] events

pub unopened_after : {A B : Type 0} (first : Act A) (next : A → Act B) → ((events : List Event) (r : Result A Fault) → first events r → IsQuiet [] events) → ((a : A) → IsUnopened (next a)) → IsUnopened (Then first next)
unopened_after first next one two events f (Ends g did is) = one events (Err g) did
unopened_after first next one two events f (GoesOn a before after did more is) =
    quiet_at is (quiet_then [] before after (one before (Ok a) did) (two a after f more))

finds_quiet : (name : List ℕ) (events : List Event) (r : Result Meaning Fault) → finds name events r → IsQuiet [] events
finds_quiet name events (Ok meaning) is = quiet_at is (record { others = (tt, tt); removed = tt })
finds_quiet name events (Err f) is = quiet_at is.1 (record { others = tt; removed = tt })

anew_unopened : (name : List ℕ) (kind : Kind) (target : List ℕ) → IsUnopened (opens_anew name kind target)
anew_unopened name kind target events f is =
    quiet_at is.all (quiet_then [] is.tried is.last (taken_quiet [] kind is.tried (anew_exclusive kind []) is.taken) (not_beside_quiet name kind target [] is.last f is.made))

-- A file that is opened, by its events before: it is one's own, and nothing else is left where that
-- is removed behind them.
abbrev pub file_at : FilePlace → List ℕ
file_at (InPlace name) = name
file_at (Beside other target) = other

abbrev pub IsDoneWith : FilePlace → List Event → Type 0
IsDoneWith (InPlace name) after = Unit {0}
IsDoneWith (Beside other target) after = IsRemovedIn after other

pub record IsOpenedOn (own : List (List ℕ)) (before : List Event) (place : FilePlace) : Type 0 where
  pub others : LeavesOthers own before
  pub mine : IsOwn (file_at place) (owned own before)
  pub removed : (after : List Event) → IsDoneWith place after → AllRemoved after → AllRemoved (before ++ after)

opened_at : {own : List (List ℕ)} {before other : List Event} {place : FilePlace} → before ≡ other → IsOpenedOn own other place → IsOpenedOn own before place
opened_at {own} {place} is opened = subst (λ (l : List Event). IsOpenedOn own l place) (sym is) opened

opened_after : (own : List (List ℕ)) (first last : List Event) (place : FilePlace) → IsQuiet own first → IsOpenedOn (owned own first) last place → IsOpenedOn own (first ++ last) place
opened_after own first last place quiet opened = record {
  others = leaves_both own first last quiet.others opened.others;
  mine = subst (λ (l : List (List ℕ)). IsOwn (file_at place) l) (sym (owned_both own first last)) opened.mine;
  removed = λ (after : List Event) done all. subst (λ (l : List Event). AllRemoved l) (sym (append_assoc first last after)) (all_removed_both first (last ++ after) quiet.removed (opened.removed after done all));
}

beside_opened : (name : List ℕ) (kind : Kind) (target : List ℕ) (own : List (List ℕ)) (events : List Event) (place : FilePlace) → MakesBeside name kind target events (Ok place) → IsOpenedOn own events place
beside_opened name kind target own events place is = opened_at is.3 (subst (λ (p : FilePlace). IsOpenedOn own (Did (Create is.0 (anew kind)) ∷ []) p) (sym is.2) (record {
  others = (anew_exclusive kind own is.0, tt);
  mine = inl refl;
  removed = λ (after : List Event) done all. (done, all);
}))

anew_opened : (name : List ℕ) (kind : Kind) (target : List ℕ) (own : List (List ℕ)) (events : List Event) (place : FilePlace) → opens_anew name kind target events (Ok place) → IsOpenedOn own events place
anew_opened name kind target own events place is =
    opened_at is.all (opened_after own is.tried is.last place (taken_quiet own kind is.tried (anew_exclusive kind own) is.taken) (beside_opened name kind target (owned own is.tried) is.last place is.made))

meant_opened : (name target : List ℕ) (kind : Kind) (first last : List Event) (place : FilePlace)
    → first ≡ Did (Find name (record { target = target; kind = kind })) ∷ [] → opens_by name target kind last (Ok place) → IsOpenedOn [] (first ++ last) place
meant_opened name target Nothing first last place found is = opened_at (ap (λ (l : List Event). l ++ last) found)
    (opened_after [] (Did (Find name (record { target = target; kind = Nothing })) ∷ []) last place (record { others = (tt, tt); removed = tt }) (anew_opened name Nothing target [] last place is))
meant_opened name target Regular first last place found is = opened_at (ap (λ (l : List Event). l ++ last) found)
    (opened_after [] (Did (Find name (record { target = target; kind = Regular })) ∷ []) last place (record { others = (tt, tt); removed = tt }) (anew_opened name Regular target [] last place is))
meant_opened name target Special first last place found is = opened_at (ap (λ (l : List Event). l ++ last) found ∙ ap (λ (l : List Event). Did (Find name (record { target = target; kind = Special })) ∷ l) is.1)
    (subst (λ (p : FilePlace). IsOpenedOn [] (Did (Find name (record { target = target; kind = Special })) ∷ Did (OpenToWrite target) ∷ []) p) (sym is.0) (record {
      others = (tt, (inl refl, tt));
      mine = inl refl;
      removed = λ (after : List Event) done all. all;
    }))

-- a fault: of a device the call may have been done, when memory ran out
special_unopened : (name target : List ℕ) (first events : List Event) (f : Fault)
    → first ≡ Did (Find name (record { target = target; kind = Special })) ∷ [] → opens_special name target events (Err f) → IsQuiet [] (first ++ events)
special_unopened name target first events f found (inl is) = quiet_at (ap (λ (l : List Event). l ++ events) found ∙ ap (λ (l : List Event). Did (Find name (record { target = target; kind = Special })) ∷ l) is.3)
    (record { others = (tt, (inl refl, tt)); removed = tt })
special_unopened name target first events f found (inr is) = elim is.1 [
  | inl none ↦ quiet_at (ap (λ (l : List Event). l ++ events) found ∙ ap (λ (l : List Event). Did (Find name (record { target = target; kind = Special })) ∷ l) none) (record { others = (tt, tt); removed = tt })
  | inr did ↦ quiet_at (ap (λ (l : List Event). l ++ events) found ∙ ap (λ (l : List Event). Did (Find name (record { target = target; kind = Special })) ∷ l) did) (record { others = (tt, (inl refl, tt)); removed = tt })
]

meant_unopened : (name target : List ℕ) (kind : Kind) (first last : List Event) (f : Fault)
    → first ≡ Did (Find name (record { target = target; kind = kind })) ∷ [] → opens_by name target kind last (Err f) → IsQuiet [] (first ++ last)
meant_unopened name target Nothing first last f found is = quiet_at (ap (λ (l : List Event). l ++ last) found)
    (quiet_then [] (Did (Find name (record { target = target; kind = Nothing })) ∷ []) last (record { others = (tt, tt); removed = tt }) (anew_unopened name Nothing target last f is))
meant_unopened name target Regular first last f found is = quiet_at (ap (λ (l : List Event). l ++ last) found)
    (quiet_then [] (Did (Find name (record { target = target; kind = Regular })) ∷ []) last (record { others = (tt, tt); removed = tt }) (anew_unopened name Regular target last f is))
meant_unopened name target Special first last f found is = special_unopened name target first last f found is

creates_opened : (name : List ℕ) (events : List Event) (place : FilePlace) → creates_by true name events (Ok place) → IsOpenedOn [] events place
creates_opened name events place (Ends f did is) = let no : ⊥ = cc in absurd no
creates_opened name events place (GoesOn meaning before after did more is) = opened_at is (meant_opened name meaning.target meaning.kind before after place did more)

creates_unopened : (name : List ℕ) → IsUnopened (creates_by true name)
creates_unopened name events f (Ends g did is) = finds_quiet name events (Err g) did
creates_unopened name events f (GoesOn meaning before after did more is) = quiet_at is (meant_unopened name meaning.target meaning.kind before after f did more)

-- ---- all

only_own : (name x : List ℕ) (own : List (List ℕ)) → IsOwn x own → IsOwn name (x ∷ []) → IsOwn name own
only_own name x own mine (inl is) = subst (λ (n : List ℕ). IsOwn n own) is mine
only_own name x own mine (inr none) = absurd none

closed_leaves : (place : FilePlace) (to : Option Filling) (well : Bool) (failures : ℕ) (text : List ℕ) (before after : List Event) (closed : Result Unit CloseFault)
    → IsOpenedOn [] before place → EndsUnnamed well closed → closes_file place to well failures text after (Ok closed) → LeavesFiles (before ++ after)
closed_leaves (InPlace name) to well failures text before after closed opened not is =
    let quiet = special_quiet name to well failures text after closed is in record {
      others = leaves_both [] before after opened.others (leaves_more (name ∷ []) (owned [] before) after (λ n own. only_own n name (owned [] before) opened.mine own) quiet.others);
      removed = opened.removed after tt quiet.removed;
    }
closed_leaves (Beside other target) to well failures text before after closed opened not is =
    let gone = beside_gone other target to well failures text after closed not is in record {
      others = leaves_both [] before after opened.others (leaves_more (other ∷ []) (owned [] before) after (λ n own. only_own n other (owned [] before) opened.mine own) gone.quiet.others);
      removed = opened.removed after gone.gone gone.quiet.removed;
    }

out_leaves : {A : Type 0} (Puts : FileSaying A) (IsWell : A → Bool) (to : Option Filling) (place : FilePlace) (before after : List Event) (result : Result (FileMade A) Fault)
    → IsOpenedOn [] before place → HasNoName IsWell result → puts_out Puts IsWell to place after result → LeavesFiles (before ++ after)
out_leaves Puts IsWell to place before after (Ok made) opened not out =
    let same : made ≡ out.made = cc in
    closed_leaves place to (IsWell out.made.answer) out.failures out.text before after out.made.closed opened (subst (λ (m : FileMade _). EndsUnnamed (IsWell m.answer) m.closed) same not) out.ends
out_leaves Puts IsWell to place before after (Err f) opened not out = let no : ⊥ = (let is = out.is in cc) in absurd no

makes_leave_by : {A : Type 0} (name : List ℕ) (Puts : FileSaying A) (IsWell : A → Bool) (to : Option Filling) (events : List Event) (result : Result (FileMade A) Fault)
    → HasNoName IsWell result → Then (creates_by true name) (puts_out Puts IsWell to) events result → LeavesFiles events
makes_leave_by name Puts IsWell to events result not (Ends f did is) = let quiet = creates_unopened name events f did in record { others = quiet.others; removed = quiet.removed }
makes_leave_by name Puts IsWell to events result not (GoesOn place before after did more is) =
    subst (λ (l : List Event). LeavesFiles l) (sym is) (out_leaves Puts IsWell to place before after result (creates_opened name before place did) not more)

-- An atomic file that did not take its name left nothing behind.
pub makes_leave : {A : Type 0} (file : WantedFile) (Puts : FileSaying A) (IsWell : A → Bool) (events : List Event) (result : Result (FileMade A) Fault)
    → file.atomic ≡ true → HasNoName IsWell result → makes file Puts IsWell events result → LeavesFiles events
makes_leave file Puts IsWell events result atomic not is =
    makes_leave_by file.name Puts IsWell file.filling events result not
    (subst (λ (b : Bool). Then (creates_by b file.name) (puts_out Puts IsWell file.filling) events result) atomic is)

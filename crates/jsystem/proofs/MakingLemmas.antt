-- Files that are made by a host that tells nothing.
use Rattle.std.proofs.Common.{◌≡◌, ◌≢◌, ◌++◌, ℕ, Bool, true, false, List, [], ◌∷◌, Option, Some, None, Result, Ok, Err, inl, inr, refl}
use Rattle.std.specs.Prelude.{IfErr, IsOk, IsTrue, OnOk}
use Rattle.std.specs.declared.io.ErrorKind.{ErrorKind}
use Rattle.jreport.specs.declared.reason.Reason.{Reason}
use Rattle.jedge.specs.Acts.{DoesFrom, Ends, GoesOn}
use Rattle.jedge.specs.Calls.{Create, Did, Event, Failed, Find, Meaning, Nothing, OpenToWrite, Regular, Remove, Rename, Special, Sync, SyncFolder, Write}
use Rattle.jedge.specs.declared.fault.Fault.{Fault}
use Rattle.jedge.specs.declared.fault.Fault.TheVariants as fault
use Rattle.jmakes.specs.Making.{Beside, EndsInPlace, EndsNamed, EndsRemoved, FilePlace, InPlace, IsWrittenInPart, WantedFile, anew, closes_file, creates, creates_by, filled_to, over, written_out}
use Rattle.jmakes.specs.declared.wanted.CloseFault.{CloseFault}
use Rattle.jmakes.specs.declared.wanted.CloseFault.TheVariants as close
use Rattle.jmakes.specs.declared.wanted.Filling.{Filling}
use Rattle.jsystem.specs.Places.{EndsBy, IsAside, IsNameless, IsNamedOrNameless, IsPlaceBy, IsWantedPlace, closed_by}
use Rattle.jsystem.specs.Failing.{FailsMaking}
use Rattle.jsystem.proofs.UntoldLemmas.{untold}

-- ---- a file is opened

pub no_memory_to_make : (file : WantedFile) → DoesFrom None None (creates file) (Err fault.OutOfMemory)
no_memory_to_make file = by file.atomic
  where
    by : (atomic : Bool) → DoesFrom None None (creates_by atomic file.name) (Err fault.OutOfMemory)
    by true = untold [] (Ends fault.OutOfMemory (refl, refl) refl)
    by false = untold [] (inr (refl, inl refl))

pub not_made : (file : WantedFile) (kind : ErrorKind) (f : Fault) → FailsMaking file.name kind f → DoesFrom None None (creates file) (Err f)
not_made file kind f (inr none) = rw none (no_memory_to_make file)
not_made file kind f (inl is) = by file.atomic
  where
    refused : List Event
    refused = Failed (Create [] (anew Nothing)) is.0.reason ∷ []

    meaning : Meaning
    meaning = record { target = file.name; kind = Nothing }

    by : (atomic : Bool) → DoesFrom None None (creates_by atomic file.name) (Err f)
    by false = untold (Failed (Create file.name over) is.0.reason ∷ []) (inl (is.0, is.1, is.2, refl))
    by true = untold (Did (Find file.name meaning) ∷ refused)
        (GoesOn meaning (Did (Find file.name meaning) ∷ []) refused refl (record {
          tried = [];
          last = refused;
          taken = tt;
          made = inl ([], (is.0, is.1, is.2, refl));
          all = refl;
        }) refl)

pub made_at : (file : WantedFile) (place : FilePlace) → IsWantedPlace file place → DoesFrom None None (creates file) (Ok place)
made_at file place is = by file.atomic place is
  where
    by : (atomic : Bool) (at : FilePlace) → IsPlaceBy atomic file.name at → DoesFrom None None (creates_by atomic file.name) (Ok at)
    by false at is = untold (Did (Create file.name over) ∷ []) (is, refl)
    by true (InPlace name) is =
        let meaning : Meaning = record { target = name; kind = Special } in
        untold (Did (Find file.name meaning) ∷ Did (OpenToWrite name) ∷ []) (GoesOn meaning (Did (Find file.name meaning) ∷ []) (Did (OpenToWrite name) ∷ []) refl (refl, refl) refl)
    by true (Beside other target) is =
        let meaning : Meaning = record { target = target; kind = Nothing } in
        let made : List Event = Did (Create other (anew Nothing)) ∷ [] in
        untold (Did (Find file.name meaning) ∷ made) (GoesOn meaning (Did (Find file.name meaning) ∷ []) made refl (record {
          tried = [];
          last = made;
          taken = tt;
          made = (other, is, refl, refl);
          all = refl;
        }) refl)

-- ---- it ends

-- nothing of a text goes out
none_written : (name text : List ℕ) (reason : Reason) → IsWrittenInPart name text reason (Failed (Write name []) reason ∷ [])
none_written name text reason = record { begun = []; left = text; rest = []; of = refl; happened = refl }

-- a file that is written in its place
in_place_by : (name : List ℕ) (failures : ℕ) (text : List ℕ) (well : Bool) (written : Result Unit Reason) (closed : Result Unit CloseFault)
    → OnOk written (failures ≡ 0) → EndsBy (InPlace name) well written closed → (events : List Event) × EndsInPlace name failures text events closed
in_place_by name failures text well (Ok _) closed sound is = rw is (written_out name text, (sound, refl))
in_place_by name failures text well (Err reason) closed sound is = rw is (Failed (Write name []) reason ∷ [], none_written name text reason)

-- a new one
named_by : (other target : List ℕ) (failures : ℕ) (text : List ℕ) (written : Result Unit Reason) (closed : Result Unit CloseFault)
    → OnOk written (failures ≡ 0) → EndsBy (Beside other target) true written closed → (events : List Event) × EndsNamed other target failures text events closed
named_by other target failures text (Ok _) (Ok _) sound is =
    let last : List Event = Did (SyncFolder target) ∷ [] in
    let named = Did (Sync other) ∷ Did (Rename other target) ∷ last in
    (written_out other text ++ named, (sound, (named, record { last = last; synced = inl refl; happened = refl }, refl)))
named_by other target failures text (Ok _) (Err (close.NotWritten reason)) sound is = absurd is
named_by other target failures text (Ok _) (Err (close.NotNamed reason)) sound is =
    let first : List Event = Failed (Sync other) reason ∷ [] in
    let last : List Event = Did (Remove other) ∷ [] in
    (written_out other text ++ (first ++ last), (sound, (first ++ last, record { first = first; last = last; fails = inl refl; removed = inl refl; happened = refl }, refl)))
named_by other target failures text (Err reason) closed sound is =
    let first : List Event = Failed (Write other []) reason ∷ [] in
    let last : List Event = Did (Remove other) ∷ [] in
    rw is (first ++ last, (first, last, none_written other text reason, inl refl, refl))

-- one that is not wanted any more
removed_by : (other target : List ℕ) (failures : ℕ) (text : List ℕ) (written : Result Unit Reason) (closed : Result Unit CloseFault)
    → OnOk written (failures ≡ 0) → EndsBy (Beside other target) false written closed → (events : List Event) × EndsRemoved other failures text events closed
removed_by other target failures text (Ok _) closed sound is =
    let last : List Event = Did (Remove other) ∷ [] in
    rw is (written_out other text ++ last, record { first = written_out other text; last = last; ends = (sound, refl); removed = inl refl; happened = refl })
removed_by other target failures text (Err reason) closed sound is =
    let first : List Event = Failed (Write other []) reason ∷ [] in
    let last : List Event = Did (Remove other) ∷ [] in
    rw is (first ++ last, record { first = first; last = last; ends = none_written other text reason; removed = inl refl; happened = refl })

pub closes_by : (place : FilePlace) (to : Option Filling) (well : Bool) (failures : ℕ) (text : List ℕ) (written : Result Unit Reason) (closed : Result Unit CloseFault)
    → OnOk written (failures ≡ 0) → EndsBy place well written closed → DoesFrom None None (closes_file place to well failures text) (Ok closed)
closes_by (InPlace name) to true failures text written closed sound is =
    let ends = in_place_by name failures (filled_to to text) true written closed sound is in untold ends.0 ends.1
closes_by (InPlace name) to false failures text written closed sound is =
    let ends = in_place_by name failures text false written closed sound is in untold ends.0 ends.1
closes_by (Beside other target) to true failures text written closed sound is =
    let ends = named_by other target failures (filled_to to text) written closed sound is in untold ends.0 ends.1
closes_by (Beside other target) to false failures text written closed sound is =
    let ends = removed_by other target failures text written closed sound is in untold ends.0 ends.1

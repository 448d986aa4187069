-- A fault of a file that is made is an event.
use Rattle.std.proofs.Common.{◌≡◌, ◌⊎◌, ℕ, Bool, true, false, List, [], ◌∷◌, ◌++◌, Option, Result, Ok, Err, refl, sym, ap, subst, ◌∙◌, inl, inr}
use Rattle.jreport.specs.declared.reason.Reason.{Reason}
use Rattle.jedge.specs.Acts.{Then, Ends, GoesOn}
use Rattle.jedge.specs.Calls.{Call, Event, Did, Failed, Kind, Nothing, Regular, Special, Create, Find, OpenToWrite, Rename, Sync, Write}
use Rattle.jedge.specs.Laws.{Happened}
use Rattle.jedge.specs.declared.fault.Fault.{Fault}
use Rattle.jedge.specs.declared.fault.Fault.TheVariants as fault
use Rattle.jmakes.specs.Blaming.{HasFailedMaking, HasFailedWriting, IsEndBlamed, IsFileBlamed, IsMaking}
use Rattle.jmakes.specs.Making.{Beside, EndsInPlace, EndsNamed, FileMade, FilePlace, FileSaying, GetsNoName, InPlace, IsCallRefused, IsWrittenInPart, MakesBeside, WantedFile, anew, closes_file, creates_by, filled_to, makes, opens_anew, opens_by, opens_over, opens_special, over, puts_out, written_out}
use Rattle.jmakes.specs.declared.wanted.CloseFault.{CloseFault}
use Rattle.jmakes.specs.declared.wanted.CloseFault.TheVariants as close
use Rattle.jmakes.specs.declared.wanted.Filling.{Filling}
use Rattle.jmakes.proofs.LeavingLemmas.{happened_after, happened_before}

-- ---- a file is opened

-- the file of a name is blamed, or memory ran out
abbrev pub IsUncreated : List ℕ → Fault → List Event → Type 0
IsUncreated name f events = IsFileBlamed name f events ⊎ (f ≡ fault.OutOfMemory)

call_blamed : (name : List ℕ) (call : Call) (events : List Event) (f : Fault) → IsMaking call → IsCallRefused name call events f → IsFileBlamed name f events
call_blamed name call events f making is =
    (is.0, is.1, is.2, (call, making, subst (λ (l : List Event). Happened (Failed call is.0.reason) l) (sym is.3) (inl refl)))

blamed_after : (name : List ℕ) (f : Fault) (xs ys : List Event) → IsUncreated name f ys → IsUncreated name f (xs ++ ys)
blamed_after name f xs ys (inl is) = inl (is.0, is.1, is.2, (is.3.0, is.3.1, happened_after _ xs ys is.3.2))
blamed_after name f xs ys (inr is) = inr is

uncreated_at : {name : List ℕ} {f : Fault} {events other : List Event} → events ≡ other → IsUncreated name f other → IsUncreated name f events
uncreated_at {name} {f} is blamed = subst (λ (l : List Event). IsUncreated name f l) (sym is) blamed

over_blamed : (name : List ℕ) (events : List Event) (f : Fault) → opens_over name events (Err f) → IsUncreated name f events
over_blamed name events f (inl is) = inl (call_blamed name (Create name over) events f tt is)
over_blamed name events f (inr is) = inr is.0

beside_blamed : (name : List ℕ) (kind : Kind) (target : List ℕ) (events : List Event) (f : Fault) → MakesBeside name kind target events (Err f) → IsUncreated name f events
beside_blamed name kind target events f (inl is) = inl (call_blamed name (Create is.0 (anew kind)) events f tt is.1)
beside_blamed name kind target events f (inr is) = inr is.0

anew_blamed : (name : List ℕ) (kind : Kind) (target : List ℕ) (events : List Event) (f : Fault) → opens_anew name kind target events (Err f) → IsUncreated name f events
anew_blamed name kind target events f is = uncreated_at is.all (blamed_after name f is.tried is.last (beside_blamed name kind target is.last f is.made))

meant_blamed : (name target : List ℕ) (kind : Kind) (events : List Event) (f : Fault) → opens_by name target kind events (Err f) → IsUncreated name f events
meant_blamed name target Nothing events f is = anew_blamed name Nothing target events f is
meant_blamed name target Regular events f is = anew_blamed name Regular target events f is
meant_blamed name target Special events f (inl is) = inl (call_blamed name (OpenToWrite target) events f tt is)
meant_blamed name target Special events f (inr is) = inr is.0

creates_blamed : (atomic : Bool) (name : List ℕ) (events : List Event) (f : Fault) → creates_by atomic name events (Err f) → IsUncreated name f events
creates_blamed false name events f is = over_blamed name events f is
creates_blamed true name events f (Ends g did is) = let alike : f ≡ g = cc in inr (alike ∙ did.0)
creates_blamed true name events f (GoesOn meaning before after did more is) =
    uncreated_at is (blamed_after name f before after (meant_blamed name meaning.target meaning.kind after f more))

-- no file is made: that is the fault of its name, for which a call failed; or memory ran out
pub makes_blamed : {A : Type 0} (file : WantedFile) (Puts : FileSaying A) (IsWell : A → Bool) (events : List Event) (f : Fault) → makes file Puts IsWell events (Err f) → IsUncreated file.name f events
makes_blamed file Puts IsWell events f (Ends g did is) = let alike : f ≡ g = cc in
    subst (λ (h : Fault). IsUncreated file.name h events) (sym alike) (creates_blamed file.atomic file.name events g did)
makes_blamed file Puts IsWell events f (GoesOn place before after did more is) = let no : ⊥ = (let wrong = more.is in cc) in absurd no

-- ---- a file ends

written_blamed : (reason : Reason) (xs ys : List Event) → HasFailedWriting reason ys → HasFailedWriting reason (xs ++ ys)
written_blamed reason xs ys is = (is.0, is.1, happened_after _ xs ys is.2)

end_after : (closed : Result Unit CloseFault) (xs ys : List Event) → IsEndBlamed closed ys → IsEndBlamed closed (xs ++ ys)
end_after (Ok _) xs ys is = tt
end_after (Err (close.NotWritten reason)) xs ys is = written_blamed reason xs ys is
end_after (Err (close.NotNamed reason)) xs ys is = (is.0, is.1, happened_after _ xs ys is.2)

end_before : (closed : Result Unit CloseFault) (xs ys : List Event) → IsEndBlamed closed xs → IsEndBlamed closed (xs ++ ys)
end_before (Ok _) xs ys is = tt
end_before (Err (close.NotWritten reason)) xs ys is = (is.0, is.1, happened_before _ xs ys is.2)
end_before (Err (close.NotNamed reason)) xs ys is = (is.0, is.1, happened_before _ xs ys is.2)

end_at : (closed : Result Unit CloseFault) {events other : List Event} → events ≡ other → IsEndBlamed closed other → IsEndBlamed closed events
end_at closed is blamed = subst (λ (l : List Event). IsEndBlamed closed l) (sym is) blamed

part_blamed : (name text : List ℕ) (reason : Reason) (events : List Event) → IsWrittenInPart name text reason events → IsEndBlamed (Err (close.NotWritten reason)) events
part_blamed name text reason events is =
    end_at (Err (close.NotWritten reason)) is.happened (end_after (Err (close.NotWritten reason)) (written_out name is.begun) (Failed (Write name is.rest) reason ∷ []) (name, is.rest, inl refl))

in_place_blamed : (name : List ℕ) (failures : ℕ) (text : List ℕ) (events : List Event) (closed : Result Unit CloseFault) → EndsInPlace name failures text events closed → IsEndBlamed closed events
in_place_blamed name failures text events (Ok _) is = tt
in_place_blamed name failures text events (Err (close.NotWritten reason)) is = part_blamed name text reason events is
in_place_blamed name failures text events (Err (close.NotNamed reason)) is = absurd is

no_name_blamed : (other target : List ℕ) (reason : Reason) (events : List Event) → GetsNoName other target reason events → IsEndBlamed (Err (close.NotNamed reason)) events
no_name_blamed other target reason events is = elim is.fails [
  | inl first ↦ end_at (Err (close.NotNamed reason)) is.happened (end_before (Err (close.NotNamed reason)) is.first is.last (Sync other, tt, subst (λ (l : List Event). Happened (Failed (Sync other) reason) l) (sym first) (inl refl)))
  | inr first ↦ end_at (Err (close.NotNamed reason)) is.happened (end_before (Err (close.NotNamed reason)) is.first is.last (Rename other target, tt, subst (λ (l : List Event). Happened (Failed (Rename other target) reason) l) (sym first) (inr (inl refl))))
]

named_blamed : (other target : List ℕ) (failures : ℕ) (text : List ℕ) (events : List Event) (closed : Result Unit CloseFault) → EndsNamed other target failures text events closed → IsEndBlamed closed events
named_blamed other target failures text events (Ok _) is = tt
named_blamed other target failures text events (Err (close.NotWritten reason)) is =
    end_at (Err (close.NotWritten reason)) is.4 (end_before (Err (close.NotWritten reason)) is.0 is.1 (part_blamed other text reason is.0 is.2))
named_blamed other target failures text events (Err (close.NotNamed reason)) is =
    end_at (Err (close.NotNamed reason)) is.1.2 (end_after (Err (close.NotNamed reason)) (written_out other text) is.1.0 (no_name_blamed other target reason is.1.0 is.1.1))

closed_blamed : (place : FilePlace) (to : Option Filling) (well : Bool) (failures : ℕ) (text : List ℕ) (events : List Event) (closed : Result Unit CloseFault) → closes_file place to well failures text events (Ok closed) → IsEndBlamed closed events
closed_blamed (InPlace name) to true failures text events closed is = in_place_blamed name failures (filled_to to text) events closed is
closed_blamed (InPlace name) to false failures text events closed is = in_place_blamed name failures text events closed is
closed_blamed (Beside other target) to true failures text events closed is = named_blamed other target failures (filled_to to text) events closed is
closed_blamed (Beside other target) to false failures text events closed is =
    end_at closed is.happened (end_before closed is.first is.last (in_place_blamed other failures text is.first closed is.ends))

-- a file has not all of its bytes, or not its name: a call failed for that reason
pub made_blamed : {A : Type 0} (file : WantedFile) (Puts : FileSaying A) (IsWell : A → Bool) (events : List Event) (made : FileMade A) → makes file Puts IsWell events (Ok made) → IsEndBlamed made.closed events
made_blamed file Puts IsWell events made (Ends g did is) = let no : ⊥ = cc in absurd no
made_blamed {A} file Puts IsWell events made (GoesOn place before after did more is) =
    let same : more.made ≡ made = (let out = more.is in cc) in
    end_at made.closed is (end_after made.closed before after (subst (λ (m : FileMade A). IsEndBlamed m.closed after) same
    (closed_blamed place file.filling (IsWell more.made.answer) more.failures more.text after more.made.closed more.ends)))

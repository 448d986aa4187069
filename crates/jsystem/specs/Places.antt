-- Where the bytes of a file go that is made, and how it ends.
use Rattle.std.specs.Prelude.{◌≡◌, ◌≢◌, ℕ, Bool, true, false, List, Option, Some, None, Result, Ok, Err, String, string_bytes}
use Rattle.jreport.specs.declared.reason.Reason.{Reason}
use Rattle.jmakes.specs.Making.{FilePlace, InPlace, Beside, WantedFile}
use Rattle.jmakes.specs.declared.wanted.CloseFault.{CloseFault}
use Rattle.jmakes.specs.declared.wanted.CloseFault.TheVariants as close

-- the file of the first name is written; or a new one of the second, which takes the first
abbrev pub file_place : {Y : Type 0} → String Y → Option (String Y) → FilePlace
file_place target None = InPlace (string_bytes target)
file_place target (Some other) = Beside (string_bytes other) (string_bytes target)

-- a new file has another name than that which it takes
abbrev pub IsAside : FilePlace → Type 0
IsAside (InPlace name) = Unit {0}
IsAside (Beside other target) = other ≢ target

-- the file itself is written unless it is to take its name last
abbrev pub IsPlaceBy : Bool → List ℕ → FilePlace → Type 0
IsPlaceBy false name place = place ≡ InPlace name
IsPlaceBy true name place = IsAside place

abbrev pub IsWantedPlace : WantedFile → FilePlace → Type 0
IsWantedPlace file place = IsPlaceBy file.atomic file.name place

-- ---- it ends

-- all of it was written, or that failed
abbrev pub closed_by : {A : Type 0} → Result A Reason → Result Unit CloseFault
closed_by (Ok _) = Ok tt
closed_by (Err reason) = Err (close.NotWritten reason)

-- it has all of its bytes, and not its name
abbrev pub IsNameless : CloseFault → Type 0
IsNameless (close.NotWritten reason) = ⊥
IsNameless (close.NotNamed reason) = Unit {0}

abbrev pub IsNamedOrNameless : Result Unit CloseFault → Type 0
IsNamedOrNameless (Ok _) = Unit {0}
IsNamedOrNameless (Err f) = IsNameless f

-- Only a new file that was written, when all went well, takes a name.
abbrev pub EndsBy : FilePlace → Bool → Result Unit Reason → Result Unit CloseFault → Type 0
EndsBy place well (Err reason) closed = closed ≡ Err (close.NotWritten reason)
EndsBy (InPlace name) well (Ok _) closed = closed ≡ Ok tt
EndsBy (Beside other target) false (Ok _) closed = closed ≡ Ok tt
EndsBy (Beside other target) true (Ok _) closed = IsNamedOrNameless closed

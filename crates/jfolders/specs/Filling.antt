-- A folder that is made and filled: the calls of the host, and what the command answers by them.
use Rattle.std.specs.Prelude.{◌≡◌, ◌⊎◌, ◌++◌, ℕ, Bool, List, [], ◌∷◌, map, IsOk, Option, Some, None, Result, Ok, Err, string_bytes}
use Rattle.jmount.specs.Tree.{State}
use Rattle.jextract.specs.Extracts.{Extracts}
use Rattle.jextract.specs.Folders.{Failures, Made, Directory}
use Rattle.jextract.specs.declared.fault.ExtractFault.{ExtractFault}
use Rattle.jextract.specs.declared.fault.ExtractFault.TheVariants as extract
use Rattle.jextract.specs.declared.totals.Totals.{Totals}
use Rattle.jreport.specs.declared.reason.Reason.{Reason}
use Rattle.jedge.specs.Acts.{Act, Then, answers, closes_errors}
use Rattle.jedge.specs.Calls.{Event, Did, Failed, FillFolder, Fill}
use Rattle.jedge.specs.declared.fault.FailedFile.{FailedFile}
use Rattle.jedge.specs.declared.fault.Fault.{Fault}
use Rattle.jedge.specs.declared.fault.Fault.TheVariants as fault

-- ---- calls

-- it refused nothing yet
abbrev pub none_failed : Failures
none_failed = record { refused = 0; full = 0 }

-- The folder of a name is asked for, to be filled, quietly or not. It refused nothing yet. Or
-- memory for it ran out.
abbrev pub asks_to_fill : List ℕ → Bool → Act Failures
asks_to_fill name quiet events result =
    ((result ≡ Ok none_failed) × (events ≡ Did (FillFolder name quiet) ∷ []))
    ⊎ ((result ≡ Err fault.OutOfMemory) × (events ≡ []))

-- this was made in the folder of a name, in order
abbrev pub fillings : List ℕ → List Made → List Event
fillings name made = map (λ it. Did (Fill name it)) made

-- the folder itself, as it is made
abbrev pub the_folder : Made
the_folder = record { path = []; deed = Directory }

-- the call of the host, if any, by which an extraction ended: the folder itself is not made, or the
-- host has no room for what is still to be made
abbrev pub IsEndOf : List ℕ → Option ExtractFault → Reason → List Event → Type 0
IsEndOf name None reason events = events ≡ []
IsEndOf name (Some extract.Folder) reason events =
    events ≡ Failed (Fill name the_folder) reason ∷ []
IsEndOf name (Some extract.Notes) reason events = events ≡ []
IsEndOf name (Some extract.NoSpace) reason events =
    (what : Made) × (events ≡ Failed (Fill name what) reason ∷ [])
IsEndOf name (Some extract.OutOfMemory) reason events = events ≡ []

-- A folder is given back in which this was made, and the host's last reason is told. An extraction
-- ended by this fault, or by none.
pub record closes_filled (name : List ℕ) (made : List Made) (why : Option ExtractFault)
    (events : List Event) (result : Result Reason Fault) : Type 0 where
  pub reason : Reason
  pub last : List Event
  pub ends : IsEndOf name why reason last
  pub happened : events ≡ fillings name made ++ last
  pub is : result ≡ Ok reason

-- ---- what is answered

-- the folder of this name, for this reason of the host's; there may be no memory for the name
abbrev pub IsOfFolder : List ℕ → Reason → Fault → Type 0
IsOfFolder name reason f =
    ((file : FailedFile) × (f ≡ fault.File file) × (string_bytes file.name ≡ name)
    × (file.reason ≡ reason))
    ⊎ (f ≡ fault.OutOfMemory)

-- the host has no room for what is still to be made in it
abbrev pub IsFolderFull : List ℕ → Fault → Type 0
IsFolderFull name f = ((folder : _) × (f ≡ fault.NoSpace folder) × (string_bytes folder ≡ name))
    ⊎ (f ≡ fault.OutOfMemory)

-- why an extraction ended, as the command ends by it
abbrev pub IsFillingFault : List ℕ → Reason → ExtractFault → Fault → Type 0
IsFillingFault name reason extract.Folder f = IsOfFolder name reason f
IsFillingFault name reason extract.Notes f = f ≡ fault.Output
IsFillingFault name reason extract.NoSpace f = IsFolderFull name f
IsFillingFault name reason extract.OutOfMemory f = f ≡ fault.OutOfMemory

abbrev pub IsFilled : List ℕ → Reason → Result Totals ExtractFault → Result Totals Fault → Type 0
IsFilled name reason (Ok totals) result = result ≡ Ok totals
IsFilled name reason (Err why) result = (f : Fault) × (result ≡ Err f)
    × IsFillingFault name reason why f

abbrev pub stop_of : {A F : Type 0} → Result A F → Option F
stop_of (Ok x) = None
stop_of (Err why) = Some why

-- ---- the act

-- A text that standard error took, which failed so often, is printed there, or a beginning of it
-- is. The command goes on in any case.
abbrev pub closes_notes : ℕ → List ℕ → Act Unit
closes_notes failures text events result = IsOk result × closes_errors failures text events result

-- A file system is extracted into an empty folder, and standard error is told what is left out. Its
-- text may go out in part, and nothing tells of that but the fault. `failures` counts what the host
-- refused, `lost` how often standard error failed.
pub record fills_asked (name : List ℕ) (owners : Bool) (s : State) (events : List Event)
    (result : Result Totals Fault) : Type 0 where
  pub made : List Made
  pub failures : Failures
  pub text : List ℕ
  pub lost : ℕ
  pub answer : Result Totals ExtractFault
  pub extracts : Extracts s owners
      (record { old = Some []; new = Some made; before = none_failed; now = failures })
      (record { old = Some []; new = Some text; before = 0; now = lost }) answer
  pub ends : Then (closes_filled name made (stop_of answer)) (λ reason.
      Then (closes_notes lost text) (λ _. answers (IsFilled name reason answer))) events result

-- the folder of a name is asked for, and filled with what is extracted
abbrev pub fills_folder : List ℕ → Bool → Bool → State → Act Totals
fills_folder name quiet owners s = Then (asks_to_fill name quiet) (λ _. fills_asked name owners s)

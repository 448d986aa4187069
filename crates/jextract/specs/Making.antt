-- What the making of one object does.
use Rattle.std.specs.Prelude.{◌≡◌, ◌<◌, ℕ, Bool, false, List, [], length, take, Option, Some, None, Result, Ok, Err, ◌⊎◌, option_map, string_bytes, String, if◌then◌else◌}
use Rattle.std.specs.declared.alloc.Global.{Global}
use Rattle.std.specs.Ordering.{nat_cmp}
use Rattle.std.specs.BTreeMap.{BTreeMap, get}
use Rattle.jmount.specs.Tree.{State}
use Rattle.jmount.specs.Shape.{HasOneName}
use Rattle.jextract.specs.Folders.{Failures, FolderChange, refused_once, full_once, counted_fault, Made, ReportsMore, Deed}
use Rattle.jextract.specs.Outcomes.{Plan, Do, LeaveOut, Task, Outcome, FirstPaths, IsOutcomeOf, made_at, is_refusal, firsts_if, firsts_with}
use Rattle.jextract.specs.declared.folder.FolderFault.{FolderFault}
use Rattle.jextract.specs.declared.folder.FolderFault.TheVariants as folder
use Rattle.jextract.specs.declared.reason.Reason.{Reason}
use Rattle.jextract.specs.declared.reason.Reason.TheVariants.{Refused}
use Rattle.jextract.specs.declared.making.MakeFault.{MakeFault}
use Rattle.jextract.specs.declared.making.MakeFault.TheVariants.{LeftOut, NoSpace, OutOfMemory}

-- a path that a host may have, or why it may not
abbrev pub IsPathOf : Result (List ℕ) Reason → Result (String Global) MakeFault → Type 0
IsPathOf path (Ok text) = path ≡ Ok (string_bytes text)
IsPathOf path (Err (LeftOut why)) = path ≡ Err why
IsPathOf path (Err NoSpace) = ⊥
IsPathOf path (Err OutOfMemory) = Unit

-- a refusal of the host is a reason to leave an object out
abbrev pub fault_of : FolderFault → MakeFault
fault_of folder.Refused = LeftOut Refused
fault_of folder.NoSpace = NoSpace
fault_of folder.OutOfMemory = OutOfMemory

-- the first of these deeds were done, not all of them
abbrev pub DoesSome : Option (List Made) → Option (List Made) → List Made → Type 0
DoesSome old new deeds = (k : ℕ) × (k < length deeds) × ReportsMore old new (take k deeds)

-- A call does all of these. At a fault it did those before one of them, and the folder counted the
-- fault.
abbrev pub Does : {T : Type 0} → FolderChange → List Made → Result T FolderFault → Type 0
Does change deeds (Ok _) = ReportsMore change.old change.new deeds × (change.now ≡ change.before)
Does change deeds (Err fault) =
    DoesSome change.old change.new deeds × (change.now ≡ counted_fault fault change.before)

-- why a plan was not followed: it is not to be, or the host refused a deed
abbrev pub LeavesOut : FolderChange → List ℕ → Plan → Reason → Type 0
LeavesOut change path plan why =
    ((plan ≡ LeaveOut why) × ReportsMore change.old change.new [] × (change.now ≡ change.before)
    × (is_refusal (Some why) ≡ false))
    ⊎ ((deeds : List Deed) × (plan ≡ Do deeds)
    × DoesSome change.old change.new (made_at path deeds)
    × (change.now ≡ refused_once change.before) × (why ≡ Refused))

-- a call follows a plan at a path
abbrev pub Follows : {T : Type 0} → FolderChange → List ℕ → Plan → Result T MakeFault → Type 0
Follows change path plan (Ok _) = (deeds : List Deed) × (plan ≡ Do deeds)
    × ReportsMore change.old change.new (made_at path deeds) × (change.now ≡ change.before)
Follows change path plan (Err (LeftOut why)) = LeavesOut change path plan why
Follows change path plan (Err NoSpace) = (deeds : List Deed) × (plan ≡ Do deeds)
    × DoesSome change.old change.new (made_at path deeds)
    × (change.now ≡ full_once change.before)
Follows change path plan (Err OutOfMemory) = (deeds : List Deed) × (plan ≡ Do deeds)
    × DoesSome change.old change.new (made_at path deeds) × (change.now ≡ change.before)

-- the count of the folder's failures after a task that was left out, if it was
abbrev pub count_after : Failures → Option Reason → Failures
count_after n why = if is_refusal why then refused_once n else n

-- a task had this outcome
abbrev pub HasOutcome : State → Bool → FirstPaths → Task → FolderChange → Option Reason → Bool
    → Type 0
HasOutcome s owners firsts task change why lost =
    (o : Outcome) × IsOutcomeOf s owners firsts task o × (o.left_out ≡ why)
    × ReportsMore change.old change.new o.deeds × (change.now ≡ count_after change.before why)
    × (o.lost ≡ lost)

-- a task was begun, or not even that
abbrev pub HasBegun : State → Bool → FirstPaths → Task → Option (List Made) → Option (List Made)
    → Type 0
HasBegun s owners firsts task old new = ReportsMore old new []
    ⊎ ((o : Outcome) × IsOutcomeOf s owners firsts task o × ReportsMore old new o.deeds)

-- A call does a task. `Ok` has whether its object lost a bit of its mode.
abbrev pub Works : State → Bool → FirstPaths → Task → FolderChange → Result Bool MakeFault → Type 0
Works s owners firsts task change (Ok lost) = HasOutcome s owners firsts task change None lost
Works s owners firsts task change (Err (LeftOut why)) =
    HasOutcome s owners firsts task change (Some why) false
Works s owners firsts task change (Err NoSpace) =
    HasBegun s owners firsts task change.old change.new × (change.now ≡ full_once change.before)
Works s owners firsts task change (Err OutOfMemory) =
    HasBegun s owners firsts task change.old change.new × (change.now ≡ change.before)

-- the paths at which objects were made first
abbrev pub firsts_of : BTreeMap ℕ (String Global) → FirstPaths
firsts_of paths = λ i. option_map string_bytes (get nat_cmp paths i)

-- Those after an object was made at the path of a text. That of an object with one name need not be
-- among them.
abbrev pub NotesFirst : {T E : Type 0} → State → FirstPaths → FirstPaths → List ℕ → ℕ
    → Result T E → Type 0
NotesFirst s old new text i (Ok _) =
    (new ≡ firsts_with old (Ok text) i) ⊎ ((new ≡ old) × HasOneName s i)
NotesFirst s old new text i (Err _) = new ≡ old

-- Those after a task at a path, which was done or was not.
abbrev pub FirstsAfter : {T : Type 0} → State → FirstPaths → FirstPaths → List (List ℕ) → ℕ
    → Result T MakeFault → Type 0
FirstsAfter s old new path i (Ok _) =
    (new ≡ firsts_if old path i None) ⊎ ((new ≡ old) × HasOneName s i)
FirstsAfter s old new path i (Err (LeftOut why)) = new ≡ old
FirstsAfter s old new path i (Err NoSpace) = new ≡ old
FirstsAfter s old new path i (Err OutOfMemory) = new ≡ old

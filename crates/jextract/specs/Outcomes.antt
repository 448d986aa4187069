-- What is made of a file system in a folder of the host, as far as the host lets it.
use Rattle.std.specs.Prelude.{min, count_by, ◌^◌, ◌-◌, ◌≡◌, ℕ, ◌/◌, ◌%◌, ◌<◌, ◌==◌, ◌&&◌, not, Bool, true, false, nat_lt, nat_le, List, [], ◌∷◌, ◌++◌, length, take, map, flat_map, codes, Option, Some, None, option_map, Result, Ok, Err, ◌⊎◌, is_some, is_none, if◌then◌else◌}
use Rattle.std.specs.List.{list_all}
use Rattle.std.specs.Option.{option_or}
use Rattle.std.specs.Str.{is_utf8}
use Rattle.jmount.specs.Tree.{State, greatest_target, object, is_directory, entries_in}
use Rattle.jmount.specs.Shown.{readable, shown}
use Rattle.jmount.specs.declared.object.Kind.{Kind}
use Rattle.jmount.specs.declared.object.Kind.TheVariants as kind
use Rattle.jmount.specs.declared.object.Object.{Object}
use Rattle.jline.specs.Paths.{path_shown}
use Rattle.jextract.specs.Cells.{cells_of}
use Rattle.jextract.specs.Folders.{Failures, refused_once, Made, Deed, Directory, File, Content, Symlink, Link, Attributed}
use Rattle.jextract.specs.Paths.{host_path}
use Rattle.jextract.specs.declared.folder.Attributes.{Attributes}
use Rattle.jextract.specs.declared.folder.Owner.{Owner}
use Rattle.jextract.specs.declared.totals.Totals.{Totals}
use Rattle.jextract.specs.declared.reason.Reason.{Reason}
use Rattle.jextract.specs.declared.reason.Reason.TheVariants as reason

-- ---- what an object becomes

abbrev pub owner_if : Bool → Object → Option Owner
owner_if owners o = if owners then Some (record { uid = o.uid; gid = o.gid }) else None

-- rule: Listings: Without owners no set-id bit is given, and a note counts them.
--   definitions: jextract.Outcomes.mode_given, jextract.Outcomes.lost_at,
--   jextract.Outcomes.totals_of
--   code: jextract::extracting::extract
-- The permissions that an object is given: the low 12 bits of its mode. Without owners, whoever
-- extracts is to own it, and the two bits are dropped by which a program runs as its file's owner
-- and group (Linux, include/uapi/linux/stat.h: S_ISUID and S_ISGID, octal 4000 and 2000).
abbrev pub mode_given : Bool → ℕ → ℕ
mode_given owners mode = if owners then mode % 4096 else mode % 1024

-- whether it loses such a bit
abbrev pub loses_bits : Bool → ℕ → Bool
loses_bits owners mode = not owners && not (mode / 1024 % 4 == 0)

-- its permissions, its times, and its owners where they are asked for
abbrev pub attributes_of : Bool → Object → Attributes
attributes_of owners o = record {
  mode = mode_given owners o.mode;
  mtime = o.mtime;
  atime = o.atime;
  owner = owner_if owners o;
}

abbrev pub is_directory_kind : Kind → Bool
is_directory_kind kind.Directory = true
is_directory_kind _ = false

-- What is to be done with an object. What is left out is told.
pub data Plan : Type 0 where
  Do : List Deed → Plan
  LeaveOut : Reason → Plan

-- a target that a symlink of the host may have: text of 1 to 4,095 bytes, none of them zero
abbrev pub is_target : List ℕ → Bool
is_target target = nat_lt 0 (length target) && nat_le (length target) greatest_target
    && is_utf8 target && list_all (λ b. not (b == 0)) target

abbrev pub plan_symlink : List ℕ → Attributes → Plan
plan_symlink target attributes =
    if is_target target then Do (Symlink target attributes ∷ []) else LeaveOut reason.BadTarget

-- why an object that is no directory, file or symlink is left out
abbrev pub reason_of : Kind → Reason
reason_of kind.CharacterDevice = reason.CharacterDevice
reason_of kind.BlockDevice = reason.BlockDevice
reason_of kind.Fifo = reason.Fifo
reason_of kind.Socket = reason.Socket
reason_of _ = reason.UnknownKind

-- what is done with an object that was not made before, by its kind, its bytes and its attributes
abbrev pub plan_anew : Kind → List ℕ → Attributes → Plan
plan_anew kind.Directory bytes attributes = Do (Directory ∷ [])
plan_anew kind.Regular bytes attributes = Do (File ∷ Content (cells_of bytes) attributes ∷ [])
plan_anew kind.Symlink bytes attributes = plan_symlink bytes attributes
plan_anew other bytes attributes = LeaveOut (reason_of other)

-- what is done with an object that was made at this path before: a file or a symlink gets a further
-- name
abbrev pub plan_again : Kind → List ℕ → Plan
plan_again kind.Directory first = LeaveOut reason.Again
plan_again kind.Regular first = Do (Link first ∷ [])
plan_again kind.Symlink first = Do (Link first ∷ [])
plan_again other first = LeaveOut (reason_of other)

abbrev pub plan_of : Option (List ℕ) → Kind → List ℕ → Attributes → Plan
plan_of None kind bytes attributes = plan_anew kind bytes attributes
plan_of (Some first) kind bytes attributes = plan_again kind first

-- ---- the walk: what is still to be done

-- the path at which the object of a number was made first
abbrev pub FirstPaths : Type 0
FirstPaths = ℕ → Option (List ℕ)

-- at the start the root alone is made
abbrev pub root_alone : FirstPaths
root_alone i = if 1 == i then Some [] else None

-- A path leads to an object that is to be made, or to a directory that is complete. A path is given
-- by its names.
pub data Task : Type 0 where
  Make : List (List ℕ) → ℕ → Task
  Complete : List (List ℕ) → ℕ → Task

abbrev pub path_of_task : Task → List (List ℕ)
path_of_task (Make path i) = path
path_of_task (Complete path i) = path

abbrev pub ino_of_task : Task → ℕ
ino_of_task (Make path i) = i
ino_of_task (Complete path i) = i

-- these names of a directory, each with its path
abbrev pub tasks_of : List (List ℕ) → List (List ℕ × ℕ) → List Task
tasks_of path names = map (λ e. Make (path ++ e.0 ∷ []) e.1) names

-- what lies in a directory, in byte order of the names, and then the directory itself
abbrev pub tasks_in : State → List (List ℕ) → ℕ → List Task
tasks_in s path i = tasks_of path (entries_in s i) ++ Complete path i ∷ []

-- rule: Listings: A name without an inode is reported, and a full disk ends the work.
--   definitions: jextract.Outcomes.plan_made, jextract.Extracts.Extracts
--   code: jextract::extracting::extract
abbrev pub plan_made : State → Bool → FirstPaths → ℕ → Option Object → Plan
plan_made s owners firsts i None = LeaveOut reason.Missing
plan_made s owners firsts i (Some o) =
    plan_of (firsts i) o.kind (readable s i) (attributes_of owners o)

abbrev pub plan_completed : Bool → Option Object → Plan
plan_completed owners None = Do []
plan_completed owners (Some o) = Do (Attributed (attributes_of owners o) ∷ [])

abbrev pub plan_at : State → Bool → FirstPaths → Task → Plan
plan_at s owners firsts (Make path i) = plan_made s owners firsts i (option_map shown (object s i))
plan_at s owners firsts (Complete path i) = plan_completed owners (option_map shown (object s i))

-- ---- an outcome

-- what was done of a task, why it was left out, if it was, and whether its object lost a bit of its
-- mode
pub record Outcome : Type 0 where
  pub path : List (List ℕ)
  pub deeds : List Made
  pub left_out : Option Reason
  pub lost : Bool

abbrev pub made_at : List ℕ → List Deed → List Made
made_at path deeds = map (λ deed. record { path = path; deed = deed }) deeds

-- What may come of a task. All of it was done, or the host refused one deed, and that and what
-- follows was not done. Where the plan or the path does not allow it, nothing was done.
abbrev pub IsDone : List Made → Outcome → Type 0
IsDone deeds o = ((o.deeds ≡ deeds) × (o.left_out ≡ None))
    ⊎ ((k : ℕ) × (k < length deeds) × (o.deeds ≡ take k deeds) × (o.left_out ≡ Some reason.Refused))

abbrev pub FollowsPlan : Result (List ℕ) Reason → Plan → Outcome → Type 0
FollowsPlan (Err why) plan o = (o.deeds ≡ []) × (o.left_out ≡ Some why)
FollowsPlan (Ok path) (LeaveOut why) o = (o.deeds ≡ []) × (o.left_out ≡ Some why)
FollowsPlan (Ok path) (Do deeds) o = IsDone (made_at path deeds) o

-- A directory loses bits when it is completed, and what has several names when it is made by its
-- first.
abbrev pub lost_made : Bool → Option (List ℕ) → Option Object → Bool
lost_made owners first None = false
lost_made owners first (Some o) =
    is_none first && not (is_directory_kind o.kind) && loses_bits owners o.mode

abbrev pub lost_completed : Bool → Option Object → Bool
lost_completed owners None = false
lost_completed owners (Some o) = loses_bits owners o.mode

abbrev pub lost_at : State → Bool → FirstPaths → Task → Bool
lost_at s owners firsts (Make path i) = lost_made owners (firsts i) (option_map shown (object s i))
lost_at s owners firsts (Complete path i) = lost_completed owners (option_map shown (object s i))

abbrev pub IsOutcomeOf : State → Bool → FirstPaths → Task → Outcome → Type 0
IsOutcomeOf s owners firsts task o =
    (o.path ≡ path_of_task task)
    × FollowsPlan (host_path (path_of_task task)) (plan_at s owners firsts task) o
    × (o.lost ≡ (is_none o.left_out && lost_at s owners firsts task))

-- ---- what follows from an outcome

-- an object that was made at a path, if it was not made before
abbrev pub firsts_with : FirstPaths → Result (List ℕ) Reason → ℕ → FirstPaths
firsts_with firsts (Err why) i = firsts
firsts_with firsts (Ok path) i = λ j. option_or (firsts j) (if i == j then Some path else None)

abbrev pub firsts_if : FirstPaths → List (List ℕ) → ℕ → Option Reason → FirstPaths
firsts_if firsts path i (Some why) = firsts
firsts_if firsts path i None = firsts_with firsts (host_path path) i

abbrev pub firsts_after : FirstPaths → Task → Outcome → FirstPaths
firsts_after firsts (Make path i) o = firsts_if firsts path i o.left_out
firsts_after firsts (Complete path i) o = firsts

-- a directory that was made is filled, before what else is still to be done
abbrev pub todo_if : State → List (List ℕ) → ℕ → Option Reason → List Task → List Task
todo_if s path i (Some why) todo = todo
todo_if s path i None todo = if is_directory s i then tasks_in s path i ++ todo else todo

abbrev pub tasks_after : State → Task → Outcome → List Task → List Task
tasks_after s (Make path i) o todo = todo_if s path i o.left_out todo
tasks_after s (Complete path i) o todo = todo

-- rule: Listings: All objects made are inside the folder.
--   definitions: jextract.Outcomes.AreOutcomes, jextract.Paths.host_path
--   code: jextract::extracting::extract
--   laws: jextract::laws::makes_inside, jextract::laws::makes_below, jextract::laws::whole_is_first
-- the outcomes of what is still to be done, first to last
abbrev pub AreOutcomes : State → Bool → FirstPaths → List Task → List Outcome → Type 0
AreOutcomes s owners firsts [] outcomes = outcomes ≡ []
AreOutcomes s owners firsts (task ∷ todo) [] = ⊥
AreOutcomes s owners firsts (task ∷ todo) (o ∷ outcomes) =
    IsOutcomeOf s owners firsts task o
    × AreOutcomes s owners (firsts_after firsts task o) (tasks_after s task o todo) outcomes

-- the first of them, perhaps not all
abbrev pub AreFirstOutcomes : State → Bool → FirstPaths → List Task → List Outcome → Type 0
AreFirstOutcomes s owners firsts todo [] = Unit
AreFirstOutcomes s owners firsts [] (o ∷ outcomes) = ⊥
AreFirstOutcomes s owners firsts (task ∷ todo) (o ∷ outcomes) =
    IsOutcomeOf s owners firsts task o
    × AreFirstOutcomes s owners (firsts_after firsts task o) (tasks_after s task o todo) outcomes

-- the folder itself is made first, and then filled
abbrev pub root_made : Made
root_made = record { path = []; deed = Directory }

abbrev pub all_made : List Outcome → List Made
all_made outcomes = root_made ∷ flat_map (λ o. o.deeds) outcomes

-- ---- what is told

abbrev pub left_out_reason : Reason → List ℕ
left_out_reason reason.BadName = codes "a name that no file has"
left_out_reason reason.LongPath = codes "path too long"
left_out_reason reason.NoText = codes "no text"
left_out_reason reason.Again = codes "directory again"
left_out_reason reason.CharacterDevice = codes "character device"
left_out_reason reason.BlockDevice = codes "block device"
left_out_reason reason.Fifo = codes "FIFO"
left_out_reason reason.Socket = codes "socket"
left_out_reason reason.UnknownKind = codes "a kind that is not known"
left_out_reason reason.BadTarget = codes "bad target"
left_out_reason reason.Missing = codes "no inode"
left_out_reason reason.Refused = codes "the host refused it"

unfoldable pub line_of_left_out : List (List ℕ) → Reason → List ℕ
line_of_left_out path why =
    codes "left out " ++ (path_shown path ++ (codes ": " ++ (left_out_reason why ++ 10 ∷ [])))

abbrev pub line_if_left_out : List (List ℕ) → Option Reason → List ℕ
line_if_left_out path None = []
line_if_left_out path (Some why) = line_of_left_out path why

abbrev pub outcome_line : Outcome → List ℕ
outcome_line o = line_if_left_out o.path o.left_out

abbrev pub is_refusal : Option Reason → Bool
is_refusal None = false
is_refusal (Some reason.Refused) = true
is_refusal (Some _) = false

-- the count of the folder's failures after these
abbrev pub failures_after : Failures → List Outcome → Failures
failures_after n [] = n
failures_after n (o ∷ outcomes) =
    failures_after (if is_refusal o.left_out then refused_once n else n) outcomes

-- how many were left out, and how many lost a bit of their modes, each up to the greatest u64
abbrev pub totals_of : List Outcome → Totals
totals_of outcomes = record {
  left_out = min (count_by (λ o. is_some o.left_out) outcomes) (2 ^ 64 - 1);
  lost_bits = min (count_by (λ o. o.lost) outcomes) (2 ^ 64 - 1);
}

-- all lines that are told
abbrev pub all_lines : List Outcome → List ℕ
all_lines outcomes = flat_map outcome_line outcomes

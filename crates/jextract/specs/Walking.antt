-- The walk through a tree that is extracted: what is still to be done, and what a step of it does.
use Rattle.std.specs.Prelude.{◌≡◌, ◌≢◌, ◌⊎◌, ⊤, Contains, ℕ, ◌+◌, ◌-◌, ◌*◌, ◌<◌, ◌≤◌, ◌^◌, ◌==◌, min, Bool, true, false, List, [], ◌∷◌, ◌++◌, length, map, reverse, sum_by, count_by, filter, flat_map, Option, Some, None, is_some, is_none, Result, Ok, Err, if◌then◌else◌}
use Rattle.std.specs.FinMap.{entries}
use Rattle.std.specs.Io.KnownBytes.{Appends}
use Rattle.flashbase.specs.Device.{PutsPart, next_count}
use Rattle.flashbase.specs.Sinks.{SinkChange}
use Rattle.jmount.specs.Tree.{State, named, entries_in}
use Rattle.jmount.specs.Find.{way_up}
use Rattle.jmount.specs.Shape.{HasOneName}
use Rattle.jextract.specs.Folders.{Failures, Made, ReportsMore}
use Rattle.jextract.specs.Making.{firsts_of}
use Rattle.jextract.specs.Extracts.{AreTreeOutcomes}
use Rattle.jname.specs.Live.{Key}
use Rattle.jextract.specs.Parts.{is_in_part, part_along}
use Rattle.jextract.specs.Outcomes.{root_alone, firsts_with, Task, Complete, path_of_task, ino_of_task, Outcome, FirstPaths, AreOutcomes, AreFirstOutcomes, tasks_in, tasks_of, all_lines, failures_after, line_if_left_out}
use Rattle.jextract.specs.declared.extracting.Walk.{Walk}
use Rattle.jextract.specs.declared.making.MakeFault.{MakeFault}
use Rattle.jextract.specs.declared.making.MakeFault.TheVariants as make
use Rattle.jextract.specs.declared.fault.ExtractFault.{ExtractFault}
use Rattle.jextract.specs.declared.fault.ExtractFault.TheVariants.{Folder, Notes, NoSpace, OutOfMemory}
use Rattle.jextract.specs.declared.totals.Totals.{Totals}

-- ---- what is told of a task

-- one more that was left out, if it was, up to the greatest u64
abbrev pub counted_up : ℕ → ℕ → ℕ
counted_up n more = if more == 0 then n else min (n + more) (2 ^ 64 - 1)

abbrev pub no_totals : Totals
no_totals = record { left_out = 0; lost_bits = 0 }

-- these counts after one more task, which was left out or was not, and whose object lost a bit or
-- did not
abbrev pub totals_up : Totals → ℕ → ℕ → Totals
totals_up n left_out lost_bits = record {
  left_out = counted_up n.left_out left_out;
  lost_bits = counted_up n.lost_bits lost_bits;
}

-- rule: Listings: Paths that are left out are counted, also if they cannot be reported.
--   definitions: jextract.Walking.Settles
--   code: jextract::extracting::settle
-- A call tells of a task what is to be told, and counts it, also where it can't be told. The answer
-- is whether the task was done.
abbrev pub Settles : Result Bool MakeFault → List (List ℕ) → SinkChange → Totals → Totals
    → Result Bool ExtractFault → Type 0
Settles (Ok lost) path notes n after (Ok done) =
    (done ≡ true) × Appends notes.old notes.new [] × (notes.now ≡ notes.before)
    × (after ≡ totals_up n 0 (if lost then 1 else 0))
Settles (Ok lost) path notes n after (Err Folder) = ⊥
Settles (Ok lost) path notes n after (Err Notes) = ⊥
Settles (Ok lost) path notes n after (Err NoSpace) = ⊥
Settles (Ok lost) path notes n after (Err OutOfMemory) = ⊥
Settles (Err (make.LeftOut why)) path notes n after (Ok done) =
    (done ≡ false) × Appends notes.old notes.new (line_if_left_out path (Some why))
    × (notes.now ≡ notes.before) × (after ≡ totals_up n 1 0)
Settles (Err (make.LeftOut why)) path notes n after (Err Notes) =
    PutsPart notes.old notes.new (line_if_left_out path (Some why))
    × (notes.now ≡ next_count notes.before) × (after ≡ totals_up n 1 0)
Settles (Err (make.LeftOut why)) path notes n after (Err Folder) = ⊥
Settles (Err (make.LeftOut why)) path notes n after (Err NoSpace) = ⊥
Settles (Err (make.LeftOut why)) path notes n after (Err OutOfMemory) = ⊥
Settles (Err make.NoSpace) path notes n after (Ok done) = ⊥
Settles (Err make.NoSpace) path notes n after (Err NoSpace) =
    Appends notes.old notes.new [] × (notes.now ≡ notes.before) × (after ≡ n)
Settles (Err make.NoSpace) path notes n after (Err Folder) = ⊥
Settles (Err make.NoSpace) path notes n after (Err Notes) = ⊥
Settles (Err make.NoSpace) path notes n after (Err OutOfMemory) = ⊥
Settles (Err make.OutOfMemory) path notes n after (Ok done) = ⊥
Settles (Err make.OutOfMemory) path notes n after (Err OutOfMemory) =
    Appends notes.old notes.new [] × (notes.now ≡ notes.before) × (after ≡ n)
Settles (Err make.OutOfMemory) path notes n after (Err Folder) = ⊥
Settles (Err make.OutOfMemory) path notes n after (Err Notes) = ⊥
Settles (Err make.OutOfMemory) path notes n after (Err NoSpace) = ⊥

-- ---- what is still to be done at a place of the walk

-- these names of a directory, those alone that are in a part
abbrev pub names_in_part : List Key → ℕ → List (List ℕ × ℕ) → List (List ℕ × ℕ)
names_in_part way dir names = filter (λ e. is_in_part way dir e.0) names

-- what is left of these directories, where `path` leads to the first and each lies in the next
abbrev pub tasks_up : List Key → List (ℕ × List (List ℕ × ℕ)) → List (List ℕ) → List Task
tasks_up way [] path = []
tasks_up way (directory ∷ above) path = tasks_of path (names_in_part way directory.0 directory.1)
    ++ Complete path directory.0 ∷ tasks_up way above (way_up path)

abbrev pub extraction_way : Walk → List (List ℕ)
extraction_way w = map (λ name. name.now) w.path.items

abbrev pub extraction_todo : List Key → Walk → List Task
extraction_todo way w = tasks_up way ((w.ino, w.left) ∷ reverse w.above.items) (extraction_way w)

-- ---- what is not remembered

-- a directory that the walk is in, and what is left of it
abbrev pub Open : Type 0
Open = ℕ × List (List ℕ × ℕ)

abbrev pub open_of : Walk → List Open
open_of w = (w.ino, w.left) ∷ reverse w.above.items

-- no two of them are one
abbrev pub AreApart : List Open → Type 0
AreApart [] = ⊤
AreApart (d ∷ above) = ((e : Open) → Contains above e → d.0 ≢ e.0) × AreApart above

-- what is left of a directory are the last of its names
abbrev pub AreLastNames : State → Open → Type 0
AreLastNames s d = (read : List (List ℕ × ℕ)) × (entries_in s d.0 ≡ read ++ d.1)

-- the one name of an object was gone through, in a directory that was made
pub record IsSpent (s : State) (made : FirstPaths) (dirs : List Open) (i : ℕ) : Type 0 where
  pub one : HasOneName s i
  pub below : (d : ℕ) (n : List ℕ) → named s d n ≡ Some i → is_some (made d) ≡ true
  pub gone : (d : Open) (n : List ℕ) → Contains dirs d → Contains d.1 (n, i) → ⊥

-- Of each object the path is known at which it was made first, or it has one name, which was gone
-- through.
pub record Knows (s : State) (made known : FirstPaths) (dirs : List Open) : Type 0 where
  pub there : (d : Open) → Contains dirs d → is_some (made d.0) ≡ true
  pub apart : AreApart dirs
  pub left : (d : Open) → Contains dirs d → AreLastNames s d
  pub each : (i : ℕ) → (known i ≡ made i) ⊎ IsSpent s made dirs i

-- ---- how far it is to the end

-- the names whose directory was not made
abbrev pub unmade : State → FirstPaths → ℕ
unmade s firsts = count_by (λ e. is_none (firsts e.0.0)) (entries s.names)

-- the names that the walk has not read, those of directories that it may make among them
abbrev pub extraction_names_left : State → FirstPaths → Walk → ℕ
extraction_names_left s made w = unmade s made + length w.left
    + sum_by (λ directory. length directory.1) w.above.items

abbrev pub extraction_steps_left : Walk → ℕ
extraction_steps_left w = 2 * length w.unread + length w.above.items

-- A walk is on its way: of what was made it knows what it needs, and it may read as many names as
-- there may still be.
pub record IsOnWay (s : State) (made : FirstPaths) (w : Walk) : Type 0 where
  pub knows : Knows s made (firsts_of w.firsts) (open_of w)
  pub enough : extraction_names_left s made w ≤ length w.unread

-- ---- a part of the walk

-- from what is still to be done, after these outcomes, to what is to be done then
abbrev pub Advances : State → Bool → FirstPaths → List Task → FirstPaths → List Task → List Outcome
    → Type 0
Advances s owners firsts todo firsts_then todo_then outcomes =
    ((rest : List Outcome) → AreOutcomes s owners firsts_then todo_then rest
    → AreOutcomes s owners firsts todo (outcomes ++ rest))
    × ((rest : List Outcome) → AreFirstOutcomes s owners firsts_then todo_then rest
    → AreFirstOutcomes s owners firsts todo (outcomes ++ rest))

-- what a part of a walk sees: what the folder reports and how often it failed, and the same of the
-- notes, and the counts
pub record Sight : Type 0 where
  pub made : Option (List Made)
  pub failures : Failures
  pub told : Option (List ℕ)
  pub told_failures : ℕ
  pub totals : Totals

-- before a part of a walk, and after it
abbrev pub Sights : Type 0
Sights = Sight × Sight

-- these outcomes were had
abbrev pub Had : Sight → Sight → List Outcome → Type 0
Had old new outcomes =
    ReportsMore old.made new.made (flat_map (λ o. o.deeds) outcomes)
    × (new.failures ≡ failures_after old.failures outcomes)
    × Appends old.told new.told (all_lines outcomes) × (new.told_failures ≡ old.told_failures)
    × (new.totals ≡ totals_up old.totals (count_by (λ o. is_some o.left_out) outcomes)
    (count_by (λ o. o.lost) outcomes))

-- it stopped in the middle of an outcome, or before one
abbrev pub Stopped : State → Bool → FirstPaths → List Task → Sight → Sight → Type 0
Stopped s owners firsts todo old new =
    (outcomes : List Outcome) × AreFirstOutcomes s owners firsts todo outcomes
    × ReportsMore old.made new.made (flat_map (λ o. o.deeds) outcomes)
    × PutsPart old.told new.told (all_lines outcomes)

abbrev pub StopsBy : State → Bool → FirstPaths → List Task → Sight → Sight → ExtractFault → Type 0
StopsBy s owners firsts todo old new Folder = ⊥
StopsBy s owners firsts todo old new Notes =
    Stopped s owners firsts todo old new × (new.told_failures ≡ next_count old.told_failures)
    × (new.failures.full ≡ old.failures.full)
StopsBy s owners firsts todo old new NoSpace =
    Stopped s owners firsts todo old new × (new.told_failures ≡ old.told_failures)
    × (new.failures.full ≡ next_count old.failures.full)
StopsBy s owners firsts todo old new OutOfMemory =
    Stopped s owners firsts todo old new × (new.told_failures ≡ old.told_failures)
    × (new.failures.full ≡ old.failures.full)

abbrev pub todo_then : State → Task → Bool → List Task → List Task
todo_then s task entered todo =
    if entered then tasks_in s (path_of_task task) (ino_of_task task) ++ todo else todo

-- The object of a task is visited. The answer is whether it is a directory that was made; only then
-- are its names among those to be read.
abbrev pub Visits : State → Bool → FirstPaths → FirstPaths → Task → Sight → Sight
    → Result Bool ExtractFault → Type 0
Visits s owners firsts firsts_then task old new (Ok entered) =
    (outcomes : List Outcome) × Had old new outcomes
    × ((todo : List Task) → Advances s owners firsts (task ∷ todo) firsts_then
    (todo_then s task entered todo) outcomes)
    × (unmade s firsts_then + (if entered then length (entries_in s (ino_of_task task)) else 0)
    ≤ unmade s firsts)
Visits s owners firsts firsts_then task old new (Err fault) =
    (todo : List Task) → StopsBy s owners firsts (task ∷ todo) old new fault

-- what is known before a visit, and after it
abbrev pub KnownPaths : Type 0
KnownPaths = FirstPaths × FirstPaths

-- The object was made, or it was left out. If it was made, its path is known, or it has one name.
abbrev pub NotesVisit : State → FirstPaths → FirstPaths → KnownPaths → ℕ → Bool → Type 0
NotesVisit s made made_then known i entered =
    ((entered ≡ false) × (made_then ≡ made) × (known.1 ≡ known.0))
    ⊎ ((text : List ℕ) × (made_then ≡ firsts_with made (Ok text) i)
    × (entered ≡ true → made i ≡ None)
    × ((known.1 ≡ firsts_with known.0 (Ok text) i) ⊎ ((known.1 ≡ known.0) × HasOneName s i)))

-- The object of a task is visited in a part of a tree, and what is known of it was enough.
abbrev pub VisitsKnown : State → State → Bool → FirstPaths → KnownPaths → Task → Sights
    → Result Bool ExtractFault → Type 0
VisitsKnown s part owners made known task seen (Ok entered) = (made_then : FirstPaths)
    × Visits part owners made made_then task seen.0 seen.1 (Ok entered)
    × (unmade s made_then + (if entered then length (entries_in s (ino_of_task task)) else 0)
    ≤ unmade s made)
    × NotesVisit s made made_then known (ino_of_task task) entered
VisitsKnown s part owners made known task seen (Err fault) =
    Visits part owners made made task seen.0 seen.1 (Err fault)

-- a directory is completed, whatever was made before
abbrev pub Completes : State → Bool → List (List ℕ) → ℕ → Sight → Sight → Result Bool ExtractFault
    → Type 0
Completes s owners path i old new (Ok done) =
    (outcomes : List Outcome) × Had old new outcomes
    × ((firsts : FirstPaths) (todo : List Task)
    → Advances s owners firsts (Complete path i ∷ todo) firsts todo outcomes)
Completes s owners path i old new (Err fault) = (firsts : FirstPaths) (todo : List Task)
    → StopsBy s owners firsts (Complete path i ∷ todo) old new fault

-- the walk went back to the directory above, or there is none
abbrev pub ExtractionGoesUp : Walk → Walk → Bool → Type 0
ExtractionGoesUp w w_after true = (w.above.items ≡ w_after.above.items
    ++ (w_after.ino, w_after.left) ∷ []) × (extraction_way w_after ≡ way_up (extraction_way w))
    × (w_after.firsts ≡ w.firsts) × (w_after.totals ≡ w.totals) × (w_after.unread ≡ w.unread)
ExtractionGoesUp w w_after false =
    (w.above.items ≡ []) × (w_after.firsts ≡ w.firsts) × (w_after.totals ≡ w.totals)

-- the walk went on to the directory of a number, which its path leads to already
abbrev pub Enters : {T : Type 0} → State → ℕ → Walk → Walk → Result T ExtractFault → Type 0
Enters s i w w_after (Ok _) = (w_after.left ≡ entries_in s i) × (w_after.ino ≡ i)
    × (w_after.above.items ≡ w.above.items ++ (w.ino, w.left) ∷ [])
    × (w_after.path ≡ w.path) × (w_after.firsts ≡ w.firsts) × (w_after.totals ≡ w.totals)
    × (w_after.unread ≡ w.unread)
Enters s i w w_after (Err fault) = fault ≡ OutOfMemory

-- A step of a walk through the part along a way. `false`: nothing is still to be done.
abbrev pub Steps : State → List Key → Bool → FirstPaths → Walk → Walk → Sights
    → Result Bool ExtractFault → Type 0
Steps s way owners made w w_after seen (Ok true) =
    (outcomes : List Outcome) × (made_then : FirstPaths) × IsOnWay s made_then w_after
    × Had seen.0 seen.1 outcomes
    × Advances (part_along way s) owners made (extraction_todo way w) made_then
    (extraction_todo way w_after) outcomes
    × (extraction_steps_left w_after < extraction_steps_left w)
Steps s way owners made w w_after seen (Ok false) =
    (outcomes : List Outcome) × (made_then : FirstPaths) × Had seen.0 seen.1 outcomes
    × Advances (part_along way s) owners made (extraction_todo way w) made_then [] outcomes
Steps s way owners made w w_after seen (Err fault) = StopsBy (part_along way s) owners made
    (extraction_todo way w) seen.0 seen.1 fault

-- the tree is made in a folder that was made
abbrev pub Fills : State → Bool → Sight → Sight → Result Totals ExtractFault → Type 0
Fills s owners old new (Ok n) = (outcomes : List Outcome) × AreTreeOutcomes s owners outcomes
    × Had old
    (record {
      made = new.made;
      failures = new.failures;
      told = new.told;
      told_failures = new.told_failures;
      totals = n;
    }) outcomes
Fills s owners old new (Err fault) = StopsBy s owners root_alone (tasks_in s [] 1) old new fault

-- The walk through two trees at once: what is still to compare, and what a step of it does.
use Rattle.std.specs.Prelude.{◌≡◌, ℕ, ◌+◌, ◌*◌, ◌<◌, ◌&&◌, Bool, List, [], ◌∷◌, ◌++◌, length, map, reverse, sum_by, option_map, Option, Some, None, Result, Ok, Err, ◌⊎◌, if◌then◌else◌}
use Rattle.std.specs.Io.KnownBytes.{Appends}
use Rattle.flashbase.specs.Device.{PutsPart, next_count}
use Rattle.flashbase.specs.Sinks.{SinkChange}
use Rattle.jmount.specs.Tree.{State, object, is_directory}
use Rattle.jmount.specs.Shown.{readable, shown}
use Rattle.jmount.specs.Find.{way_up}
use Rattle.jmount.specs.declared.object.Object.{Object}
use Rattle.jreport.specs.TreeText.{Met, met_after, is_entered}
use Rattle.jreport.specs.Remembering.{Becomes, remembered}
use Rattle.jreport.specs.declared.met.MetDirectories.{MetDirectories}
use Rattle.jreport.specs.declared.faults.ProgramFault.{ProgramFault}
use Rattle.jreport.specs.declared.faults.ProgramFault.TheVariants as program
use Rattle.std.specs.List.{flat_map}
use Rattle.jdiff.specs.Entries.{Entry, listed_entry}
use Rattle.jdiff.specs.Changes.{changes}
use Rattle.jdiff.specs.Names.{SharedName, names_there, joined}
use Rattle.jdiff.specs.Pairing.{Place, text_on}
use Rattle.jdiff.specs.declared.found.Found.{Found}
use Rattle.jdiff.specs.declared.walk.Walk.{Walk}
use Rattle.jdiff.specs.declared.walk.Visited.{Visited}
use Rattle.jdiff.specs.declared.comparing.Comparing.{Comparing}

-- ---- a path in one tree, by the number that it leads to, if it does

abbrev pub spot_entry : State → Met → List (List ℕ) → Option ℕ → Option Entry
spot_entry s met path None = None
spot_entry s met path (Some i) = listed_entry s met (path, i)

abbrev pub met_by : State → Met → Option ℕ → Met
met_by s met None = met
met_by s met (Some i) = met_after s met i

-- the directory whose names come next
abbrev pub entered_at : State → Met → Option ℕ → Option ℕ
entered_at s met None = None
entered_at s met (Some i) = if is_entered s met i then Some i else None

-- ---- the walk

-- a path, and the number that it leads to in each tree
abbrev pub Spot : Type 0
Spot = List (List ℕ) × Option ℕ × Option ℕ

abbrev pub spots_of : List (List ℕ) → List SharedName → List Spot
spots_of path names = map (λ n. (path ++ n.0 ∷ [], n.1, n.2)) names

abbrev pub spot_place : State → State → Met → Met → Spot → Place
spot_place s t left right spot = record {
  path = spot.0;
  left = spot_entry s left spot.0 spot.1;
  right = spot_entry t right spot.0 spot.2;
}

abbrev pub spots_after : State → State → Met → Met → Spot → List Spot → List Spot
spots_after s t left right spot todo =
    spots_of spot.0 (joined (names_there s (entered_at s left spot.1))
    (names_there t (entered_at t right spot.2))) ++ todo

-- the places of what is still to compare, first to last
abbrev pub AreSpotPlaces : State → State → Met → Met → List Spot → List Place → Type 0
AreSpotPlaces s t left right [] places = places ≡ []
AreSpotPlaces s t left right (spot ∷ todo) [] = ⊥
AreSpotPlaces s t left right (spot ∷ todo) (place ∷ places) =
    (place ≡ spot_place s t left right spot)
    × AreSpotPlaces s t (met_by s left spot.1) (met_by t right spot.2)
    (spots_after s t left right spot todo) places

abbrev pub root_spot : Spot
root_spot = ([], Some 1, Some 1)

-- ---- what was found at a path

abbrev pub found_if : ℕ → Bool → Bool → Option Object → Option Found
found_if i again entered None = None
found_if i again entered (Some o) =
    Some (record { ino = i; object = o; again = again; entered = entered })

-- what a number leads to
abbrev pub found_at : State → Met → Option ℕ → Option Found
found_at s met None = None
found_at s met (Some i) =
    found_if i (is_directory s i && met i) (is_entered s met i) (option_map shown (object s i))

abbrev pub directory_found : Option Found → Option ℕ
directory_found None = None
directory_found (Some f) = if f.entered then Some f.ino else None

-- as an entry of the tree
abbrev pub entry_found : State → List (List ℕ) → Found → Entry
entry_found s path f =
    record { path = path; object = f.object; bytes = readable s f.ino; again = f.again }

abbrev pub entries_here : State → List (List ℕ) → Option Found → Option Entry
entries_here s path found = option_map (entry_found s path) found

-- what was found is an object of the tree
abbrev pub IsFoundIn : State → Found → Type 0
IsFoundIn s f = option_map shown (object s f.ino) ≡ Some f.object

-- ---- a spot that is visited

-- the directories of each tree that were met
pub record BothMet : Type 0 where
  pub left : MetDirectories
  pub right : MetDirectories

-- the lines on it
abbrev pub spot_lines : Comparing → State → State → MetDirectories → MetDirectories → Spot
    → List (List ℕ)
spot_lines how s t left right spot = changes how (spot_entry s (remembered left) spot.0 spot.1)
    (spot_entry t (remembered right) spot.0 spot.2)

abbrev pub spot_text : Comparing → State → State → MetDirectories → MetDirectories → Spot → List ℕ
spot_text how s t left right spot = flat_map (λ line. line) (spot_lines how s t left right spot)

-- Its lines are put. The answer is how many, and which directories are entered.
abbrev pub PutsSpot : Comparing → State → State → BothMet → BothMet → Spot → SinkChange
    → Result Visited ProgramFault → Type 0
PutsSpot how s t met after spot sink (Ok v) =
    (v.lines ≡ length (spot_lines how s t met.left met.right spot))
    × (v.left ≡ entered_at s (remembered met.left) spot.1)
    × (v.right ≡ entered_at t (remembered met.right) spot.2)
    × Becomes met.left after.left (met_by s (remembered met.left) spot.1)
    × Becomes met.right after.right (met_by t (remembered met.right) spot.2)
    × Appends sink.old sink.new (spot_text how s t met.left met.right spot)
    × (sink.now ≡ sink.before)
PutsSpot how s t met after spot sink (Err program.Output) =
    PutsPart sink.old sink.new (spot_text how s t met.left met.right spot)
    × (sink.now ≡ next_count sink.before)
PutsSpot how s t met after spot sink (Err program.OutOfMemory) =
    Appends sink.old sink.new [] × (sink.now ≡ sink.before)
PutsSpot how s t met after spot sink (Err (program.Load fault)) = ⊥
PutsSpot how s t met after spot sink (Err (program.Scan fault)) = ⊥
PutsSpot how s t met after spot sink (Err (program.Mount fault)) = ⊥
PutsSpot how s t met after spot sink (Err (program.Clash addr other)) = ⊥
PutsSpot how s t met after spot sink (Err (program.File file)) = ⊥
PutsSpot how s t met after spot sink (Err (program.NotRead file)) = ⊥
PutsSpot how s t met after spot sink (Err (program.Listing bad)) = ⊥
PutsSpot how s t met after spot sink (Err (program.Session fault line cause)) = ⊥
PutsSpot how s t met after spot sink (Err (program.Path fault)) = ⊥
PutsSpot how s t met after spot sink (Err program.NotRegular) = ⊥
PutsSpot how s t met after spot sink (Err (program.NoSpace name)) = ⊥
PutsSpot how s t met after spot sink (Err (program.Data addr)) = ⊥
PutsSpot how s t met after spot sink (Err (program.TooLong addr)) = ⊥
PutsSpot how s t met after spot sink (Err (program.Image fault)) = ⊥

-- ---- what is still to compare at a point of the walk

-- what is left of these pairs of directories, where `path` leads to the first and each lies in the
-- next
abbrev pub spots_up : List (List SharedName) → List (List ℕ) → List Spot
spots_up [] path = []
spots_up (left ∷ above) path = spots_of path left ++ spots_up above (way_up path)

abbrev pub way_of_pair : Walk → List (List ℕ)
way_of_pair w = map (λ name. name.now) w.path.items

abbrev pub spots_left : Walk → List Spot
spots_left w = spots_up (w.left ∷ reverse w.above.items) (way_of_pair w)

abbrev pub AreLeft : State → State → Walk → List Place → Type 0
AreLeft s t w places =
    AreSpotPlaces s t (remembered w.met_left) (remembered w.met_right) (spots_left w) places

-- ---- how far it is to the end

-- what the walk has still to read of the pairs that it is in, and to go up
abbrev pub pairs_open : Walk → ℕ
pairs_open w =
    2 * (length w.left + sum_by (λ left. length left) w.above.items) + length w.above.items

-- the names of a directory that is entered
abbrev pub entered_names : State → MetDirectories → Option ℕ → List (List ℕ × ℕ)
entered_names s met i = names_there s (entered_at s (remembered met) i)

-- ---- a step

-- the walk goes back to the pair above, and nothing is put
pub record PassesUp (w w_after : Walk) (old new : Option (List ℕ)) (count : ℕ) : Type 0 where
  pub todo : spots_left w_after ≡ spots_left w
  pub left : w_after.met_left ≡ w.met_left
  pub right : w_after.met_right ≡ w.met_right
  pub nearer : pairs_open w_after < pairs_open w
  pub put : Appends old new []
  pub counted : count ≡ 0

-- the lines on the next path are put
pub record PutsNextPlace (how : Comparing) (s t : State) (w w_after : Walk)
    (old new : Option (List ℕ)) (count : ℕ) : Type 0 where
  pub spot : Spot
  pub rest : List Spot
  pub todo : spots_left w ≡ spot ∷ rest
  pub todo_then : spots_left w_after
      ≡ spots_after s t (remembered w.met_left) (remembered w.met_right) spot rest
  pub left : Becomes w.met_left w_after.met_left (met_by s (remembered w.met_left) spot.1)
  pub right : Becomes w.met_right w_after.met_right (met_by t (remembered w.met_right) spot.2)
  pub nearer : pairs_open w_after < pairs_open w + 2 * (length (entered_names s w.met_left spot.1)
      + length (entered_names t w.met_right spot.2))
  pub put : Appends old new (spot_text how s t w.met_left w.met_right spot)
  pub counted : count ≡ length (spot_lines how s t w.met_left w.met_right spot)

-- the walk went back to the pair above, or there is none
abbrev pub PairGoesUp : Walk → Walk → Option ℕ → Type 0
PairGoesUp w w_after (Some n) = (n ≡ 0) × (w.above.items ≡ w_after.above.items ++ w_after.left ∷ [])
    × (way_of_pair w_after ≡ way_up (way_of_pair w))
    × (w_after.met_left ≡ w.met_left) × (w_after.met_right ≡ w.met_right)
PairGoesUp w w_after None = w.above.items ≡ []

-- a beginning of what was to put went out
abbrev pub PutsPartOfLeft : Comparing → State → State → Walk → Option (List ℕ)
    → Option (List ℕ) → Type 0
PutsPartOfLeft how s t w old new =
    (places : List Place) × AreLeft s t w places × PutsPart old new (text_on how places)

-- `None`: nothing is still to compare. At a fault a beginning of what was to put went out.
abbrev pub PutsPairStep : Comparing → State → State → Walk → Walk → SinkChange
    → Result (Option ℕ) ProgramFault → Type 0
PutsPairStep how s t w w_after sink (Ok (Some n)) =
    (PassesUp w w_after sink.old sink.new n ⊎ PutsNextPlace how s t w w_after sink.old sink.new n)
    × (sink.now ≡ sink.before)
PutsPairStep how s t w w_after sink (Ok None) =
    (spots_left w ≡ []) × Appends sink.old sink.new [] × (sink.now ≡ sink.before)
PutsPairStep how s t w w_after sink (Err program.Output) =
    PutsPartOfLeft how s t w sink.old sink.new × (sink.now ≡ next_count sink.before)
PutsPairStep how s t w w_after sink (Err program.OutOfMemory) =
    PutsPartOfLeft how s t w sink.old sink.new × (sink.now ≡ sink.before)
PutsPairStep how s t w w_after sink (Err (program.Load fault)) = ⊥
PutsPairStep how s t w w_after sink (Err (program.Scan fault)) = ⊥
PutsPairStep how s t w w_after sink (Err (program.Mount fault)) = ⊥
PutsPairStep how s t w w_after sink (Err (program.Clash addr other)) = ⊥
PutsPairStep how s t w w_after sink (Err (program.File file)) = ⊥
PutsPairStep how s t w w_after sink (Err (program.NotRead file)) = ⊥
PutsPairStep how s t w w_after sink (Err (program.Listing bad)) = ⊥
PutsPairStep how s t w w_after sink (Err (program.Session fault line cause)) = ⊥
PutsPairStep how s t w w_after sink (Err (program.Path fault)) = ⊥
PutsPairStep how s t w w_after sink (Err program.NotRegular) = ⊥
PutsPairStep how s t w w_after sink (Err (program.NoSpace name)) = ⊥
PutsPairStep how s t w w_after sink (Err (program.Data addr)) = ⊥
PutsPairStep how s t w w_after sink (Err (program.TooLong addr)) = ⊥
PutsPairStep how s t w w_after sink (Err (program.Image fault)) = ⊥

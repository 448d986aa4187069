-- The walk of `ls`: what is still to print, and what a step of it does.
use Rattle.std.specs.Prelude.{◌≡◌, ℕ, ◌+◌, ◌*◌, ◌<◌, Bool, true, false, not, if◌then◌else◌, List, [], ◌∷◌, ◌++◌, length, map, reverse, sum_by, count_by, Option, Result, Ok, Err, ◌⊎◌}
use Rattle.std.specs.FinMap.{entries}
use Rattle.std.specs.List.{flat_map}
use Rattle.std.specs.Io.KnownBytes.{Appends}
use Rattle.flashbase.specs.Device.{PutsPart, next_count}
use Rattle.flashbase.specs.Sinks.{SinkChange}
use Rattle.jmount.specs.Tree.{State, entries_in}
use Rattle.jmount.specs.Find.{walk, way_up}
use Rattle.jreport.specs.Remembering.{Becomes, remembered}
use Rattle.jreport.specs.TreeText.{Item, Met, items_of, line_of, met_after, todo_after, is_entered, AreLinesOf}
use Rattle.jreport.specs.declared.met.MetDirectories.{MetDirectories}
use Rattle.jreport.specs.declared.tree_walk.Walk.{Walk}
use Rattle.jreport.specs.declared.faults.ProgramFault.{ProgramFault}
use Rattle.jreport.specs.declared.faults.ProgramFault.TheVariants as program

-- the path of an item leads to it
abbrev pub LeadsToItem : State → Item → Type 0
LeadsToItem s item = walk s item.0 (Ok 1) ≡ Ok item.1

-- the text of what is still to print
abbrev pub IsTextOf : State → Met → List Item → List ℕ → Type 0
IsTextOf s met todo text =
    (lines : List (List ℕ)) × AreLinesOf s met todo lines × (text ≡ flat_map (λ line. line) lines)

-- a beginning of it went out
abbrev pub PutsPartOf : State → Met → List Item → Option (List ℕ) → Option (List ℕ) → Type 0
PutsPartOf s met todo old new = (text : List ℕ) × IsTextOf s met todo text × PutsPart old new text

-- ---- an object that is visited

-- Its line is put, as if it had been the next to print. The answer is whether it is entered.
abbrev pub PutsVisit : State → MetDirectories → MetDirectories → Item → SinkChange
    → Result Bool ProgramFault → Type 0
PutsVisit s met met_then item sink (Ok entered) =
    (entered ≡ is_entered s (remembered met) item.1)
    × Becomes met met_then (met_after s (remembered met) item.1)
    × Appends sink.old sink.new (line_of s (remembered met) item) × (sink.now ≡ sink.before)
PutsVisit s met met_then item sink (Err program.Output) =
    PutsPart sink.old sink.new (line_of s (remembered met) item)
    × (sink.now ≡ next_count sink.before)
PutsVisit s met met_then item sink (Err program.OutOfMemory) =
    Appends sink.old sink.new [] × (sink.now ≡ sink.before)
PutsVisit s met met_then item sink (Err (program.Load fault)) = ⊥
PutsVisit s met met_then item sink (Err (program.Scan fault)) = ⊥
PutsVisit s met met_then item sink (Err (program.Mount fault)) = ⊥
PutsVisit s met met_then item sink (Err (program.Clash addr other)) = ⊥
PutsVisit s met met_then item sink (Err (program.File file)) = ⊥
PutsVisit s met met_then item sink (Err (program.NotRead file)) = ⊥
PutsVisit s met met_then item sink (Err (program.Listing bad)) = ⊥
PutsVisit s met met_then item sink (Err (program.Session fault line cause)) = ⊥
PutsVisit s met met_then item sink (Err (program.Path fault)) = ⊥
PutsVisit s met met_then item sink (Err program.NotRegular) = ⊥
PutsVisit s met met_then item sink (Err (program.NoSpace name)) = ⊥
PutsVisit s met met_then item sink (Err (program.Data addr)) = ⊥
PutsVisit s met met_then item sink (Err (program.TooLong addr)) = ⊥
PutsVisit s met met_then item sink (Err (program.Image fault)) = ⊥

-- ---- what is still to print at a place of the walk

-- what is left of these directories, where `path` leads to the first and each lies in the next
abbrev pub items_up : State → List (List (List ℕ × ℕ)) → List (List ℕ) → List Item
items_up s [] path = []
items_up s (left ∷ above) path = items_of s path left ++ items_up s above (way_up path)

abbrev pub way_of : Walk → List (List ℕ)
way_of w = map (λ name. name.now) w.path.items

abbrev pub todo_of : State → Walk → List Item
todo_of s w = items_up s (w.left ∷ reverse w.above.items) (way_of w)

-- ---- how far it is to the end

-- the names whose directory was not met
abbrev pub unmet : State → Met → ℕ
unmet s met = count_by (λ e. not (met e.0.0)) (entries s.names)

-- what the walk has still to read of the directories that it is in, and to go up
abbrev pub open_left : Walk → ℕ
open_left w =
    2 * (length w.left + sum_by (λ left. length left) w.above.items) + length w.above.items

-- the same of what it enters there
abbrev pub names_entered : State → Met → ℕ → ℕ
names_entered s met i = if is_entered s met i then length (entries_in s i) else 0

-- ---- a step

-- A name leads to nothing, or the walk goes back to the directory above: nothing is put.
pub record PassesOn (s : State) (w w_after : Walk) (old new : Option (List ℕ)) : Type 0 where
  pub todo : todo_of s w_after ≡ todo_of s w
  pub met : Becomes w.met w_after.met (remembered w.met)
  pub nearer : open_left w_after < open_left w
  pub put : Appends old new []

-- The line of the next item is put.
pub record PutsNext (s : State) (w w_after : Walk) (old new : Option (List ℕ)) : Type 0 where
  pub item : Item
  pub rest : List Item
  pub todo : todo_of s w ≡ item ∷ rest
  pub todo_then : todo_of s w_after ≡ todo_after s (remembered w.met) item rest
  pub met : Becomes w.met w_after.met (met_after s (remembered w.met) item.1)
  pub nearer :
      open_left w_after < open_left w + 2 * names_entered s (remembered w.met) item.1
  pub put : Appends old new (line_of s (remembered w.met) item)

-- the walk went back to the directory above, or there is none
abbrev pub GoesUp : Walk → Walk → Bool → Type 0
GoesUp w w_after true = (w.above.items ≡ w_after.above.items ++ w_after.left ∷ [])
    × (way_of w_after ≡ way_up (way_of w)) × (w_after.met ≡ w.met)
GoesUp w w_after false = w.above.items ≡ []

-- `false`: nothing is still to print. At a fault a beginning of what was to print went out.
abbrev pub PutsStep : State → Walk → Walk → SinkChange → Result Bool ProgramFault → Type 0
PutsStep s w w_after sink (Ok true) =
    (PassesOn s w w_after sink.old sink.new ⊎ PutsNext s w w_after sink.old sink.new)
    × (sink.now ≡ sink.before)
PutsStep s w w_after sink (Ok false) =
    (todo_of s w ≡ []) × Appends sink.old sink.new [] × (sink.now ≡ sink.before)
PutsStep s w w_after sink (Err program.Output) =
    PutsPartOf s (remembered w.met) (todo_of s w) sink.old sink.new
    × (sink.now ≡ next_count sink.before)
PutsStep s w w_after sink (Err program.OutOfMemory) =
    PutsPartOf s (remembered w.met) (todo_of s w) sink.old sink.new × (sink.now ≡ sink.before)
PutsStep s w w_after sink (Err (program.Load fault)) = ⊥
PutsStep s w w_after sink (Err (program.Scan fault)) = ⊥
PutsStep s w w_after sink (Err (program.Mount fault)) = ⊥
PutsStep s w w_after sink (Err (program.Clash addr other)) = ⊥
PutsStep s w w_after sink (Err (program.File file)) = ⊥
PutsStep s w w_after sink (Err (program.NotRead file)) = ⊥
PutsStep s w w_after sink (Err (program.Listing bad)) = ⊥
PutsStep s w w_after sink (Err (program.Session fault line cause)) = ⊥
PutsStep s w w_after sink (Err (program.Path fault)) = ⊥
PutsStep s w w_after sink (Err program.NotRegular) = ⊥
PutsStep s w w_after sink (Err (program.NoSpace name)) = ⊥
PutsStep s w w_after sink (Err (program.Data addr)) = ⊥
PutsStep s w w_after sink (Err (program.TooLong addr)) = ⊥
PutsStep s w w_after sink (Err (program.Image fault)) = ⊥

-- What calls answer that look into an image's file system.
use Rattle.std.specs.Prelude.{◌≡◌, ◌⊎◌, ℕ, ◌-◌, ◌<◌, ◌++◌, List, length, take, drop, min, Some, Ok, Err}
use Rattle.jmount.specs.Find.{find}
use Rattle.jmount.specs.Shown.{readable}
use Rattle.jmount.specs.Tree.{State}
use Rattle.jmount.specs.declared.fault.FindFault.{FindFault}
use Rattle.jcalls.specs.Rows.{object_seen, stat_row, tree_names, tree_rows}
use Rattle.jcalls.specs.Shown.{Shows, ShowsNone}
use Rattle.jcalls.specs.Told.{find_told}
use Rattle.jcalls.specs.declared.how.How.{How}
use Rattle.jcalls.specs.declared.rows.Entry.{Entry}
use Rattle.jcalls.specs.declared.rows.Needed.{Needed}
use Rattle.jcalls.specs.declared.rows.Stat.{Stat}
use Rattle.jcalls.specs.declared.told.Told.{Told}
use Rattle.jmount.specs.declared.object.Object.{Object}

-- ---- a path

-- the path leads to the object that this row shows
abbrev pub LeadsToRow : State → List ℕ → Stat → Type 0
LeadsToRow s path row = (find s path ≡ Ok row.number)
    × ((o : Object) × (object_seen s row.number ≡ Some o) × (row ≡ stat_row row.number o))

-- the path leads to nothing, and this is told
abbrev pub LeadsNowhere : State → List ℕ → Told → Type 0
LeadsNowhere s path told = (why : FindFault) × (find s path ≡ Err why) × (told ≡ find_told why)

abbrev pub Stats : How → List ℕ → List ℕ → Stat → Type 0
Stats how image path row = (s : State) × Shows how image s × LeadsToRow s path row

abbrev pub StatRefused : How → List ℕ → List ℕ → Told → Type 0
StatRefused how image path told =
    ShowsNone how image told ⊎ ((s : State) × Shows how image s × LeadsNowhere s path told)

-- ---- the bytes of an object

-- as many from the offset on as there is room for
abbrev pub ReadsAt : State → ℕ → ℕ → List ℕ → List ℕ → ℕ → Type 0
ReadsAt s number offset old new got =
    (got ≡ min (length old) (length (readable s number) - offset))
    × (new ≡ take got (drop offset (readable s number)) ++ drop got old)

-- ---- all names

-- Each is given a row, and all bytes of names are given; what is behind them stays as it was.
pub record GivesTree (s : State) (rows_old rows_new : List Entry) (names_old names_new : List ℕ)
    (needed : Needed) : Type 0 where
  pub rows : rows_new ≡ tree_rows s ++ drop (length (tree_rows s)) rows_old
  pub names : names_new ≡ tree_names s ++ drop (length (tree_names s)) names_old
  pub row_count : needed.rows ≡ length (tree_rows s)
  pub byte_count : needed.bytes ≡ length (tree_names s)

-- There is no room for all rows, or none for all bytes, and how many there are is told.
abbrev pub NeedsForTree : State → List Entry → List ℕ → Needed → Type 0
NeedsForTree s rows names needed =
    (needed.rows ≡ length (tree_rows s)) × (needed.bytes ≡ length (tree_names s))
    × ((length rows < needed.rows) ⊎ (length names < needed.bytes))

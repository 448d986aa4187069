-- The rows of answers.
use Rattle.std.specs.Prelude.{ℕ, ◌+◌, List, [], ◌∷◌, length, flat_map, Option, Some, None, option_map}
use Rattle.jmount.specs.Shown.{shown}
use Rattle.jmount.specs.Tree.{State, object, all_entries}
use Rattle.jmount.specs.declared.object.Object.{Object}
use Rattle.jcalls.specs.declared.rows.Stat.{Stat}
use Rattle.jcalls.specs.declared.rows.Entry.{Entry}

-- an object as callers see it, with its number
abbrev pub stat_row : ℕ → Object → Stat
stat_row number o = record {
  number = number;
  mode = o.mode;
  uid = o.uid;
  gid = o.gid;
  size = o.size;
  atime = o.atime;
  mtime = o.mtime;
  ctime = o.ctime;
}

abbrev pub missing_row : ℕ → Stat
missing_row number = record {
  number = number;
  mode = 0;
  uid = 0;
  gid = 0;
  size = 0;
  atime = 0;
  mtime = 0;
  ctime = 0;
}

-- the object of a number, if it is there
abbrev pub object_seen : State → ℕ → Option Object
object_seen s number = option_map shown (object s number)

-- ---- the names of a tree

abbrev pub entry_by : ℕ → ℕ × List ℕ × ℕ → Option Object → Entry
entry_by at (directory, name, number) (Some o) = record {
  directory = directory;
  is_there = 1;
  object = stat_row number o;
  name_at = at;
  name_len = length name;
}
entry_by at (directory, name, number) None = record {
  directory = directory;
  is_there = 0;
  object = missing_row number;
  name_at = at;
  name_len = length name;
}

-- the row of a name that stands at this place among the bytes of all names
abbrev pub entry_row : State → ℕ → ℕ × List ℕ × ℕ → Entry
entry_row s at entry = entry_by at entry (object_seen s entry.2)

-- those of names that stand one after another from this place on
abbrev pub entry_rows : State → ℕ → List (ℕ × List ℕ × ℕ) → List Entry
entry_rows s at [] = []
entry_rows s at (entry ∷ rest) =
    entry_row s at entry ∷ entry_rows s (at + length entry.1) rest

-- their bytes
abbrev pub entry_names : List (ℕ × List ℕ × ℕ) → List ℕ
entry_names entries = flat_map (λ entry. entry.1) entries

-- of all names, by directory and then in byte order
abbrev pub tree_rows : State → List Entry
tree_rows s = entry_rows s 0 (all_entries s)

abbrev pub tree_names : State → List ℕ
tree_names s = entry_names (all_entries s)

-- What `ls` lists of a tree, path by path.
use Rattle.std.specs.Prelude.{◌≡◌, ℕ, ◌&&◌, Bool, List, [], ◌∷◌, filter_map, Option, Some, None, option_map}
use Rattle.jmount.specs.Tree.{State, object, is_directory}
use Rattle.jmount.specs.Shown.{readable, shown}
use Rattle.jmount.specs.declared.object.Object.{Object}
use Rattle.jreport.specs.TreeText.{Item, Met, none_met, met_after, todo_after}

-- an object at a path, with its bytes (of a symlink where it leads); `again`: a directory that was
-- met before
pub record Entry : Type 0 where
  pub path : List (List ℕ)
  pub object : Object
  pub bytes : List ℕ
  pub again : Bool

abbrev pub entry_if : List (List ℕ) → List ℕ → Bool → Option Object → Option Entry
entry_if path bytes again None = None
entry_if path bytes again (Some o) =
    Some (record { path = path; object = o; bytes = bytes; again = again })

-- what a path leads to, by its number, if there is an object
abbrev pub listed_entry : State → Met → Item → Option Entry
listed_entry s met item = entry_if item.0 (readable s item.1) (is_directory s item.1 && met item.1)
    (option_map shown (object s item.1))

-- what is still to list, first to last, as `ls` walks: a directory that was met before is not
-- entered
abbrev pub AreFound : State → Met → List Item → List (Option Entry) → Type 0
AreFound s met [] found = found ≡ []
AreFound s met (item ∷ todo) [] = ⊥
AreFound s met (item ∷ todo) (entry ∷ found) =
    (entry ≡ listed_entry s met item)
    × AreFound s (met_after s met item.1) (todo_after s met item todo) found

-- those that are there
abbrev pub entries_found : List (Option Entry) → List Entry
entries_found found = filter_map (λ entry. entry) found

-- rule: What is printed: The entries of a tree, path by path.
--   definitions: jdiff.Entries.AreEntries
--   code: jdiff::walk::Walk
-- the entries of a tree, in the order of `ls`
abbrev pub AreEntries : State → List Entry → Type 0
AreEntries s entries = (found : List (Option Entry)) × AreFound s none_met (([], 1) ∷ []) found
    × (entries ≡ entries_found found)

-- By which name a walk from the root enters each directory first. It goes as that of `ls` does:
-- what lies in a directory comes before what lies beside it, and each directory is entered once.
use Rattle.std.specs.Prelude.{ℕ, zero, suc, ◌==◌, ◌&&◌, Bool, not, is_none, List, [], ◌∷◌, ◌++◌, length, map, Option, if◌then◌else◌}
use Rattle.std.specs.List.{find}
use Rattle.jmount.specs.Tree.{State, all_entries, entries_in, is_directory}

-- a name: its directory's number, its bytes, and the number that it stands for
abbrev pub NameOf : Type 0
NameOf = ℕ × List ℕ × ℕ

-- the first of some names that stands for a number
abbrev pub first_among : List NameOf → ℕ → Option NameOf
first_among names i = find (λ n. n.2 == i) names

-- what is left of a directory, by its number
abbrev pub unread_names : ℕ × List (List ℕ × ℕ) → List NameOf
unread_names dir = map (λ e. (dir.0, e.0, e.1)) dir.1

-- the names in a directory, in byte order
abbrev pub directory_names : State → ℕ → List NameOf
directory_names s dir = unread_names (dir, entries_in s dir)

-- a directory is entered where it is met first; the root was met before all others
abbrev pub is_unmet : State → List NameOf → ℕ → Bool
is_unmet s met i = is_directory s i && (not (i == 1) && is_none (first_among met i))

-- The names by which directories are entered, first to last: those by which some were, and those
-- among the names that are still to read, so many of them at most.
unfoldable pub entered_from : State → ℕ → List NameOf → List NameOf → List NameOf
entered_from s zero met todo = met
entered_from s (suc steps) met [] = met
entered_from s (suc steps) met (n ∷ todo) = if is_unmet s met n.2
    then entered_from s steps (met ++ n ∷ []) (directory_names s n.2 ++ todo)
    else entered_from s steps met todo

-- the walk reads no name twice
abbrev pub entered : State → List NameOf
entered s = entered_from s (length (all_entries s)) [] (directory_names s 1)

-- the name by which the walk enters a directory, if it does
unfoldable pub entry_name : State → ℕ → Option NameOf
entry_name s dir = first_among (entered s) dir

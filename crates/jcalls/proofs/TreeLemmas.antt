-- The names of a tree, one after another; and what a path leads to.
use Rattle.std.proofs.Common.{◌≡◌, ◌⊎◌, ◌<◌, drop, ℕ, cond, Bool, true, false, List, [], ◌∷◌, ◌++◌, length, refl, sym, ap, ◌∙◌, subst, Option, Some, None, Ok, Err, append_assoc, append-nil, length-append}
use Rattle.std.specs.Prelude.{is_ok, is_some, Result}
use Rattle.std.proofs.lemmas.Bool.{false≢true}
use Rattle.jmount.specs.Tree.{State, ObjectOf, object, named, is_there, is_directory, has_bits, directory_bits}
use Rattle.jmount.specs.Find.{find as find_path, find_names, path_names, step, step_to, walk}
use Rattle.jmount.specs.declared.fault.FindFault.{FindFault}
use Rattle.jmount.specs.declared.fault.FindFault.TheVariants as find
use Rattle.jmount.proofs.ShapeLemmas.{same_ok}
use Rattle.jcalls.specs.Looking.{GivesTree, NeedsForTree}
use Rattle.jcalls.specs.Rows.{entry_row, entry_rows, entry_names, tree_rows, tree_names}
use Rattle.jcalls.specs.declared.rows.Needed.{Needed}
use Rattle.jcalls.specs.declared.rows.Entry.{Entry}

-- ---- rows and bytes of the names so far, and of those that are left, are those of all

pub record AreAdded (s : State) (all left : List (ℕ × List ℕ × ℕ)) (rows : List Entry) (bytes : List ℕ) : Type 0 where
  pub rows_are : rows ++ entry_rows s (length bytes) left ≡ entry_rows s 0 all
  pub bytes_are : bytes ++ entry_names left ≡ entry_names all

pub added_begins : (s : State) (all : List (ℕ × List ℕ × ℕ)) (rows : List Entry) (bytes : List ℕ) → rows ≡ [] → bytes ≡ [] → AreAdded s all all rows bytes
added_begins s all rows bytes no_rows no_bytes = record {
  rows_are = ap (λ l. l ++ entry_rows s (length bytes) all) no_rows ∙ ap (λ (l : List ℕ). entry_rows s (length l) all) no_bytes;
  bytes_are = ap (λ l. l ++ entry_names all) no_bytes;
}

pub added_goes_on : (s : State) (all left : List (ℕ × List ℕ × ℕ)) (entry : ℕ × List ℕ × ℕ) (rows new_rows : List Entry) (bytes new_bytes : List ℕ)
    → AreAdded s all (entry ∷ left) rows bytes → new_rows ≡ rows ++ entry_row s (length bytes) entry ∷ [] → new_bytes ≡ bytes ++ entry.1
    → AreAdded s all left new_rows new_bytes
added_goes_on s all left entry rows new_rows bytes new_bytes before rows_is bytes_is =
    let row : Entry = entry_row s (length bytes) entry in
    record {
      rows_are =
          ap (λ l. l ++ entry_rows s (length new_bytes) left) rows_is
          ∙ append_assoc rows (row ∷ []) (entry_rows s (length new_bytes) left)
          ∙ ap (λ (n : ℕ). rows ++ row ∷ entry_rows s n left) (ap length bytes_is ∙ length-append bytes entry.1)
          ∙ before.rows_are;
      bytes_are =
          ap (λ l. l ++ entry_names left) bytes_is
          ∙ append_assoc bytes entry.1 (entry_names left)
          ∙ before.bytes_are;
    }

pub added_rows : (s : State) (all : List (ℕ × List ℕ × ℕ)) (rows : List Entry) (bytes : List ℕ) → AreAdded s all [] rows bytes → rows ≡ entry_rows s 0 all
added_rows s all rows bytes done = sym (append-nil rows) ∙ done.rows_are

pub added_bytes : (s : State) (all : List (ℕ × List ℕ × ℕ)) (rows : List Entry) (bytes : List ℕ) → AreAdded s all [] rows bytes → bytes ≡ entry_names all
added_bytes s all rows bytes done = sym (append-nil bytes) ∙ done.bytes_are

-- ---- the names of a tree, given to a caller

pub gives_by : (s : State) (rows : List Entry) (bytes : List ℕ) (rows_old rows_new : List Entry) (names_old names_new : List ℕ) (needed : Needed)
    → rows ≡ tree_rows s → bytes ≡ tree_names s → rows_new ≡ rows ++ drop (length rows) rows_old → names_new ≡ bytes ++ drop (length bytes) names_old
    → needed.rows ≡ length rows → needed.bytes ≡ length bytes → GivesTree s rows_old rows_new names_old names_new needed
gives_by s rows bytes rows_old rows_new names_old names_new needed rows_are bytes_are given named row_count byte_count = record {
  rows = subst (λ (l : List Entry). rows_new ≡ l ++ drop (length l) rows_old) rows_are given;
  names = subst (λ (l : List ℕ). names_new ≡ l ++ drop (length l) names_old) bytes_are named;
  row_count = row_count ∙ ap length rows_are;
  byte_count = byte_count ∙ ap length bytes_are;
}

pub needs_by : (s : State) (rows : List Entry) (bytes : List ℕ) (rows_old : List Entry) (names_old : List ℕ) (needed : Needed)
    → rows ≡ tree_rows s → bytes ≡ tree_names s → needed.rows ≡ length rows → needed.bytes ≡ length bytes
    → (length rows_old < needed.rows) ⊎ (length names_old < needed.bytes) → NeedsForTree s rows_old names_old needed
needs_by s rows bytes rows_old names_old needed rows_are bytes_are row_count byte_count short =
    (row_count ∙ ap length rows_are, byte_count ∙ ap length bytes_are, short)

-- ---- a path leads to an object that is there

step_reaches : (s : State) (d : Bool) (o : Option ℕ) (c : ℕ) → cond d (step_to s o) (Err find.NotDirectory) ≡ Ok c → is_there s c ≡ true
step_reaches s true None c e = absurd (false≢true (ap is_ok e))
step_reaches s true (Some i) c e = by (is_there s i) refl e
  where
    by : (b : Bool) → is_there s i ≡ b → cond b (Ok i) (Err find.NotFound) ≡ Ok c → is_there s c ≡ true
    by true there e = subst (λ (k : ℕ). is_there s k ≡ true) (same_ok i c e) there
    by false there e = absurd (false≢true (ap is_ok e))
step_reaches s false o c e = absurd (false≢true (ap is_ok e))

walk_reaches : (s : State) (names : List (List ℕ)) (here : Result ℕ FindFault) (to : ℕ) → ((i : ℕ) → here ≡ Ok i → is_there s i ≡ true)
    → walk s names here ≡ Ok to → is_there s to ≡ true
walk_reaches s [] here to there leads = there to leads
walk_reaches s (name ∷ names) (Err f) to there leads = absurd (false≢true (ap is_ok leads))
walk_reaches s (name ∷ names) (Ok here) to there leads =
    walk_reaches s names (step s here name) to (λ i is. step_reaches s (is_directory s here) (named s here name) i is) leads

root_there : (s : State) → is_directory s 1 ≡ true → is_there s 1 ≡ true
root_there s root = by (object s 1) refl root
  where
    by : (o : Option (ObjectOf (List ℕ))) → object s 1 ≡ o → has_bits directory_bits o ≡ true → is_there s 1 ≡ true
    by None is h = absurd (false≢true h)
    by (Some o) is h = ap is_some is

pub path_reaches : (s : State) (path : List ℕ) (to : ℕ) → is_directory s 1 ≡ true → find_path s path ≡ Ok to → is_there s to ≡ true
path_reaches s path to root leads = by (path_names path) leads
  where
    by : (o : Option (List (List ℕ))) → find_names s o ≡ Ok to → is_there s to ≡ true
    by None is = absurd (false≢true (ap is_ok is))
    by (Some names) is = walk_reaches s names (Ok 1) to (λ i same. subst (λ (k : ℕ). is_there s k ≡ true) (same_ok 1 i same) (root_there s root)) is

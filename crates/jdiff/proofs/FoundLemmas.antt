-- What is found at a path, as an entry.
use Rattle.std.proofs.Common.{◌≡◌, ℕ, ◌≤◌, ◌==◌, ◌&&◌, ◌||◌, not, cond, Bool, true, false, List, [], length, refl, ap, arith, Option, Some, None}
use Rattle.std.specs.Prelude.{option_map, IfSome}
use Rattle.jmount.specs.Tree.{ObjectOf, State, object, is_directory, has_bits, directory_bits, type_bits, regular_bits, symlink_bits}
use Rattle.jmount.specs.Shown.{readable, shown, bytes_if}
use Rattle.jmount.specs.declared.object.Object.{Object}
use Rattle.jreport.specs.TreeText.{Met, is_entered}
use Rattle.jdiff.specs.Entries.{entry_if}
use Rattle.jdiff.specs.declared.found.Found.{Found}
use Rattle.jdiff.specs.Walking.{spot_entry, entered_at, found_if, found_at, directory_found, entries_here, IsFoundIn}

pub found_entry : (s : State) (met : Met) (path : List (List ℕ)) (o : Option ℕ) → entries_here s path (found_at s met o) ≡ spot_entry s met path o
found_entry s met path None = refl
found_entry s met path (Some i) = by (option_map shown (object s i))
  where
    by : (x : Option Object) → entries_here s path (found_if i (is_directory s i && met i) (is_entered s met i) x) ≡ entry_if path (readable s i) (is_directory s i && met i) x
    by None = refl
    by (Some x) = refl

pub found_directory : (s : State) (met : Met) (o : Option ℕ) → directory_found (found_at s met o) ≡ entered_at s met o
found_directory s met None = refl
found_directory s met (Some i) = by (object s i)
  where
    by : (x : Option (ObjectOf (List ℕ)))
        → directory_found (found_if i (has_bits directory_bits x && met i) (has_bits directory_bits x && not (met i)) (option_map shown x))
        ≡ cond (has_bits directory_bits x && not (met i)) (Some i) None
    by None = refl
    by (Some x) = refl

pub found_there : (s : State) (met : Met) (o : Option ℕ) → IfSome (found_at s met o) (IsFoundIn s)
found_there s met None = tt
found_there s met (Some i) = by (option_map shown (object s i)) refl
  where
    by : (x : Option Object) → option_map shown (object s i) ≡ x → IfSome (found_if i (is_directory s i && met i) (is_entered s met i) x) (IsFoundIn s)
    by None is = tt
    by (Some x) is = is

-- an object has no more bytes than its size
bytes_bound : (o : Option (ObjectOf (List ℕ))) (x : Object) → option_map shown o ≡ Some x → length (bytes_if o) ≤ x.size
bytes_bound None x is = cc
bytes_bound (Some o) x is = by ((type_bits o.mode == regular_bits) || (type_bits o.mode == symlink_bits)) (ap (λ (y : Object). y.size) one)
  where
    one : shown o ≡ x
    one = cc

    by : (b : Bool) → length o.body ≡ x.size → length (cond b o.body []) ≤ x.size
    by true size = omega arith
    by false size = omega arith

pub found_bound : (s : State) (f : Found) → IsFoundIn s f → length (readable s f.ino) ≤ f.object.size
found_bound s f is = bytes_bound (object s f.ino) f.object is

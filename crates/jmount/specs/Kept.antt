-- What a mounted image keeps beside its file system.
use Rattle.std.specs.Prelude.{◌≡◌, ◌==◌, ℕ, Bool, true, not, List, Contains, Decides, Option, Some, None, is_some, if◌then◌else◌}
use Rattle.std.specs.Option.{option_and_then}
use Rattle.std.specs.Ordering.{nat_cmp}
use Rattle.std.specs.BTreeMap.{IsOrdered, get}
use Rattle.std.specs.BTreeSet.{BTreeSet, contains}
use Rattle.jnode.specs.declared.node.Dirent.{Dirent}
use Rattle.jname.specs.Live.{all_names}
use Rattle.jmount.specs.Shape.{HasOneName, HasShape}
use Rattle.jmount.specs.Stored.{ObjectsByNumber, stored_state}
use Rattle.jmount.specs.Tree.{State, first_directory_in, is_there}
use Rattle.jmount.specs.declared.stored.Stored.{Stored}

-- the directory that is kept with an object; 0 is none
abbrev pub directory_kept : Stored → Option ℕ
directory_kept stored = if stored.directory == 0 then None else Some stored.directory

abbrev pub directory_kept_at : ObjectsByNumber → ℕ → Option ℕ
directory_kept_at objects i = option_and_then directory_kept (get nat_cmp objects i)

abbrev pub HasNoDirectories : ObjectsByNumber → Type 0
HasNoDirectories objects = (i : ℕ) → directory_kept_at objects i ≡ None

-- with each object the directory of its first name is kept
abbrev pub HasDirectories : ObjectsByNumber → List (ℕ × List ℕ × ℕ) → Type 0
HasDirectories objects names = (i : ℕ) → is_some (get nat_cmp objects i) ≡ true
    → directory_kept_at objects i ≡ first_directory_in names i

-- at most one of some names stands for a number
abbrev pub HasOneNameIn : List (ℕ × List ℕ × ℕ) → ℕ → Type 0
HasOneNameIn names i = (e f : ℕ × List ℕ × ℕ) → Contains names e → Contains names f
    → e.2 ≡ i → f.2 ≡ i → (e.0 ≡ f.0) × (e.1 ≡ f.1)

-- a set has the numbers of the objects that several of some names stand for
abbrev pub HasSeveralIn : ObjectsByNumber → List (ℕ × List ℕ × ℕ) → BTreeSet ℕ → Type 0
HasSeveralIn objects names several = (i : ℕ) → is_some (get nat_cmp objects i) ≡ true
    → Decides (not (contains nat_cmp several i)) (HasOneNameIn names i)

-- the same of a file system
abbrev pub HasSeveral : State → BTreeSet ℕ → Type 0
HasSeveral s several = (i : ℕ) → is_there s i ≡ true
    → Decides (not (contains nat_cmp several i)) (HasOneName s i)

-- the objects come in order, each with the directory of its first name, it is known which have
-- several, and of the tree whether it has its shape
pub record IsKept (objects : ObjectsByNumber) (linked : BTreeSet ℕ) (names : List Dirent)
    (next : ℕ) (has_shape : Bool) : Type 0 where
  pub ordered : IsOrdered nat_cmp objects
  pub directories : HasDirectories objects (all_names names)
  pub several : HasSeveral (stored_state objects names next) linked
  pub shape : Decides has_shape (HasShape (stored_state objects names next))

-- The objects that a path ever named: what became of them is told by `history` with a path.
use Rattle.std.specs.Prelude.{◌≡◌, ◌⊎◌, ℕ, ◌==◌, ◌&&◌, not, Bool, false, bytes_eq, List, [], ◌∷◌, Option, Some, None, Ok, Err, ⊤}
use Rattle.std.specs.BTreeSet.{BTreeSet, contains}
use Rattle.std.specs.List.{list_any}
use Rattle.std.specs.Ordering.{nat_cmp}
use Rattle.jnode.specs.declared.node.Dirent.{Dirent}
use Rattle.jnode.specs.declared.node.NodeRef.{NodeRef}
use Rattle.jnode.specs.declared.node.NodeRef.TheVariants.{Entry, Inode}
use Rattle.jmount.specs.Find.{find, path_names, path_text, way_up}
use Rattle.jmount.specs.Tree.{State}
use Rattle.jmount.specs.declared.fault.FindFault.{FindFault}
use Rattle.jmount.specs.declared.fault.FindFault.TheVariants as missing
use Rattle.jsteps.specs.Where.{last_of}
use Rattle.jcompact.specs.Matters.{Placed}
use Rattle.jreport.specs.declared.faults.ProgramFault.TheVariants as program
use Rattle.jedge.specs.declared.fault.Fault.{Fault}
use Rattle.jedge.specs.declared.fault.Fault.TheVariants as fault

-- an entry gives a name of a directory to an object
abbrev pub is_name_given : ℕ → List ℕ → Dirent → Bool
is_name_given dir name d = (d.pino == dir) && not (d.ino == 0) && bytes_eq d.name name

-- a node gave it to the object of this number
abbrev pub gives_name : ℕ → List ℕ → ℕ → NodeRef → Bool
gives_name dir name i (Entry d) = is_name_given dir name d && (d.ino == i)
gives_name dir name i (Inode node) = false

-- some entry ever did
abbrev pub was_named : List Placed → ℕ → List ℕ → ℕ → Bool
was_named ns dir name i = list_any (λ n. gives_name dir name i n.1) ns

-- these are the numbers of the objects that ever had this name in this directory
abbrev pub AreFormerIn : List Placed → ℕ → List ℕ → BTreeSet ℕ → Type 0
AreFormerIn ns dir name numbers =
    (i : ℕ) → contains nat_cmp numbers i ≡ was_named ns dir name i

-- by the names before the last one, which lead to a directory
abbrev pub IsFormerBehind : List Placed → State → List (List ℕ) → List ℕ → BTreeSet ℕ → Type 0
IsFormerBehind ns t front last numbers = (dir : ℕ) × (find t (path_text front) ≡ Ok dir)
    × AreFormerIn ns dir last numbers

-- they lead nowhere, or no entry ever gave the last one
abbrev pub IsNoneBehind : List Placed → State → List (List ℕ) → List ℕ → FindFault → Type 0
IsNoneBehind ns t front last f = (find t (path_text front) ≡ Err f)
    ⊎ ((dir : ℕ) × (find t (path_text front) ≡ Ok dir)
    × ((i : ℕ) → was_named ns dir last i ≡ false) × (f ≡ missing.NotFound))

-- The root has its own number. Any other path names what entries gave its last name to, in the
-- directory that the names before it lead to.
abbrev pub AreFormerBy : List Placed → State → Option (List (List ℕ)) → BTreeSet ℕ → Type 0
AreFormerBy ns t None numbers = ⊥
AreFormerBy ns t (Some []) numbers = (i : ℕ) → contains nat_cmp numbers i ≡ (i == 1)
AreFormerBy ns t (Some (first ∷ more)) numbers =
    IsFormerBehind ns t (way_up (first ∷ more)) (last_of (first ∷ more)) numbers

-- The text is no path, or its directory is not there, or no entry ever gave the name.
abbrev pub IsNoFormerBy : List Placed → State → Option (List (List ℕ)) → FindFault → Type 0
IsNoFormerBy ns t None f = f ≡ missing.BadPath
IsNoFormerBy ns t (Some []) f = ⊥
IsNoFormerBy ns t (Some (first ∷ more)) f =
    IsNoneBehind ns t (way_up (first ∷ more)) (last_of (first ∷ more)) f

-- rule: The file system that nodes make: The objects that a path ever named.
--   definitions: jinspects.Former.AreFormer, jinspects.Former.IsNoFormer
--   code: jinspects::former::former_of
abbrev pub AreFormer : List Placed → State → List ℕ → BTreeSet ℕ → Type 0
AreFormer ns t path numbers = AreFormerBy ns t (path_names path) numbers

abbrev pub IsNoFormer : List Placed → State → List ℕ → FindFault → Type 0
IsNoFormer ns t path f = IsNoFormerBy ns t (path_names path) f

-- those of a path that may be left out: then none are told apart
abbrev pub AreFormerIf : List Placed → State → Option (List ℕ) → Option (BTreeSet ℕ) → Type 0
AreFormerIf ns t None numbers = numbers ≡ None
AreFormerIf ns t (Some path) None = ⊥
AreFormerIf ns t (Some path) (Some numbers) = AreFormer ns t path numbers

abbrev pub IsNoFormerIf : List Placed → State → Option (List ℕ) → FindFault → Type 0
IsNoFormerIf ns t None f = ⊥
IsNoFormerIf ns t (Some path) f = IsNoFormer ns t path f

-- ---- as a fault

-- the fault tells of a path, for this reason; or memory ran out
abbrev pub TellsPath : (FindFault → Type 0) → Fault → Type 0
TellsPath holds (fault.File file) = ⊥
TellsPath holds (fault.NotRead file) = ⊥
TellsPath holds (fault.NoNodes told count) = ⊥
TellsPath holds (fault.NoSpace folder) = ⊥
TellsPath holds (fault.Findings told findings) = ⊥
TellsPath holds (fault.Refused why) = (f : FindFault) × (why ≡ program.Path f) × holds f
TellsPath holds fault.Output = ⊥
TellsPath holds fault.OutOfMemory = ⊤

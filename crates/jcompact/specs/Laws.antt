-- Laws of what matters. Each is a statement: it holds since a public function's contract names it.
use Rattle.std.specs.Prelude.{◌≡◌, ◌≢◌, ℕ, ◌<◌, true, List, [], ◌∷◌, ◌++◌, Contains, Some, None, Ok}
use Rattle.std.specs.List.{AllPairs}
use Rattle.jnode.specs.Writing.{HoldsRange}
use Rattle.jnode.specs.declared.node.Dirent.{Dirent}
use Rattle.jnode.specs.declared.node.InodeNode.{InodeNode}
use Rattle.jnode.specs.declared.node.NodeRef.TheVariants.{Entry, Inode}
use Rattle.jmount.specs.Clash.{NoneClash}
use Rattle.jmount.specs.Collected.{without_addresses}
use Rattle.jmount.specs.Find.{find, walk}
use Rattle.jmount.specs.StateOf.{state_of}
use Rattle.jmount.specs.Tree.{State, dangling, is_there, named, object}
use Rattle.jcompact.specs.Matters.{Placed, AreWhatMatters, NamesLeadTo}

-- An object that names lead to has the same attributes, size and bytes.
abbrev pub KeepsObjects : Type 0
KeepsObjects = (ns kept : List Placed) → NoneClash (without_addresses ns) → AreWhatMatters ns kept
    → (i : ℕ) → NamesLeadTo (state_of (without_addresses ns)) i
    → object (state_of (without_addresses kept)) i ≡ object (state_of (without_addresses ns)) i

-- Names lead from the root to the same number, or to the same fault, and so does each path.
abbrev pub KeepsPaths : Type 0
KeepsPaths = (ns kept : List Placed) → NoneClash (without_addresses ns) → AreWhatMatters ns kept
    → (text : List ℕ)
    → find (state_of (without_addresses kept)) text ≡ find (state_of (without_addresses ns)) text

abbrev pub KeepsWalks : Type 0
KeepsWalks = (ns kept : List Placed) → NoneClash (without_addresses ns) → AreWhatMatters ns kept
    → (names : List (List ℕ))
    → walk (state_of (without_addresses kept)) names (Ok 1)
    ≡ walk (state_of (without_addresses ns)) names (Ok 1)

-- Each node that matters is one of the nodes.
abbrev pub ArePart : Type 0
ArePart = (ns kept : List Placed) → NoneClash (without_addresses ns) → AreWhatMatters ns kept
    → (n : Placed) → Contains kept n → Contains ns n

-- Each of their names stands for an object that is there.
abbrev pub NoneDangle : Type 0
NoneDangle = (ns kept : List Placed) → NoneClash (without_addresses ns) → AreWhatMatters ns kept
    → dangling (state_of (without_addresses kept)) ≡ []

-- And names lead to each of their objects.
abbrev pub AllAreReached : Type 0
AllAreReached = (ns kept : List Placed) → NoneClash (without_addresses ns) → AreWhatMatters ns kept
    → (i : ℕ) → is_there (state_of (without_addresses kept)) i ≡ true
    → NamesLeadTo (state_of (without_addresses kept)) i

-- Among the nodes that matter each one matters: there is nothing more to leave out.
abbrev pub AllStillMatter : Type 0
AllStillMatter = (ns kept : List Placed) → NoneClash (without_addresses ns)
    → AreWhatMatters ns kept → AreWhatMatters kept kept

-- ---- each node would be missed

-- the file system that nodes make, wherever they lie
abbrev pub state_placed : List Placed → State
state_placed ns = state_of (without_addresses ns)

-- Each entry that matters gives its name an object, and without it the name leads nowhere.
abbrev pub EachEntryIsMissed : Type 0
EachEntryIsMissed = (ns front back : List Placed) (addr : ℕ) (entry : Dirent)
    → NoneClash (without_addresses ns) → AllPairs (λ m n. m.0 < n.0) ns
    → AreWhatMatters ns (front ++ (addr, Entry entry) ∷ back)
    → (named (state_placed (front ++ (addr, Entry entry) ∷ back)) entry.pino entry.name
    ≡ Some entry.ino)
    × (named (state_placed (front ++ back)) entry.pino entry.name ≡ None)

-- an inode node of the same object, version and range, whatever else it says
pub record HasRangeOf (node other : InodeNode) : Type 0 where
  pub number : other.ino ≡ node.ino
  pub version : other.version ≡ node.version
  pub offset : other.offset ≡ node.offset
  pub count : other.dsize ≡ node.dsize
  pub long : HoldsRange node.fill node.dsize → HoldsRange other.fill other.dsize

-- Another node of the same object, version and range in the place of an inode node that matters
-- would make another object.
abbrev pub EachInodeIsMissed : Type 0
EachInodeIsMissed = (ns front back : List Placed) (addr : ℕ) (node : InodeNode)
    → NoneClash (without_addresses ns) → AllPairs (λ m n. m.0 < n.0) ns
    → AreWhatMatters ns (front ++ (addr, Inode node) ∷ back)
    → (other : InodeNode) × HasRangeOf node other
    × (object (state_placed (front ++ (addr, Inode other) ∷ back)) node.ino
    ≢ object (state_placed (front ++ (addr, Inode node) ∷ back)) node.ino)

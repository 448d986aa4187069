-- Laws of what is told. Each is a statement: it holds since a public function's contract names it.
use Rattle.std.specs.Prelude.{◌≡◌, ◌≢◌, ℕ, ◌≤◌, ◌^◌, Bool, true, false, not, List, [], ◌∷◌, ◌++◌, length, map, filter, Contains, Some, Ok, is_some, option_map}
use Rattle.jnode.specs.Writing.{HoldsRange}
use Rattle.jnode.specs.declared.order.Endian.{Endian}
use Rattle.jnode.specs.declared.node.InodeNode.{InodeNode}
use Rattle.jnode.specs.declared.node.NodeRef.{NodeRef}
use Rattle.jnode.specs.declared.node.NodeRef.TheVariants.{Entry, Inode}
use Rattle.jscan.specs.Image.{nodes}
use Rattle.jexpand.specs.Expanded.{expanded_nodes}
use Rattle.jmount.specs.Clash.{NoInodeClashesWith}
use Rattle.jmount.specs.Mount.{Mount}
use Rattle.jmount.specs.Mounts.{IsSound, IsMountOf, MountsAs, plain_nodes}
use Rattle.jmount.specs.Shown.{shown}
use Rattle.jmount.specs.StateOf.{inodes, object_of, state_of, tops_of}
use Rattle.jmount.specs.Find.{walk}
use Rattle.jmount.specs.Shape.{IsSingle}
use Rattle.jmount.specs.Tree.{State, all_entries, dangling, is_directory}
use Rattle.jview.specs.Through.{IsSoundThrough, IsMountThroughOf, MountsThroughAs}
use Rattle.jthrough.specs.Addressed.{addressed_nodes}
use Rattle.jgaps.specs.Gaps.{gaps_of}
use Rattle.jdamage.specs.Coverage.{hides_nothing}
use Rattle.jdamage.specs.Damage.{size_shown, changes_nothing, damage_text}
use Rattle.jgaps.specs.Fields.{stretch_at, stretch_of, stretches}
use Rattle.jdamage.specs.Fields.{damaged_nodes}
use Rattle.jdamage.specs.Lines.{no_damage, totals_shown}
use Rattle.jdamage.specs.Ways.{LeadsUp, first_name, path_below}
use Rattle.jgaps.specs.declared.fields.Stretch.{Stretch}

-- of an image without damaged nodes, whose names all lead to objects, and each byte of whose files
-- a node has, nothing is told but the totals, and these are 0
abbrev pub SoundHasNoLines : Type 0
SoundHasNoLines = (e : Endian) (size : ℕ) (m : Mount) → damaged_nodes e size m.image ≡ []
    → dangling m.state ≡ [] → gaps_of e size m ≡ []
    → damage_text e size m ≡ totals_shown no_damage

-- ---- a node that hides nothing

-- the size of the object of a number that nodes make, 0 where there is none
abbrev pub size_made : List InodeNode → ℕ → ℕ
size_made nodes i = size_shown (option_map shown (object_of nodes i))

-- Data have the length of the range, as those of every node that is read.
abbrev pub HoldRanges : List InodeNode → Type 0
HoldRanges nodes = (node : InodeNode) → Contains nodes node → HoldsRange node.fill node.dsize

-- A node may stand between these, as it clashes with none that comes after it, and hides nothing
-- beside them, by its object, version and range alone.
pub record HidesNothingBetween (front back : List InodeNode) (lost : InodeNode) : Type 0 where
  pub ranges : HoldRanges (front ++ lost ∷ back)
  pub apart : NoInodeClashesWith back lost
  pub hidden : hides_nothing (map stretch_of (front ++ back)) (size_made (front ++ back) lost.ino)
      (stretch_of lost) ≡ true

-- Then its object is the same whether it stands there or not: attributes, size and each byte.
abbrev pub ObjectIsSameWithout : Type 0
ObjectIsSameWithout =
    (front back : List InodeNode) (lost : InodeNode) → HidesNothingBetween front back lost
    → object_of (front ++ lost ∷ back) lost.ino ≡ object_of (front ++ back) lost.ino

-- And so is the whole file system, with the greatest version of each number.
abbrev pub StateIsSameWithout : Type 0
StateIsSameWithout = (front back : List NodeRef) (lost : InodeNode)
    → HidesNothingBetween (inodes front) (inodes back) lost
    → (state_of (front ++ Inode lost ∷ back) ≡ state_of (front ++ back))
    × (tops_of (front ++ Inode lost ∷ back) ≡ tops_of (front ++ back))

-- ---- images

-- the node is an inode node with these fields
abbrev pub HasFields : Stretch → NodeRef → Type 0
HasFields fields (Inode node) = stretch_of node ≡ fields
HasFields fields (Entry entry) = ⊥

-- An image before nodes of it were damaged: at these addresses it had inode nodes whose fields the
-- damaged one still has, and its other nodes are those of the damaged one.
pub record WasWhole (e : Endian) (size : ℕ) (image whole : List ℕ) (lost : ℕ → Bool) : Type 0 where
  pub kept : nodes e size image ≡ filter (λ n. not (lost n.0)) (nodes e size whole)
  pub fields : (addr : ℕ) (node : NodeRef) → Contains (nodes e size whole) (addr, node)
      → lost addr ≡ true → HasFields (stretch_at e image addr) node

-- If it had no fault, and each of these nodes hides nothing as `damage` tells it of the damaged
-- image, then it mounts as the same file system.
abbrev pub ImageIsSameWithout : Type 0
ImageIsSameWithout = (e : Endian) (size : ℕ) (m : Mount) (whole : List ℕ) (lost : ℕ → Bool)
    → IsMountOf e size m → IsSound e size whole → WasWhole e size m.image whole lost
    → ((addr : ℕ) → lost addr ≡ true
    → changes_nothing m.state (stretches e size m.image) (stretch_at e m.image addr) ≡ true)
    → MountsAs e size whole m.state × (tops_of (plain_nodes e size whole) ≡ m.tops)

-- ---- images that are mounted through their compression

-- The same of the nodes of an image through its compression, each at the address of its tile.
pub record WasWholeThrough (e : Endian) (size : ℕ) (image whole : List ℕ) (lost : ℕ → Bool) : Type
    0 where
  pub kept : addressed_nodes e size image
      ≡ filter (λ n. not (lost n.0)) (addressed_nodes e size whole)
  pub fields : (addr : ℕ) (node : NodeRef) → Contains (addressed_nodes e size whole) (addr, node)
      → lost addr ≡ true → HasFields (stretch_at e image addr) node

-- If it had no fault, once its nodes were expanded, and each of these nodes hides nothing as
-- `damage` tells it of the damaged image, then it mounts through as the same file system.
abbrev pub ThroughIsSameWithout : Type 0
ThroughIsSameWithout = (e : Endian) (size : ℕ) (m : Mount) (whole : List ℕ) (lost : ℕ → Bool)
    → IsMountThroughOf e size m → IsSoundThrough e size whole
    → WasWholeThrough e size m.image whole lost
    → ((addr : ℕ) → lost addr ≡ true
    → changes_nothing m.state (stretches e size m.image) (stretch_at e m.image addr) ≡ true)
    → MountsThroughAs e size whole m.state × (tops_of (expanded_nodes e size whole) ≡ m.tops)

-- ---- a node that hides something

-- no node of the object has this version
abbrev pub HasOwnVersion : List InodeNode → Stretch → Type 0
HasOwnVersion nodes lost =
    (node : InodeNode) → Contains nodes node → node.ino ≡ lost.ino → node.version ≢ lost.version

-- Where a lost node has a version of its own and does not hide nothing, a node of its object,
-- version and range would have changed the object: who looks at these alone can tell no more nodes
-- that hide nothing.
abbrev pub ObjectWouldChange : Type 0
ObjectWouldChange = (front back : List InodeNode) (lost : Stretch) → HoldRanges (front ++ back)
    → HasOwnVersion (front ++ back) lost → lost.from ≤ lost.to
    → hides_nothing (map stretch_of (front ++ back)) (size_made (front ++ back) lost.ino) lost
    ≡ false
    → (node : InodeNode) × (stretch_of node ≡ lost) × HoldsRange node.fill node.dsize
    × (object_of (front ++ node ∷ back) lost.ino ≢ object_of (front ++ back) lost.ino)

-- ---- the path of a directory

-- it leads there
abbrev pub DirectoryPathLeads : Type 0
DirectoryPathLeads = (s : State) (dir : ℕ) (path : List (List ℕ)) → path_below s dir [] ≡ Some path
    → walk s path (Ok 1) ≡ Ok dir

-- each directory to which names lead has one, where there are no more names than numbers
abbrev pub DirectoryHasPath : Type 0
DirectoryHasPath = (s : State) (dir : ℕ) (names : List (List ℕ))
    → length (all_entries s) ≤ 2 ^ 32 → walk s names (Ok 1) ≡ Ok dir → is_directory s dir ≡ true
    → is_some (path_below s dir []) ≡ true

-- where no directory has two names, the paths are those by first names
abbrev pub FirstNamesLead : Type 0
FirstNamesLead = (s : State) → IsSingle s → LeadsUp s (first_name s)

-- Laws of the definitions. Each is a statement: it holds since a public function's contract names
-- it.
use Rattle.std.specs.Prelude.{◌≡◌, ◌≢◌, ◌↔◌, ◌⊎◌, ◌+◌, ◌<◌, ◌≤◌, ◌==◌, true, false, IsTrue, length, None, Ok, ℕ, max, List, [], ◌∷◌, ◌++◌, map, flat_map, slice_index, Contains, option_map, Some, unwrap_or, if◌then◌else◌}
use Rattle.std.specs.FinMap.{get}
use Rattle.flashbase.specs.Lists.{greatest}
use Rattle.jfrag.specs.Pieces.{end_of, covers, byte_of}
use Rattle.jfrag.specs.Overlays.{visible, byte_at}
use Rattle.jname.specs.Live.{Key, is_at, ino_if_any, live, highest}
use Rattle.jname.specs.Clash as names
use Rattle.jnode.specs.declared.node.InodeNode.{InodeNode}
use Rattle.jnode.specs.Writing.{FitsInode, HoldsRange}
use Rattle.flashbase.specs.Ranges.{IsHalf, IsWord}
use Rattle.jnode.specs.declared.node.Dirent.{Dirent}
use Rattle.jnode.specs.declared.node.NodeRef.{NodeRef}
use Rattle.jnode.specs.declared.node.NodeRef.TheVariants.{Entry, Inode}
use Rattle.jmount.specs.Clash.{NodesClash, NoInodesClash}
use Rattle.jmount.specs.Device.{given_bytes, device_held}
use Rattle.jmount.specs.Tree.{ObjectOf, State, Outline, sized, outline, object, named, is_directory, is_device}
use Rattle.jmount.specs.StateOf.{inodes, entries, versions_of, piece_of, contents, default_root, object_by, object_of, objects_of, numbers_in, next_of, owner, version_of, top, tops_of, state_of}
use Rattle.jmount.specs.Shown.{top_at}
use Rattle.jmount.specs.Find.{IsPath, path_names, walk, find}
use Rattle.jmount.specs.Shape.{HasShape}
use Rattle.jmount.specs.ShapeForm.{shape_of}

-- the same elements, in any order and number
abbrev pub SameElements : {X : Type 0} → List X → List X → Type 0
SameElements {X} a b = (x : X) → Contains a x ↔ Contains b x

-- ---- what nodes make depends on which nodes there are

-- the object of a number
abbrev pub ObjectDependsOnNodes : Type 0
ObjectDependsOnNodes = (a b : List InodeNode) (i : ℕ) → SameElements a b → NoInodesClash a
    → object_of a i ≡ object_of b i

abbrev pub ObjectsDependOnNodes : Type 0
ObjectsDependOnNodes =
    (a b : List InodeNode) → SameElements a b → NoInodesClash a → objects_of a ≡ objects_of b

-- the next number that is free
abbrev pub NextDependsOnNodes : Type 0
NextDependsOnNodes = (a b : List NodeRef) → SameElements a b → next_of a ≡ next_of b

-- the greatest version of a number
abbrev pub TopDependsOnNodes : Type 0
TopDependsOnNodes = (a b : List NodeRef) (i : ℕ) → SameElements a b → top a i ≡ top b i

abbrev pub TopsDependOnNodes : Type 0
TopsDependOnNodes = (a b : List NodeRef) → SameElements a b → tops_of a ≡ tops_of b

-- the file system
abbrev pub StateDependsOnNodes : Type 0
StateDependsOnNodes = (a b : List NodeRef) → SameElements a b → NoInodesClash (inodes a)
    → names.NoEntriesClash (entries a) → state_of a ≡ state_of b

-- ---- what the maps have at each number and name

-- the object of each number, also of one that no node has
abbrev pub ObjectsHaveEach : Type 0
ObjectsHaveEach = (nodes : List InodeNode) (i : ℕ) → get (objects_of nodes) i ≡ object_of nodes i

abbrev pub StateHasObjects : Type 0
StateHasObjects = (ns : List NodeRef) (i : ℕ) → object (state_of ns) i ≡ object_of (inodes ns) i

abbrev pub StateHasNames : Type 0
StateHasNames = (ns : List NodeRef) (dir : ℕ) (name : List ℕ)
    → named (state_of ns) dir name ≡ live (entries ns) (dir, name)

-- the greatest version of each number, 0 where it has none
abbrev pub TopsHaveEach : Type 0
TopsHaveEach = (ns : List NodeRef) (i : ℕ) → top_at (tops_of ns) i ≡ top ns i

-- ---- entries and inode nodes apart

-- a number's greatest version is that of its inode nodes, or of the entries below it
abbrev pub TopIsOfBothKinds : Type 0
TopIsOfBothKinds = (ns : List NodeRef) (i : ℕ)
    → top ns i ≡ max (greatest (map (λ node. node.version) (versions_of (inodes ns) i)))
    (unwrap_or (highest (entries ns) i) 0)

-- every number of an inode node, and both of an entry, are taken
abbrev pub NextIsOfBothKinds : Type 0
NextIsOfBothKinds = (ns : List NodeRef)
    → next_of ns ≡ 1 + max 1 (max (greatest (map (λ node. node.ino) (inodes ns)))
    (greatest (flat_map (λ entry. entry.pino ∷ entry.ino ∷ []) (entries ns))))

-- ---- what one more node changes

-- the greatest version of its number
abbrev pub TopOfOneMore : Type 0
TopOfOneMore = (ns : List NodeRef) (node : NodeRef) (i : ℕ)
    → top (ns ++ node ∷ []) i
    ≡ (if i == owner node then max (top ns i) (version_of node) else top ns i)

-- the next number that is free
abbrev pub NextOfOneMore : Type 0
NextOfOneMore = (ns : List NodeRef) (node : NodeRef)
    → (state_of (ns ++ node ∷ [])).next ≡ max (state_of ns).next (1 + greatest (numbers_in node))

-- an entry of a new version is the visible one
abbrev pub NewEntryIsVisible : Type 0
NewEntryIsVisible =
    (ns : List NodeRef) (entry : Dirent) (key : Key) → top ns entry.pino < entry.version
    → live (entries (ns ++ Entry entry ∷ [])) key
    ≡ (if is_at key entry then ino_if_any entry else live (entries ns) key)

-- an inode node of a new version gives its object's attributes and size, and changes no other
-- object
abbrev pub NewInodeIsVisible : Type 0
NewInodeIsVisible = (ns : List NodeRef) (node : InodeNode) (i : ℕ) → top ns node.ino < node.version
    → object (state_of (ns ++ Inode node ∷ [])) i
    ≡ (if i == node.ino then Some (object_by (versions_of (inodes ns) i ++ node ∷ []) node) else
    object (state_of ns) i)

-- and it gives the bytes that it covers, and changes no other byte
abbrev pub NewBytesAreVisible : Type 0
NewBytesAreVisible = (ns : List NodeRef) (node : InodeNode) (size place : ℕ)
    → top ns node.ino < node.version → place < size
    → slice_index (contents (versions_of (inodes ns) node.ino ++ node ∷ []) size) place
    ≡ (if covers place (piece_of node) then byte_of place (piece_of node) else byte_at
    (visible (map piece_of (versions_of (inodes ns) node.ino)) place))

-- an entry changes no object, and an inode node no name
abbrev pub EntryKeepsObjects : Type 0
EntryKeepsObjects = (ns : List NodeRef) (entry : Dirent)
    → (state_of (ns ++ Entry entry ∷ [])).objects ≡ (state_of ns).objects

abbrev pub InodeKeepsNames : Type 0
InodeKeepsNames = (ns : List NodeRef) (node : InodeNode)
    → (state_of (ns ++ Inode node ∷ [])).names ≡ (state_of ns).names

-- ---- paths

-- the names that are found in a text are those whose path it is, and none are found in a text that
-- is no path
abbrev pub PathNamesExactly : Type 0
PathNamesExactly =
    (text : List ℕ) (names : List (List ℕ)) → (path_names text ≡ Some names) ↔ IsPath text names

-- ---- objects, by their nodes

-- a node's piece is its range, where its data have the length of the range, as those of every node
-- that is read
abbrev pub PieceIsRange : Type 0
PieceIsRange = (node : InodeNode) → HoldsRange node.fill node.dsize
    → end_of (piece_of node) ≡ node.offset + node.dsize

-- a node of this number, and none of the number is higher
pub record IsLatest (nodes : List InodeNode) (i : ℕ) (node : InodeNode) : Type 0 where
  pub there : Contains nodes node
  pub number : node.ino ≡ i
  pub highest : (other : InodeNode) → Contains nodes other → other.ino ≡ i
      → other.version ≤ node.version

-- the object has the node's attributes, what the node has of a device's number, and as many bytes as
-- its size
pub record HasAttributes (node : InodeNode) (o : ObjectOf (List ℕ)) : Type 0 where
  pub mode : o.mode ≡ node.mode
  pub uid : o.uid ≡ node.uid
  pub gid : o.gid ≡ node.gid
  pub atime : o.atime ≡ node.atime
  pub mtime : o.mtime ≡ node.mtime
  pub ctime : o.ctime ≡ node.ctime
  pub device : o.device ≡ device_held node.mode (given_bytes node.dsize node.fill)
  pub size : length o.body ≡ node.isize

-- no node is one of this number
abbrev pub HasNone : List InodeNode → ℕ → Type 0
HasNone nodes i = (node : InodeNode) → Contains nodes node → node.ino ≢ i

-- attributes and size are those of the highest version, whatever bytes that node gives; the root is
-- there without nodes
abbrev pub ObjectIsOfLatest : Type 0
ObjectIsOfLatest =
    (nodes : List InodeNode) (i : ℕ) (o : ObjectOf (List ℕ)) → object_of nodes i ≡ Some o
    → ((node : InodeNode) × IsLatest nodes i node × HasAttributes node o)
    ⊎ (HasNone nodes i × (i ≡ 1) × (o ≡ default_root))

-- only a device has the number of one
abbrev pub OnlyDevicesHaveNumbers : Type 0
OnlyDevicesHaveNumbers = (nodes : List InodeNode) (i : ℕ) (o : ObjectOf (List ℕ))
    → object_of nodes i ≡ Some o → is_device o.mode ≡ false → o.device ≡ None

-- and no other number has an object without nodes
abbrev pub NoObjectWithoutNodes : Type 0
NoObjectWithoutNodes =
    (nodes : List InodeNode) (i : ℕ) → object_of nodes i ≡ None → HasNone nodes i × (i ≢ 1)

-- the node covers the place with this byte, and none of its number that covers the place is higher
pub record IsHighestOver (nodes : List InodeNode) (i place byte : ℕ) (node : InodeNode) : Type
    0 where
  pub there : Contains nodes node
  pub number : node.ino ≡ i
  pub covering : covers place (piece_of node) ≡ true
  pub gives : byte ≡ byte_of place (piece_of node)
  pub highest : (other : InodeNode) → Contains nodes other → other.ino ≡ i
      → covers place (piece_of other) ≡ true → other.version ≤ node.version

-- no node of this number covers the place
abbrev pub NoneCovers : List InodeNode → ℕ → ℕ → Type 0
NoneCovers nodes i place =
    (node : InodeNode) → Contains nodes node → node.ino ≡ i → covers place (piece_of node) ≡ false

-- each byte is that of the highest version that covers it, and 0 where none does
abbrev pub ByteIsOfHighest : Type 0
ByteIsOfHighest = (nodes : List InodeNode) (i place : ℕ) (o : ObjectOf (List ℕ))
    → object_of nodes i ≡ Some o → place < length o.body
    → ((node : InodeNode) × IsHighestOver nodes i place (slice_index o.body place) node)
    ⊎ (NoneCovers nodes i place × (slice_index o.body place ≡ 0))

-- ---- names, by their entries

-- an entry of this directory and name, and none of them is higher
pub record IsNewestEntry (given : List Dirent) (dir : ℕ) (name : List ℕ) (entry : Dirent) : Type
    0 where
  pub there : Contains given entry
  pub directory : entry.pino ≡ dir
  pub named : entry.name ≡ name
  pub highest : (other : Dirent) → Contains given other → other.pino ≡ dir → other.name ≡ name
      → other.version ≤ entry.version

-- a name stands for the number of its entry of highest version, where that is not 0
abbrev pub NameIsOfNewest : Type 0
NameIsOfNewest =
    (ns : List NodeRef) (dir : ℕ) (name : List ℕ) (i : ℕ) → named (state_of ns) dir name ≡ Some i
    → (i ≢ 0) × ((entry : Dirent) × IsNewestEntry (entries ns) dir name entry × (entry.ino ≡ i))

-- a name stands for nothing where it has no entry, or that of highest version says that it is gone,
-- whatever older ones say
abbrev pub NoNameIsOfNone : Type 0
NoNameIsOfNone = (ns : List NodeRef) (dir : ℕ) (name : List ℕ) → named (state_of ns) dir name ≡ None
    → ((entry : Dirent) × IsNewestEntry (entries ns) dir name entry × (entry.ino ≡ 0))
    ⊎ ((entry : Dirent) → Contains (entries ns) entry → entry.pino ≡ dir → entry.name ≢ name)

-- ---- numbers, by the nodes that name them

-- the next number is the least that is above 1 and above every number that a node names
abbrev pub IsPastAll : List NodeRef → ℕ → Type 0
IsPastAll ns next = (1 < next)
    × ((node : NodeRef) (i : ℕ) → Contains ns node → Contains (numbers_in node) i → i < next)

abbrev pub NextIsLeastPastAll : Type 0
NextIsLeastPastAll = (ns : List NodeRef) → IsPastAll ns (next_of ns)
    × ((next : ℕ) → IsPastAll ns next → next_of ns ≤ next)

-- the greatest version is the least that no version of the number passes
abbrev pub IsNotPassed : List NodeRef → ℕ → ℕ → Type 0
IsNotPassed ns i version =
    (node : NodeRef) → Contains ns node → owner node ≡ i → version_of node ≤ version

abbrev pub TopIsLeastNotPassed : Type 0
TopIsLeastNotPassed = (ns : List NodeRef) (i : ℕ) → IsNotPassed ns i (top ns i)
    × ((version : ℕ) → IsNotPassed ns i version → top ns i ≤ version)

-- ---- numbers that are in use

-- objects, directories that have names, and what names stand for have numbers below the next
pub record IsNumbered (s : State) : Type 0 where
  pub objects : (i : ℕ) (o : ObjectOf (List ℕ)) → object s i ≡ Some o → i < s.next
  pub directories : (dir : ℕ) (name : List ℕ) (i : ℕ) → named s dir name ≡ Some i → dir < s.next
  pub linked : (dir : ℕ) (name : List ℕ) (i : ℕ) → named s dir name ≡ Some i → (0 < i)
      × (i < s.next)

abbrev pub StateIsNumbered : Type 0
StateIsNumbered = (ns : List NodeRef) → IsNumbered (state_of ns)

-- a number from the next on has no object, no versions and no names
abbrev pub FreshNumberIsFree : Type 0
FreshNumberIsFree = (ns : List NodeRef) (i : ℕ) → (state_of ns).next ≤ i
    → (object (state_of ns) i ≡ None) × (top ns i ≡ 0)
    × ((name : List ℕ) → named (state_of ns) i name ≡ None)

-- a node of a version above its number's clashes with none
abbrev pub NewNodeDoesNotClash : Type 0
NewNodeDoesNotClash = (ns : List NodeRef) (node other : NodeRef)
    → top ns (owner node) < version_of node → Contains ns other → NodesClash other node → ⊥

-- ---- widths

pub record ObjectFits (o : ObjectOf (List ℕ)) : Type 0 where
  pub mode : IsWord o.mode
  pub uid : IsHalf o.uid
  pub gid : IsHalf o.gid
  pub atime : IsWord o.atime
  pub mtime : IsWord o.mtime
  pub ctime : IsWord o.ctime
  pub size : IsWord (length o.body)

-- the objects of nodes that fit their widths fit theirs
abbrev pub ObjectsFit : Type 0
ObjectsFit = (nodes : List InodeNode) (i : ℕ) (o : ObjectOf (List ℕ))
    → ((node : InodeNode) → Contains nodes node → FitsInode node) → object_of nodes i ≡ Some o
    → ObjectFits o

-- ---- outlines

-- an outline has each object, with the number of its bytes
abbrev pub OutlineHasObjects : Type 0
OutlineHasObjects = (s : State) (i : ℕ) → object (outline s) i ≡ option_map sized (object s i)

-- what a path names is a matter of the outline alone
abbrev pub FindIsOfOutline : Type 0
FindIsOfOutline = (s : State) (text : List ℕ) → find (outline s) text ≡ find s text

-- ---- the shape

-- an outline has the shape of what it is of
abbrev pub ShapeIsOfOutline : Type 0
ShapeIsOfOutline = (s : State) → HasShape (outline s) ↔ HasShape s

-- it is what is computed
abbrev pub ShapeIsDecided : Type 0
ShapeIsDecided = (t : Outline) → IsTrue (shape_of t) ↔ HasShape t

-- where a file system has the shape, one path at most leads to each directory
abbrev pub OnePathToEach : Type 0
OnePathToEach = (s : State) (a b : List (List ℕ)) (i : ℕ) → HasShape s → walk s a (Ok 1) ≡ Ok i
    → walk s b (Ok 1) ≡ Ok i → is_directory s i ≡ true → a ≡ b

-- The file system that nodes make (Woodhouse 2001, "Operation: mounting").
use Rattle.std.specs.Prelude.{ℕ, ◌+◌, ◌==◌, List, [], ◌∷◌, map, filter, filter_map, flat_map, Option, Some, None, option_map, if◌then◌else◌}
use Rattle.std.specs.Ordering.{nat_cmp}
use Rattle.std.specs.FinMap.{FinMap}
use Rattle.flashbase.specs.Lists.{newest, tabled, greatest}
use Rattle.jnode.specs.declared.node.Dirent.{Dirent}
use Rattle.jnode.specs.declared.node.InodeNode.{InodeNode}
use Rattle.jnode.specs.declared.node.Fill.{Fill}
use Rattle.jnode.specs.declared.node.Fill.TheVariants as fill
use Rattle.jnode.specs.declared.node.NodeRef.{NodeRef}
use Rattle.jnode.specs.declared.node.NodeRef.TheVariants.{Entry, Inode}
use Rattle.jfrag.specs.declared.piece.Piece.{Piece}
use Rattle.jfrag.specs.declared.piece.Body.{Body}
use Rattle.jfrag.specs.declared.piece.Body.TheVariants as body
use Rattle.jfrag.specs.Overlays.{content}
use Rattle.jname.specs.Live.{live_names}
use Rattle.jmount.specs.Device.{given_bytes, device_held}
use Rattle.jmount.specs.Tree.{ObjectOf, State}

-- ---- the two kinds of node

abbrev pub inode_in : NodeRef → Option InodeNode
inode_in (Inode node) = Some node
inode_in (Entry entry) = None

abbrev pub entry_in : NodeRef → Option Dirent
entry_in (Inode node) = None
entry_in (Entry entry) = Some entry

abbrev pub inodes : List NodeRef → List InodeNode
inodes ns = filter_map inode_in ns

abbrev pub entries : List NodeRef → List Dirent
entries ns = filter_map entry_in ns

-- ---- an object: the attributes and the size of its latest version, and each byte of the highest
-- that covers it

-- the nodes of a number
abbrev pub versions_of : List InodeNode → ℕ → List InodeNode
versions_of nodes i = filter (λ node. i == node.ino) nodes

-- the one of highest version
abbrev pub latest : List InodeNode → Option InodeNode
latest versions = newest (λ node. node.version) versions

abbrev pub body_of : ℕ → Fill → Body
body_of dsize fill.Zero = body.Zero dsize
body_of dsize (fill.Data bytes) = body.Bytes bytes

abbrev pub piece_of : InodeNode → Piece
piece_of node =
    record { version = node.version; offset = node.offset; body = body_of node.dsize node.fill }

-- the first `size` bytes that these versions of an object give
abbrev pub contents : List InodeNode → ℕ → List ℕ
contents versions size = content (map piece_of versions) size

-- an object with the attributes and the size that a node gives, the number that it has of a device,
-- and these bytes
abbrev pub with_bytes : {B : Type 0} → InodeNode → B → ObjectOf B
with_bytes node bytes = record {
  mode = node.mode;
  uid = node.uid;
  gid = node.gid;
  atime = node.atime;
  mtime = node.mtime;
  ctime = node.ctime;
  device = device_held node.mode (given_bytes node.dsize node.fill);
  body = bytes;
}

abbrev pub object_by : List InodeNode → InodeNode → ObjectOf (List ℕ)
object_by versions node = with_bytes node (contents versions node.isize)

-- rule: The file system that nodes make: The root is inode 1, by default a directory.
--   definitions: jmount.StateOf.default_root
--   code: jmount::mounting::mount
--   laws: jmount::examples::empty_image
-- the root of an image that has no inode node for it (profile)
abbrev pub default_root : ObjectOf (List ℕ)
default_root = record {
  mode = 0o040755;
  uid = 0;
  gid = 0;
  atime = 0;
  mtime = 0;
  ctime = 0;
  device = None;
  body = [];
}

abbrev pub or_root : ℕ → Option (ObjectOf (List ℕ)) → Option (ObjectOf (List ℕ))
or_root i None = if i == 1 then Some default_root else None
or_root i (Some o) = Some o

-- the object of a number, given its versions
abbrev pub object_from : ℕ → List InodeNode → Option (ObjectOf (List ℕ))
object_from i versions = or_root i (option_map (object_by versions) (latest versions))

-- rule: The file system that nodes make: Attributes are those of the highest version.
--   definitions: jmount.StateOf.object_of, jmount.StateOf.latest
--   code: jmount::mounted::object
--   laws: jmount::laws::objects_are_of_highest
-- rule: The file system that nodes make: The size in an older node cuts nothing away.
--   definitions: jmount.StateOf.object_of
--   code: jmount::mounted::read_at
--   laws: jmount::examples::cut_and_written
abbrev pub object_of : List InodeNode → ℕ → Option (ObjectOf (List ℕ))
object_of nodes i = object_from i (versions_of nodes i)

-- all objects, the root among them
abbrev pub objects_of : List InodeNode → FinMap nat_cmp (ObjectOf (List ℕ))
objects_of nodes = tabled nat_cmp (1 ∷ map (λ node. node.ino) nodes) (object_of nodes)

-- ---- numbers and versions

-- the numbers that a node names
abbrev pub numbers_in : NodeRef → List ℕ
numbers_in (Inode node) = node.ino ∷ []
numbers_in (Entry entry) = entry.pino ∷ entry.ino ∷ []

-- rule: The file system that nodes make: The next free number.
--   definitions: jmount.StateOf.next_of
--   code: jmount::mounted::next
--   laws: jmount::laws::numbers_are_least, jmount::laws::numbers_in_use
-- one more than the greatest number that is named, the root's among them
abbrev pub next_of : List NodeRef → ℕ
next_of ns = 1 + greatest (1 ∷ flat_map numbers_in ns)

-- the number whose versions a node counts among: an inode node's own, and for an entry its
-- directory's
abbrev pub owner : NodeRef → ℕ
owner (Inode node) = node.ino
owner (Entry entry) = entry.pino

abbrev pub version_of : NodeRef → ℕ
version_of (Inode node) = node.version
version_of (Entry entry) = entry.version

-- rule: The file system that nodes make: The greatest version of a number.
--   definitions: jmount.StateOf.top
--   code: jmount::mounted::top
--   laws: jmount::laws::numbers_are_least
-- the greatest version of a number, or 0
abbrev pub top : List NodeRef → ℕ → ℕ
top ns i = greatest (map version_of (filter (λ node. i == owner node) ns))

-- the greatest version of the root and of each number that has versions
abbrev pub tops_of : List NodeRef → FinMap nat_cmp ℕ
tops_of ns = tabled nat_cmp (1 ∷ map owner ns) (λ i. Some (top ns i))

-- ---- the whole

abbrev pub state_of : List NodeRef → State
state_of ns = record {
  objects = objects_of (inodes ns);
  names = live_names (entries ns);
  next = next_of ns;
}

-- Nodes that contradict each other. Of two inode nodes of one number and version the medium format
-- names no winner (Woodhouse 2001: versions order the nodes of one inode number): if they are not
-- one and the same, they clash. An entry and an inode node never do.
use Rattle.std.specs.Prelude.{◌≡◌, ◌≢◌, ℕ, ◌<◌, List, Contains}
use Rattle.jnode.specs.declared.node.InodeNode.{InodeNode}
use Rattle.jnode.specs.declared.node.NodeRef.{NodeRef}
use Rattle.jnode.specs.declared.node.NodeRef.TheVariants.{Entry, Inode}
use Rattle.jname.specs.Clash as names

-- two inode nodes of one number and version whose contents differ
pub record InodesClash (a b : InodeNode) : Type 0 where
  pub ino : a.ino ≡ b.ino
  pub version : a.version ≡ b.version
  pub contents : a ≢ b

-- rule: The file system that nodes make: Two nodes of one key and unlike contents clash.
--   definitions: jmount.Clash.NodesClash, jname.Clash.SomeEntryClashesWith
--   code: jname::names::add, jmount::mounting::mount
abbrev pub NodesClash : NodeRef → NodeRef → Type 0
NodesClash (Entry a) (Entry b) = names.EntriesClash a b
NodesClash (Inode a) (Inode b) = InodesClash a b
NodesClash (Entry a) (Inode b) = ⊥
NodesClash (Inode a) (Entry b) = ⊥

-- an inode node clashes with one of these
abbrev pub SomeInodeClashesWith : List InodeNode → InodeNode → Type 0
SomeInodeClashesWith inodes node =
    (other : InodeNode) × Contains inodes other × InodesClash other node

-- an inode node clashes with none of these
abbrev pub NoInodeClashesWith : List InodeNode → InodeNode → Type 0
NoInodeClashesWith inodes node =
    (other : InodeNode) → Contains inodes other → InodesClash other node → ⊥

-- no two of these clash
abbrev pub NoInodesClash : List InodeNode → Type 0
NoInodesClash inodes = (node : InodeNode) → Contains inodes node → NoInodeClashesWith inodes node

-- a node at the address clashes with one below it
abbrev pub IsClashAt : List (ℕ × NodeRef) → ℕ → Type 0
IsClashAt ns addr =
    (node : NodeRef) × (below : ℕ) × (other : NodeRef)
    × Contains ns (addr, node) × Contains ns (below, other) × (below < addr) × NodesClash node other

-- no two of these nodes clash
abbrev pub NoneClash : List NodeRef → Type 0
NoneClash ns = (a b : NodeRef) → Contains ns a → Contains ns b → NodesClash a b → ⊥

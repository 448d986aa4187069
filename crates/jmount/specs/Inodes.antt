-- The inode nodes that a mount collects, by number and version.
use Rattle.std.specs.Prelude.{◌≡◌, ◌≢◌, ◌⊎◌, ◌↔◌, ℕ, List, ◌∷◌, Contains, Option, Some, None, ⊤}
use Rattle.std.specs.List.{flat_map}
use Rattle.std.specs.Option.{option_and_then}
use Rattle.std.specs.Ordering.{nat_cmp}
use Rattle.std.specs.BTreeMap.{BTreeMap, get}
use Rattle.jnode.specs.declared.node.InodeNode.{InodeNode}
use Rattle.jmount.specs.ByVersion.{node_of_version}
use Rattle.jmount.specs.declared.versions.Versions.{Versions}

-- the same nodes, and one more
abbrev pub GainsInode : List InodeNode → List InodeNode → InodeNode → Type 0
GainsInode old new node = (x : InodeNode) → Contains new x ↔ (Contains old x ⊎ (x ≡ node))

-- another node is stored
abbrev pub InodeDiffers : Option InodeNode → InodeNode → Type 0
InodeDiffers None node = ⊥
InodeDiffers (Some there) node = there ≢ node

-- no other node is stored
abbrev pub InodeAgrees : Option InodeNode → InodeNode → Type 0
InodeAgrees None node = ⊤
InodeAgrees (Some there) node = there ≡ node

-- the nodes of a number: that of the greatest version, and the older ones in the order in which
-- they came
abbrev pub nodes_in : Versions → List InodeNode
nodes_in versions = versions.newest ∷ versions.older.nodes.items

-- the node that is stored at a version
abbrev pub inode_of_version : Versions → ℕ → Option InodeNode
inode_of_version versions v = node_of_version (nodes_in versions) v

abbrev pub NodesByNumber : Type 0
NodesByNumber = BTreeMap ℕ Versions

-- the node that is stored for a number and a version
abbrev pub inode_at : NodesByNumber → ℕ → ℕ → Option InodeNode
inode_at numbers i v =
    option_and_then (λ versions. inode_of_version versions v) (get nat_cmp numbers i)

-- each node is stored for its own number and version
abbrev pub IsKeyed : NodesByNumber → Type 0
IsKeyed numbers = (i v : ℕ) (node : InodeNode) → inode_at numbers i v ≡ Some node → (node.ino ≡ i)
    × (node.version ≡ v)

-- each node of a number is stored at its own version
abbrev pub IsByVersion : Versions → Type 0
IsByVersion versions =
    (v : ℕ) (node : InodeNode) → inode_of_version versions v ≡ Some node → node.version ≡ v

-- all nodes, in order of number
unfoldable pub nodes_of_numbers : NodesByNumber → List InodeNode
nodes_of_numbers numbers = flat_map (λ e. nodes_in e.1) numbers.entries

-- Nodes collected in the order of their addresses.
use Rattle.std.specs.Prelude.{◌≡◌, ◌↔◌, ℕ, ⊤, List, ◌∷◌, ◌++◌, map, flat_map, Contains}
use Rattle.flashbase.specs.Lists.{greatest}
use Rattle.jnode.specs.declared.node.Dirent.{Dirent}
use Rattle.jnode.specs.declared.node.InodeNode.{InodeNode}
use Rattle.jnode.specs.declared.node.NodeRef.{NodeRef}
use Rattle.jname.specs.Clash as names
use Rattle.jscan.specs.declared.geometry.ScanFault.{ScanFault}
use Rattle.jscan.specs.declared.geometry.ScanFault.TheVariants as scan
use Rattle.jmount.specs.Clash.{NodesClash, NoInodesClash, NoneClash, IsClashAt}
use Rattle.jmount.specs.StateOf.{inodes, entries, numbers_in}
use Rattle.jmount.specs.declared.fault.MountFault.{MountFault}
use Rattle.jmount.specs.declared.fault.MountFault.TheVariants as fault

-- the nodes of a list, without their addresses
abbrev pub without_addresses : List (ℕ × NodeRef) → List NodeRef
without_addresses ns = map (λ n. n.1) ns

-- no node of these clashes with one below it
abbrev pub HasNoClash : List (ℕ × NodeRef) → Type 0
HasNoClash ns = (at : ℕ) → IsClashAt ns at → ⊥

-- a node of these that clashes with this one
abbrev pub ClashesIn : List (ℕ × NodeRef) → NodeRef → Type 0
ClashesIn ns node =
    (below : ℕ) × (other : NodeRef) × Contains ns (below, other) × NodesClash node other

-- the first of a list that clashes with one before it, at this address
abbrev pub FirstClash : List (ℕ × NodeRef) → ℕ → Type 0
FirstClash ns addr =
    (pre : List (ℕ × NodeRef)) × (node : NodeRef) × (post : List (ℕ × NodeRef))
    × (ns ≡ pre ++ (addr, node) ∷ post) × NoneClash (without_addresses pre)
    × ClashesIn pre node

-- what was collected of these nodes, of which no two clash
pub record Collected (gained : List Dirent) (inode_list : List InodeNode)
    (ns : List (ℕ × NodeRef)) : Type 0 where
  pub same_entries : (x : Dirent) → Contains gained x ↔ Contains (entries (map (λ n. n.1) ns)) x
  pub same_inodes : (x : InodeNode) → Contains inode_list x
      ↔ Contains (inodes (map (λ n. n.1) ns)) x
  pub entries_apart : names.NoEntriesClash gained
  pub inodes_apart : NoInodesClash inode_list

-- the greatest number that these nodes name, the root's among them
abbrev pub greatest_number : List NodeRef → ℕ
greatest_number ns = greatest (1 ∷ flat_map numbers_in ns)

-- why nodes are not collected
abbrev pub StopsCollecting : List (ℕ × NodeRef) → MountFault → Type 0
StopsCollecting ns (fault.Clash addr) = FirstClash ns addr
StopsCollecting ns fault.OutOfMemory = ⊤
StopsCollecting ns fault.BlockSize = ⊥
StopsCollecting ns fault.TooLarge = ⊥
StopsCollecting ns (fault.Incompatible addr nodetype) = ⊥
StopsCollecting ns (fault.Compressed addr compr) = ⊥
StopsCollecting ns fault.RootKind = ⊥

-- why the node at an address is not added: it clashes, or there is no memory
abbrev pub IsRefused : ℕ → Type 0 → MountFault → Type 0
IsRefused addr Clashing (fault.Clash at) = (at ≡ addr) × Clashing
IsRefused addr Clashing fault.OutOfMemory = ⊤
IsRefused addr Clashing fault.BlockSize = ⊥
IsRefused addr Clashing fault.TooLarge = ⊥
IsRefused addr Clashing (fault.Incompatible other nodetype) = ⊥
IsRefused addr Clashing (fault.Compressed other compr) = ⊥
IsRefused addr Clashing fault.RootKind = ⊥

-- a refusal as a fault of mounting
abbrev pub refusal_fault : ScanFault → MountFault
refusal_fault scan.BlockSize = fault.BlockSize
refusal_fault scan.TooLarge = fault.TooLarge
refusal_fault (scan.Incompatible addr nodetype) = fault.Incompatible addr nodetype
refusal_fault (scan.Compressed addr compr) = fault.Compressed addr compr
refusal_fault scan.OutOfMemory = fault.OutOfMemory

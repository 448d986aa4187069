-- What refuses an image that is seen through its compression.
use Rattle.std.specs.Prelude.{◌≡◌, ◌⊎◌, ◌<◌, ◌≤◌, ⊤, ℕ, List, [], ◌∷◌, ◌++◌, length, filter_map, Contains, Option, Some, None}
use Rattle.jnode.specs.declared.node.NodeRef.{NodeRef}
use Rattle.jnode.specs.declared.node.Seen.{Seen}
use Rattle.jnode.specs.declared.order.Endian.{Endian}
use Rattle.jexpand.specs.Expanded.{expanded_node, contents_of_tiles}
use Rattle.jexpand.specs.declared.fault.ConvertFault.{ConvertFault}
use Rattle.jexpand.specs.declared.fault.ConvertFault.TheVariants as convert
use Rattle.jmount.specs.Clash.{NodesClash}
use Rattle.jview.specs.Through.{greatest_contents, through_fault}
use Rattle.jthrough.specs.declared.fault.ViewFault.{ViewFault}
use Rattle.jthrough.specs.declared.fault.ViewFault.TheVariants as fault

-- the fault that a tile has by itself, or memory ran out
abbrev pub HasTileFault : Option ConvertFault → ViewFault → Type 0
HasTileFault has (fault.Incompatible addr nodetype) =
    has ≡ Some (convert.Incompatible addr nodetype)
HasTileFault has (fault.Compressed addr compr) = has ≡ Some (convert.Compressed addr compr)
HasTileFault has (fault.Data addr) = has ≡ Some (convert.Data addr)
HasTileFault has (fault.TooLong addr) = has ≡ Some (convert.TooLong addr)
HasTileFault has (fault.Clash addr) = ⊥
HasTileFault has fault.BlockSize = ⊥
HasTileFault has fault.TooLarge = ⊥
HasTileFault has fault.RootKind = ⊥
HasTileFault has fault.OutOfMemory = ⊤

-- the nodes that these tiles of an image give
abbrev pub nodes_of_tiles : Endian → ℕ → List ℕ → List (ℕ × Seen) → List NodeRef
nodes_of_tiles e size image tiles = filter_map (expanded_node e size image) tiles

-- with a tile more the contents are more bytes than may be held
abbrev pub PassesContents : Endian → ℕ → List ℕ → List (ℕ × Seen) → ℕ × Seen → Type 0
PassesContents e size image before s =
    (through_fault e size image s ≡ None)
    × (greatest_contents < length (contents_of_tiles e size image (before ++ s ∷ [])))

-- a tile that has no fault by itself, and whose content may be held with those before it
abbrev pub IsHeldAfter : Endian → ℕ → List ℕ → List (ℕ × Seen) → ℕ × Seen → Type 0
IsHeldAfter e size image before s =
    (through_fault e size image s ≡ None)
    × (length (contents_of_tiles e size image (before ++ s ∷ [])) ≤ greatest_contents)

-- the node of such a tile clashes with one of the tiles before it
abbrev pub ClashesWithTiles : Endian → ℕ → List ℕ → List (ℕ × Seen) → ℕ × Seen → Type 0
ClashesWithTiles e size image before s = IsHeldAfter e size image before s
    × (node : NodeRef) × (other : NodeRef) × (expanded_node e size image s ≡ Some node)
    × Contains (nodes_of_tiles e size image before) other × NodesClash node other

-- why a tile refuses the image, after those before it
abbrev pub IsRefusedBy : Endian → ℕ → List ℕ → List (ℕ × Seen) → ℕ × Seen → ViewFault → Type 0
IsRefusedBy e size image before s (fault.Incompatible addr nodetype) =
    through_fault e size image s ≡ Some (convert.Incompatible addr nodetype)
IsRefusedBy e size image before s (fault.Compressed addr compr) =
    through_fault e size image s ≡ Some (convert.Compressed addr compr)
IsRefusedBy e size image before s (fault.Data addr) =
    through_fault e size image s ≡ Some (convert.Data addr)
IsRefusedBy e size image before s (fault.TooLong addr) =
    (through_fault e size image s ≡ Some (convert.TooLong addr))
    ⊎ ((addr ≡ s.0) × PassesContents e size image before s)
IsRefusedBy e size image before s (fault.Clash addr) =
    (addr ≡ s.0) × ClashesWithTiles e size image before s
IsRefusedBy e size image before s fault.BlockSize = ⊥
IsRefusedBy e size image before s fault.TooLarge = ⊥
IsRefusedBy e size image before s fault.RootKind = ⊥
IsRefusedBy e size image before s fault.OutOfMemory = ⊥

-- The lowest address of a node that clashes with another.
use Rattle.std.specs.Prelude.{ℕ, ◌<◌, ◌≤◌, List, Contains, Option, Some, None}
use Rattle.jnode.specs.declared.node.NodeRef.{NodeRef}
use Rattle.jmount.specs.Clash.{NodesClash, IsClashAt}
use Rattle.jclash.specs.Parting.{NoneClashesWith}

-- the node at an address, if one of these is there
abbrev pub IsNodeOfAddress : List (ℕ × NodeRef) → ℕ → Option NodeRef → Type 0
IsNodeOfAddress ns addr None = (node : NodeRef) → Contains ns (addr, node) → ⊥
IsNodeOfAddress ns addr (Some node) = Contains ns (addr, node)

-- rule: Compressed data: The other node of a clash.
--   definitions: jclash.Lowest.IsLowestClash, jclash.Lowest.IsClashBelow
--   code: jclash::lowest::clash_below
-- the address is the lowest of those of these that clash with a node
pub record IsLowestClash (ns : List (ℕ × NodeRef)) (node : NodeRef) (at : ℕ) : Type 0 where
  pub other : NodeRef
  pub there : Contains ns (at, other)
  pub clash : NodesClash other node
  pub lowest : (n : ℕ × NodeRef) → Contains ns n → NodesClash n.1 node → at ≤ n.0

-- that address, if one of these clashes with the node
abbrev pub IsLowestAmong : List (ℕ × NodeRef) → NodeRef → Option ℕ → Type 0
IsLowestAmong ns node None = NoneClashesWith ns node
IsLowestAmong ns node (Some at) = IsLowestClash ns node at

-- that address of the node that is at this one, where it is below this one; there is none exactly
-- where none of these is here that clashes with one below it
abbrev pub IsClashBelow : List (ℕ × NodeRef) → ℕ → Option ℕ → Type 0
IsClashBelow ns addr None = IsClashAt ns addr → ⊥
IsClashBelow ns addr (Some below) =
    (below < addr) × ((node : NodeRef) × Contains ns (addr, node) × IsLowestClash ns node below)

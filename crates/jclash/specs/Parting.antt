-- Nodes of which some clash: which of them stay, and which are left out. The medium format names no
-- winner of two nodes of one version; Linux takes the one that it meets last, which of nodes in
-- order of their addresses is that of the highest (fs/jffs2/readinode.c).
use Rattle.std.specs.Prelude.{◌≡◌, ◌⊎◌, ℕ, ◌<◌, ◌≤◌, List, [], ◌∷◌, ◌++◌, Contains, Option, Some, None}
use Rattle.jnode.specs.declared.node.NodeRef.{NodeRef}
use Rattle.jmount.specs.Clash.{NodesClash}
use Rattle.jclash.specs.declared.parting.LeftOut.{LeftOut}

-- each node's address is below those of the nodes after it
abbrev pub AreByAddress : List (ℕ × NodeRef) → Type 0
AreByAddress [] = Unit {0}
AreByAddress (n ∷ ns) = ((m : ℕ × NodeRef) → Contains ns m → n.0 < m.0) × AreByAddress ns

-- none of these clashes with a node
abbrev pub NoneClashesWith : List (ℕ × NodeRef) → NodeRef → Type 0
NoneClashesWith ns node = (n : ℕ × NodeRef) → Contains ns n → NodesClash n.1 node → ⊥

-- rule: Compressed data: A node that clashes with one of a higher address is left out.
--   definitions: jclash.Parting.IsHighestClash, jclash.Parting.Parts
--   code: jclash::parting::without_clashing
--   laws: jclash::laws::staying_do_not_clash, jclash::laws::one_parting
-- the address is the highest of those of these that clash with a node
pub record IsHighestClash (ns : List (ℕ × NodeRef)) (node : NodeRef) (at : ℕ) : Type 0 where
  pub other : NodeRef
  pub there : Contains ns (at, other)
  pub clash : NodesClash other node
  pub highest : (n : ℕ × NodeRef) → Contains ns n → NodesClash n.1 node → n.0 ≤ at

-- that address, if one of these clashes with the node
abbrev pub IsClashAmong : List (ℕ × NodeRef) → NodeRef → Option ℕ → Type 0
IsClashAmong ns node None = NoneClashesWith ns node
IsClashAmong ns node (Some at) = IsHighestClash ns node at

-- Of nodes in order of their addresses those stay that none of a higher address clashes with. Each
-- other one is left out, and is told with the highest address of a node that clashes with it.
abbrev pub Parts : List (ℕ × NodeRef) → List NodeRef → List LeftOut → Type 0
Parts [] stay left = (stay ≡ []) × (left ≡ [])
Parts (n ∷ ns) stay left =
    (NoneClashesWith ns n.1
    × ((rest : List NodeRef) × (stay ≡ n.1 ∷ rest) × Parts ns rest left))
    ⊎ ((by : ℕ) × IsHighestClash ns n.1 by
    × ((rest : List LeftOut) × (left ≡ record { addr = n.0; by = by } ∷ rest) × Parts ns stay rest))

-- a node behind those that stay, or behind those that are left out, where an address is given
abbrev pub PutsBehind : {N : Type 0} → List N × List N → List LeftOut × List LeftOut → ℕ → N
    → Option ℕ → Type 0
PutsBehind stay left addr node None = (stay.1 ≡ stay.0 ++ node ∷ []) × (left.1 ≡ left.0)
PutsBehind stay left addr node (Some by) =
    (stay.1 ≡ stay.0) × (left.1 ≡ left.0 ++ record { addr = addr; by = by } ∷ [])

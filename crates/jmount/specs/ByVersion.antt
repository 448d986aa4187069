-- Nodes of one number by version, and where they stand in a list.
use Rattle.std.specs.Prelude.{◌==◌, ℕ, List, [], ◌∷◌, map, suc, Option, Some, None, if◌then◌else◌}
use Rattle.std.specs.Map.{lookup}
use Rattle.std.specs.Ordering.{nat_cmp, eq_by_cmp}
use Rattle.jnode.specs.declared.node.InodeNode.{InodeNode}

-- each node with its version
abbrev pub by_version : List InodeNode → List (ℕ × InodeNode)
by_version nodes = map (λ node. (node.version, node)) nodes

-- the node of a version among these
abbrev pub node_of_version : List InodeNode → ℕ → Option InodeNode
node_of_version nodes v = lookup (eq_by_cmp nat_cmp v) (by_version nodes)

-- where the last node of a version stands, the first of these at this place
abbrev pub last_place_from : ℕ → ℕ → Option ℕ → List InodeNode → Option ℕ
last_place_from place v found [] = found
last_place_from place v found (node ∷ nodes) =
    last_place_from (suc place) v (if node.version == v then Some place else found) nodes

-- where the last node of a version stands among these
abbrev pub place_of_version : List InodeNode → ℕ → Option ℕ
place_of_version nodes v = last_place_from 0 v None nodes

-- Where the older nodes of a number stand, by version.
use Rattle.std.specs.Prelude.{◌≡◌, ◌≤◌, ℕ, List, take, length}
use Rattle.std.specs.Ordering.{nat_cmp}
use Rattle.std.specs.BTreeMap.{get}
use Rattle.jnode.specs.declared.node.InodeNode.{InodeNode}
use Rattle.jmount.specs.ByVersion.{place_of_version}
use Rattle.jmount.specs.declared.places.Places.{Places}

-- these are the places of the first of the nodes
pub record AreVersionPlaces (nodes : List InodeNode) (places : Places) : Type 0 where
  pub within : places.listed ≤ length nodes
  pub at : (v : ℕ) → get nat_cmp places.map v ≡ place_of_version (take places.listed nodes) v

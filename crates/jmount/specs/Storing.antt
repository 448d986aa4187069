-- How nodes become objects that are stored.
use Rattle.std.specs.Prelude.{ℕ, ◌==◌, List, Option, None, Some, option_map, if◌then◌else◌}
use Rattle.std.specs.Option.{option_and_then}
use Rattle.std.specs.Ordering.{nat_cmp}
use Rattle.std.specs.BTreeMap.{get}
use Rattle.jnode.specs.declared.node.InodeNode.{InodeNode}
use Rattle.jmount.specs.Tree.{ObjectOf}
use Rattle.jmount.specs.StateOf.{latest, object_by, default_root, versions_of}
use Rattle.jmount.specs.Stored.{stored_object}
use Rattle.jmount.specs.Inodes.{NodesByNumber, nodes_in}
use Rattle.jmount.specs.declared.stored.Stored.{Stored}

-- an object with the greatest version of its nodes
abbrev pub VersionedObject : Type 0
VersionedObject = ObjectOf (List ℕ) × ℕ

abbrev pub as_made : Stored → VersionedObject
as_made stored = (stored_object stored, stored.version)

-- what the nodes of one number make
abbrev pub made_by : List InodeNode → Option VersionedObject
made_by versions = option_map (λ node. (object_by versions node, node.version)) (latest versions)

-- what the nodes of a number make, where it has any
abbrev pub made_of_number : NodesByNumber → ℕ → Option VersionedObject
made_of_number numbers i =
    option_and_then (λ versions. made_by (nodes_in versions)) (get nat_cmp numbers i)

-- the root of an image that has no inode node for it, which has no version
abbrev pub made_root : VersionedObject
made_root = (default_root, 0)

abbrev pub or_made_root : ℕ → Option VersionedObject → Option VersionedObject
or_made_root i None = if i == 1 then Some made_root else None
or_made_root i (Some made) = Some made

-- what the nodes of a number make, the root included
abbrev pub made_of : List InodeNode → ℕ → Option VersionedObject
made_of nodes i = or_made_root i (made_by (versions_of nodes i))

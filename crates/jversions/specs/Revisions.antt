-- What an object was: what its nodes up to a version make, as if they were all that there is
-- (Woodhouse 2001, JFFS: the versions of an inode number order its nodes).
use Rattle.std.specs.Prelude.{ℕ, ◌==◌, ◌&&◌, ◌||◌, Bool, false, nat_le, List, filter, Option, Some, None, if◌then◌else◌}
use Rattle.jnode.specs.declared.node.NodeRef.{NodeRef}
use Rattle.jnode.specs.declared.node.NodeRef.TheVariants.{Entry, Inode}
use Rattle.jmount.specs.Shown.{bytes_if}
use Rattle.jmount.specs.StateOf.{state_of}
use Rattle.jmount.specs.Tree.{ObjectOf, object, has_bits, regular_bits, symlink_bits}
use Rattle.jversions.specs.declared.revision.Revision.{Revision}

-- ---- its nodes

-- an inode node of this number and version is one of the revision
abbrev pub is_upto : Revision → ℕ → ℕ → Bool
is_upto r ino version = (ino == r.ino) && nat_le version r.version

abbrev pub is_node_of : Revision → NodeRef → Bool
is_node_of r (Inode node) = is_upto r node.ino node.version
is_node_of r (Entry entry) = false

abbrev pub nodes_upto : Revision → List NodeRef → List NodeRef
nodes_upto r ns = filter (is_node_of r) ns

-- ---- what they make

-- the object that a mount of these nodes alone shows
abbrev pub object_upto : Revision → List NodeRef → Option (ObjectOf (List ℕ))
object_upto r ns = object (state_of (nodes_upto r ns)) r.ino

-- the bytes of a regular file or a symlink
abbrev pub content_if : Option (ObjectOf (List ℕ)) → Option (List ℕ)
content_if o =
    if has_bits regular_bits o || has_bits symlink_bits o then Some (bytes_if o) else None

-- rule: The file system that nodes make: What a file was: its bytes by its nodes up to a version.
--   definitions: jversions.Revisions.content_upto, jversions.Revisions.nodes_upto,
--   jversions.Answers.PutsRevision
--   code: jversions::content::put_revision
--   laws: jversions::laws::last_revision_is_shown, jversions::laws::tiles_give_nodes
abbrev pub content_upto : Revision → List NodeRef → Option (List ℕ)
content_upto r ns = content_if (object_upto r ns)

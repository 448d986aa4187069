-- What is left of objects: of which versions their nodes are, and the bytes that all of them make.
use Rattle.std.specs.Prelude.{◌≡◌, ℕ, ◌≤◌, ◌==◌, ◌||◌, List, [], length, filter_map, map, Contains, Option, Some, None, option_map, if◌then◌else◌}
use Rattle.std.specs.BTreeSet.{BTreeSet, keys}
use Rattle.std.specs.List.{All}
use Rattle.sha2.specs.Sha256.{sha256}
use Rattle.jnode.specs.declared.node.NodeRef.{NodeRef}
use Rattle.jnode.specs.declared.node.NodeRef.TheVariants.{Entry, Inode}
use Rattle.jmount.specs.Tree.{ObjectOf, State, object, regular_bits, symlink_bits, type_bits}
use Rattle.jpast.specs.declared.past.Content.{Content}
use Rattle.jpast.specs.declared.past.Past.{Past}
use Rattle.jpast.specs.declared.past.Span.{Span}

-- nodes with their addresses
abbrev pub NodesAt : Type 0
NodesAt = List (ℕ × NodeRef)

-- ---- versions

abbrev pub version_if : ℕ → NodeRef → Option ℕ
version_if i (Entry entry) = None
version_if i (Inode node) = if node.ino == i then Some node.version else None

-- those of the inode nodes of an object
abbrev pub object_versions : NodesAt → ℕ → List ℕ
object_versions ns i = filter_map (λ n. version_if i n.1) ns

-- the lowest and the highest of some versions
pub record IsSpanOf (versions : List ℕ) (span : Span) : Type 0 where
  pub least : Contains versions span.lowest
  pub most : Contains versions span.highest
  pub within : (v : ℕ) → Contains versions v → (span.lowest ≤ v) × (v ≤ span.highest)

-- or none, where there are no versions
abbrev pub IsSpanIf : List ℕ → Option Span → Type 0
IsSpanIf versions None = versions ≡ []
IsSpanIf versions (Some span) = IsSpanOf versions span

-- ---- bytes

-- those of a regular file or a symlink
abbrev pub body_if : Option (ObjectOf (List ℕ)) → Option (List ℕ)
body_if None = None
body_if (Some o) = if (type_bits o.mode == regular_bits) || (type_bits o.mode == symlink_bits)
    then Some o.body else None

-- how many there are, and their digest by FIPS 180-4
abbrev pub content_summed : List ℕ → Content
content_summed bytes = record { size = length bytes; digest = sha256 bytes }

-- ---- both

-- rule: The file system that nodes make: What is left of an object: versions, size and digest.
--   definitions: jpast.Pasts.IsPastOf, jpast.Pasts.ArePastsOf
--   code: jpast::finding::pasts_of
--   laws: jpast::examples::pasts_are_lines
-- the versions of the inode nodes of an object, and its bytes in the tree that all nodes make
pub record IsPastOf (ns : NodesAt) (t : State) (past : Past) : Type 0 where
  pub span : IsSpanIf (object_versions ns past.ino) past.span
  pub content : past.content ≡ option_map content_summed (body_if (object t past.ino))

-- one of each of these numbers, in order
pub record ArePastsOf (ns : NodesAt) (t : State) (numbers : BTreeSet ℕ) (pasts : List Past)
    : Type 0 where
  pub order : map (λ past. past.ino) pasts ≡ keys numbers
  pub each : All (IsPastOf ns t) pasts

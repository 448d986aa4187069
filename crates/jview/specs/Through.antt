-- An image seen through its compression: each compressed node stands as the inode node of its
-- content.
use Rattle.std.specs.Prelude.{◌≡◌, ℕ, ◌≤◌, IsTrue, List, [], ◌∷◌, length, Option, None, Some, option_map, unwrap_or}
use Rattle.std.specs.Option.{option_or}
use Rattle.jnode.specs.declared.node.CompressedNode.{CompressedNode}
use Rattle.jnode.specs.declared.node.NodeRef.{NodeRef}
use Rattle.jnode.specs.declared.node.NodeRef.TheVariants as node
use Rattle.jnode.specs.declared.node.Seen.{Seen}
use Rattle.jnode.specs.declared.node.Seen.TheVariants as seen
use Rattle.jnode.specs.declared.order.Endian.{Endian}
use Rattle.jscan.specs.Image.{sightings}
use Rattle.jscan.specs.Scans.{IsScannable, findings, is_read_only}
use Rattle.jexpand.specs.Expanded.{compressed_node_at, node_content, with_content, expanded_nodes, unpacked_bytes}
use Rattle.jexpand.specs.Refused.{compressed_fault}
use Rattle.jexpand.specs.declared.fault.ConvertFault.{ConvertFault}
use Rattle.jexpand.specs.declared.fault.ConvertFault.TheVariants as fault
use Rattle.jmount.specs.Clash.{NoneClash}
use Rattle.jmount.specs.Tree.{State, is_directory}
use Rattle.jmount.specs.Mount.{Mount}
use Rattle.jmount.specs.StateOf.{state_of, tops_of}

-- how many bytes the contents of the compressed nodes of an image have at most, superseded ones too
abbrev pub greatest_contents : ℕ
greatest_contents = 1073741824

-- ---- what a tile gives, by what it is seen as and by the compressed node that it then is

abbrev pub node_by : CompressedNode → Seen → Option NodeRef
node_by packed (seen.Entry entry) = Some (node.Entry entry)
node_by packed (seen.Inode inode) = Some (node.Inode inode)
node_by packed (seen.Compressed compr) = option_map (with_content packed) (node_content packed)
node_by packed _ = None

-- the content of a compressed one
abbrev pub content_by : CompressedNode → Seen → List ℕ
content_by packed (seen.Compressed compr) = unwrap_or (node_content packed) []
content_by packed _ = []

-- Why an image is not mounted through: a node of an incompatible type, a compressed node of a
-- method that is not read or without content, or one that no block holds once it is expanded.
abbrev pub fault_by : ℕ → ℕ → CompressedNode → Seen → Option ConvertFault
fault_by size addr packed (seen.Incompatible nodetype) = Some (fault.Incompatible addr nodetype)
fault_by size addr packed (seen.Compressed compr) = compressed_fault size addr packed
fault_by size addr packed _ = None

-- ---- the same of an image

abbrev pub through_fault : Endian → ℕ → List ℕ → ℕ × Seen → Option ConvertFault
through_fault e size image s = fault_by size s.0 (compressed_node_at e size image s.0) s.1

-- that of least address
abbrev pub through_fault_among : Endian → ℕ → List ℕ → List (ℕ × Seen) → Option ConvertFault
through_fault_among e size image [] = None
through_fault_among e size image (s ∷ ss) =
    option_or (through_fault e size image s) (through_fault_among e size image ss)

abbrev pub first_fault : Endian → ℕ → List ℕ → Option ConvertFault
first_fault e size image = through_fault_among e size image (sightings e size image)

-- An image without a fault: no node is refused, the contents of its compressed nodes are no more
-- bytes than may be held, and no two of its nodes clash, once they are expanded.
pub record IsSoundThrough (e : Endian) (size : ℕ) (image : List ℕ) : Type 0 where
  pub scannable : IsScannable size image
  pub none : first_fault e size image ≡ None
  pub contents : length (unpacked_bytes e size image) ≤ greatest_contents
  pub apart : NoneClash (expanded_nodes e size image)

-- The image mounts through, as this file system.
pub record MountsThroughAs (e : Endian) (size : ℕ) (image : List ℕ) (s : State) : Type 0 where
  pub sound : IsSoundThrough e size image
  pub root : IsTrue (is_directory (state_of (expanded_nodes e size image)) 1)
  pub same : state_of (expanded_nodes e size image) ≡ s

-- the mount shows its own image, through its compression
pub record IsMountThroughOf (e : Endian) (size : ℕ) (mount : Mount) : Type 0 where
  pub mounts : MountsThroughAs e size mount.image mount.state
  pub tops : mount.tops ≡ tops_of (expanded_nodes e size mount.image)
  pub findings : mount.findings ≡ findings e size mount.image
  pub read_only : mount.read_only ≡ is_read_only e size mount.image

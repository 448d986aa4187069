-- Why the nodes of an image are not expanded.
use Rattle.std.specs.Prelude.{ℕ, ◌+◌, List, [], ◌∷◌, length, nat_le, Option, Some, None, if◌then◌else◌}
use Rattle.std.specs.Option.{is_none, option_or}
use Rattle.jnode.specs.Header.{header_len}
use Rattle.jnode.specs.Reading.{entry_len, inode_len}
use Rattle.jnode.specs.Writing.{stored_bytes}
use Rattle.jnode.specs.declared.node.CompressedNode.{CompressedNode}
use Rattle.jnode.specs.declared.node.Seen.{Seen}
use Rattle.jnode.specs.declared.node.Seen.TheVariants as seen
use Rattle.jnode.specs.declared.order.Endian.{Endian}
use Rattle.jscan.specs.Image.{sightings}
use Rattle.jcompr.specs.Content.{method_of}
use Rattle.jexpand.specs.Expanded.{compressed_node_at, node_content}
use Rattle.jexpand.specs.declared.fault.ConvertFault.{ConvertFault}
use Rattle.jexpand.specs.declared.fault.ConvertFault.TheVariants.{Incompatible, Compressed, Data, TooLong}

-- a node of so many bytes that no block holds after its clean marker
abbrev pub too_long : ℕ → ℕ → ℕ → Option ConvertFault
too_long size addr len = if nat_le (header_len + len) size then None else Some (TooLong addr)

-- A compressed node of a method that is not read; one that no block holds once it is expanded,
-- which its fields tell; or one whose data have no content.
abbrev pub compressed_fault : ℕ → ℕ → CompressedNode → Option ConvertFault
compressed_fault size addr node =
    if is_none (method_of node.compr) then Some (Compressed addr node.compr)
    else option_or (too_long size addr (inode_len + node.dsize))
    (if is_none (node_content node) then Some (Data addr) else None)

-- rule: Compressed data: Why an image is not decompressed, by the least address.
--   definitions: jexpand.Refused.node_fault, jexpand.Refused.nodes_fault,
--   jconvert.Converting.flash_fault, jconvert.Converting.convert_fault
--   code: jexpand::node::expanded_len, jconvert::judging::judge
-- why a sighted tile is not expanded, if that is so
abbrev pub node_fault : Endian → ℕ → List ℕ → ℕ × Seen → Option ConvertFault
node_fault e size image (addr, seen.Incompatible nodetype) = Some (Incompatible addr nodetype)
node_fault e size image (addr, seen.Entry entry) =
    too_long size addr (entry_len + length entry.name)
node_fault e size image (addr, seen.Inode inode) =
    too_long size addr (inode_len + length (stored_bytes inode.fill))
node_fault e size image (addr, seen.Compressed compr) =
    compressed_fault size addr (compressed_node_at e size image addr)
node_fault e size image _ = None

-- the fault of the first of these tiles that has one
abbrev pub fault_among : Endian → ℕ → List ℕ → List (ℕ × Seen) → Option ConvertFault
fault_among e size image [] = None
fault_among e size image (s ∷ ss) =
    option_or (node_fault e size image s) (fault_among e size image ss)

-- The fault of least address: sightings stand in the order of their addresses.
abbrev pub nodes_fault : Endian → ℕ → List ℕ → Option ConvertFault
nodes_fault e size image = fault_among e size image (sightings e size image)

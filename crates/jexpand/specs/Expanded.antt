-- The nodes of an image with their data decompressed.
use Rattle.std.specs.Prelude.{ℕ, ◌+◌, ◌/◌, ◌%◌, ◌==◌, List, [], drop, length, filter_map, Option, Some, None, option_map, option_and_then, unwrap_or, if◌then◌else◌}
use Rattle.std.specs.List.{flat_map}
use Rattle.jnode.specs.Compressed.{compressed_of, inode_with}
use Rattle.jnode.specs.Reading.{tile_of, entry_len, inode_len}
use Rattle.jnode.specs.Writing.{stored_bytes}
use Rattle.jnode.specs.declared.node.CompressedNode.{CompressedNode}
use Rattle.jnode.specs.declared.node.Fill.TheVariants.{Data}
use Rattle.jnode.specs.declared.node.NodeRef.{NodeRef}
use Rattle.jnode.specs.declared.node.NodeRef.TheVariants as node
use Rattle.jnode.specs.declared.node.Seen.{Seen}
use Rattle.jnode.specs.declared.node.Seen.TheVariants as seen
use Rattle.jnode.specs.declared.order.Endian.{Endian}
use Rattle.jscan.specs.Image.{block_of, sightings}
use Rattle.jcompr.specs.Answer.{of_length}
use Rattle.jcompr.specs.Content.{method_of, decompressed_of}
use Rattle.jcompr.specs.declared.method.Method.{Method}

-- the rest of its block from an address on
abbrev pub rest_at : ℕ → List ℕ → ℕ → List ℕ
rest_at size image addr = drop (addr % size) (block_of size image (addr / size))

-- the node at an address where a compressed one is sighted
abbrev pub compressed_node_at : Endian → ℕ → List ℕ → ℕ → CompressedNode
compressed_node_at e size image addr = compressed_of e (tile_of e (rest_at size image addr))

-- what data give by a method, where that is so many bytes
abbrev pub unpacked : ℕ → List ℕ → Method → Option (List ℕ)
unpacked size bytes method = option_and_then (of_length size) (decompressed_of method size bytes)

-- rule: Compressed data: The nodes of an image whose data are decompressed.
--   definitions: jexpand.Expanded.node_content, jexpand.Expanded.expanded_node,
--   jexpand.Expanded.expanded_nodes
--   code: jexpand::node::expanded_len, jexpand::node::write_expanded,
--   jexpand::node::write_with_content
-- The bytes that a compressed node gives for its range. A range of none has none, whatever the
-- data; else they are what the data give by their method, as many as the range has.
abbrev pub node_content : CompressedNode → Option (List ℕ)
node_content node = if node.dsize
    == 0 then Some [] else option_and_then (unpacked node.dsize node.data) (method_of node.compr)

-- the inode node of the same fields that has these bytes as they are
abbrev pub with_content : CompressedNode → List ℕ → NodeRef
with_content packed bytes = node.Inode (inode_with packed (Data bytes))

-- The node that a sighted tile gives: an entry and an inode node as it is, a compressed one with
-- its bytes.
abbrev pub expanded_node : Endian → ℕ → List ℕ → ℕ × Seen → Option NodeRef
expanded_node e size image (addr, seen.Entry entry) = Some (node.Entry entry)
expanded_node e size image (addr, seen.Inode inode) = Some (node.Inode inode)
expanded_node e size image (addr, seen.Compressed compr) =
    let packed =
    compressed_node_at e size image addr in option_map (with_content packed) (node_content packed)
expanded_node e size image _ = None

-- rule: Compressed data: The contents of its compressed nodes that are held, and written from
--   there.
--   definitions: jexpand.Expanded.tile_content, jexpand.Expanded.unpacked_bytes,
--   jconvert.Holding.IsHeldOf, jconvert.Holding.HasNoRoom
--   code: jconvert::judging::judge, jconvert::holding::Held::hold,
--   jconvert::writing::write_converted
-- the bytes that the data of a sighted tile stand for, where they are compressed; else none
abbrev pub tile_content : Endian → ℕ → List ℕ → ℕ × Seen → List ℕ
tile_content e size image (addr, seen.Compressed compr) =
    unwrap_or (node_content (compressed_node_at e size image addr)) []
tile_content e size image _ = []

-- those of these tiles, one after another
abbrev pub contents_of_tiles : Endian → ℕ → List ℕ → List (ℕ × Seen) → List ℕ
contents_of_tiles e size image tiles = flat_map (tile_content e size image) tiles

-- The contents of the compressed nodes of an image, one after another in the order of their
-- addresses.
abbrev pub unpacked_bytes : Endian → ℕ → List ℕ → List ℕ
unpacked_bytes e size image = contents_of_tiles e size image (sightings e size image)

-- The expanded nodes of an image, in the order of their addresses.
abbrev pub expanded_nodes : Endian → ℕ → List ℕ → List NodeRef
expanded_nodes e size image = filter_map (expanded_node e size image) (sightings e size image)

-- the number of bytes of a node's written form
abbrev pub node_length : NodeRef → ℕ
node_length (node.Entry entry) = entry_len + length entry.name
node_length (node.Inode inode) = inode_len + length (stored_bytes inode.fill)

-- The sizes of blocks and images, the blocks of an image, and the nodes in them.
use Rattle.std.specs.Prelude.{ℕ, ◌+◌, ◌*◌, ◌%◌, ◌==◌, ◌&&◌, Bool, nat_le, List, ◌++◌, length, take, drop, flat_map, filter_map, Option, Some, None, option_map}
use Rattle.std.specs.Int.{div_ceil}
use Rattle.flashbase.specs.Bytes.{erased}
use Rattle.flashbase.specs.Lists.{below}
use Rattle.jnode.specs.Reading.{seen_of, node_in}
use Rattle.jnode.specs.declared.order.Endian.{Endian}
use Rattle.jnode.specs.declared.node.NodeRef.{NodeRef}
use Rattle.jnode.specs.declared.node.Seen.{Seen}
use Rattle.jscan.specs.Tiling.{tiling_from}
use Rattle.jscan.specs.declared.tiles.TileKind.{TileKind}
use Rattle.jscan.specs.declared.tiles.TileKind.TheVariants.{Node, Word, Rest}

-- rule: Blocks and images: Block sizes and image lengths have limits.
--   definitions: jscan.Image.is_block_size, jscan.Image.greatest_image
--   code: jscan::geometry::Geometry
-- The block sizes that are read: whole words, from 4 KiB to 4 MiB.
abbrev pub is_block_size : ℕ → Bool
is_block_size size = nat_le 4096 size && nat_le size 4194304 && (size % 4 == 0)

-- 256 MiB
abbrev pub greatest_image : ℕ
greatest_image = 268435456

-- rule: Bytes and nodes: Bytes that an image lacks count as 0xFF.
--   definitions: jscan.Image.block_of
--   code: flashbase::part::Part, jnode::header::header_in, jnode::reading::read_part
--   laws: jscan::examples::nodes_of_a_cut_image
-- A block of the flash. What the image lacks counts as erased, the missing tail of its last block
-- too.
abbrev pub block_of : ℕ → List ℕ → ℕ → List ℕ
block_of size image k = take size (drop (k * size) image ++ erased size)

abbrev pub block_count : ℕ → List ℕ → ℕ
block_count size image = div_ceil (length image) size

-- what a node's tile is seen as, with its address; a word or a rest is no sighting
abbrev pub sighting : Endian → ℕ → List ℕ → TileKind → Option (ℕ × Seen)
sighting e addr bytes (Node header) = Some (addr, seen_of e bytes)
sighting e addr bytes Word = None
sighting e addr bytes Rest = None

-- the nodes' tiles of the rest of a block, from a place on
abbrev pub sightings_from : Endian → ℕ → ℕ → List ℕ → List (ℕ × Seen)
sightings_from e start place rest = filter_map
    (λ tile. sighting e (start + tile.place) tile.bytes tile.kind) (tiling_from e place 0 rest)

-- the nodes' tiles of the block that begins at an address, in order
abbrev pub sightings_in : Endian → ℕ → List ℕ → List (ℕ × Seen)
sightings_in e start block = sightings_from e start 0 block

-- rule: Blocks and images: The nodes of an image, with addresses.
--   definitions: jscan.Image.sightings, jscan.Image.nodes
--   code: jscan::sightings::Sightings, jscan::scanning::scan_to_refusal
--   laws: jscan::laws::nodes_are_of_blocks, jscan::laws::nodes_are_contained,
--   jscan::laws::addresses_ascend, jscan::laws::nodes_fit
-- the nodes' tiles of an image, in the order of their addresses
abbrev pub sightings : Endian → ℕ → List ℕ → List (ℕ × Seen)
sightings e size image = flat_map (λ k. sightings_in e (k * size) (block_of size image k))
    (below (block_count size image))

-- a node with its address, where the tile reads as one
abbrev pub node_sighted : ℕ × Seen → Option (ℕ × NodeRef)
node_sighted s = option_map (λ node. (s.0, node)) (node_in s.1)

-- the nodes of an image with their addresses, in order
abbrev pub nodes : Endian → ℕ → List ℕ → List (ℕ × NodeRef)
nodes e size image = filter_map node_sighted (sightings e size image)

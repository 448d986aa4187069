-- What the fields of an inode node say whose node_crc is right (Linux,
-- include/uapi/linux/jffs2.h: `struct jffs2_raw_inode`).
use Rattle.std.specs.Prelude.{ℕ, ◌+◌, List, ◌++◌, take, drop, filter_map, Option, Some, None}
use Rattle.flashbase.specs.Bytes.{erased}
use Rattle.jnode.specs.Order.{number_at}
use Rattle.jnode.specs.Reading.{inode_len}
use Rattle.jnode.specs.declared.order.Endian.{Endian}
use Rattle.jnode.specs.declared.node.InodeNode.{InodeNode}
use Rattle.jnode.specs.declared.node.Seen.{Seen}
use Rattle.jnode.specs.declared.node.Seen.TheVariants as seen
use Rattle.jscan.specs.Image.{sightings}
use Rattle.jgaps.specs.declared.fields.Stretch.{Stretch}

-- the bytes in front of a node's data: 68 from its address on; what the image lacks is erased
unfoldable pub node_front : List ℕ → ℕ → List ℕ
node_front image addr = take inode_len (drop addr image ++ erased inode_len)

-- the 32-bit number at a place of the node at an address
abbrev pub field_at : Endian → List ℕ → ℕ → ℕ → ℕ
field_at e image addr place = number_at e 4 place (node_front image addr)

-- of an inode node: its object and version, and the range of its data, from `offset` on, `dsize`
-- bytes
abbrev pub stretch_at : Endian → List ℕ → ℕ → Stretch
stretch_at e image addr = record {
  ino = field_at e image addr 12;
  version = field_at e image addr 16;
  from = field_at e image addr 44;
  to = field_at e image addr 44 + field_at e image addr 52;
}

-- ---- the nodes of an image

-- what an inode node that passes its checks has
abbrev pub stretch_of : InodeNode → Stretch
stretch_of node = record {
  ino = node.ino;
  version = node.version;
  from = node.offset;
  to = node.offset + node.dsize;
}

-- A compressed one has by its fields what any other has: its data hold the bytes of its range.
abbrev pub stretch_sighted : Endian → List ℕ → ℕ × Seen → Option Stretch
stretch_sighted e image (addr, seen.Inode node) = Some (stretch_of node)
stretch_sighted e image (addr, seen.Compressed compr) = Some (stretch_at e image addr)
stretch_sighted e image _ = None

abbrev pub stretches : Endian → ℕ → List ℕ → List Stretch
stretches e size image = filter_map (stretch_sighted e image) (sightings e size image)

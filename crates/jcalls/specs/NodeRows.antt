-- The nodes of an image, as rows.
use Rattle.std.specs.Prelude.{ℕ, List, length, filter_map, Option, Some, None}
use Rattle.jnode.specs.Compressed.{inode_with}
use Rattle.jnode.specs.Reading.{damage_number}
use Rattle.jnode.specs.declared.node.CompressedNode.{CompressedNode}
use Rattle.jnode.specs.declared.node.Dirent.{Dirent}
use Rattle.jnode.specs.declared.node.Fill.{Fill}
use Rattle.jnode.specs.declared.node.Fill.TheVariants.{Zero, Data}
use Rattle.jnode.specs.declared.node.InodeNode.{InodeNode}
use Rattle.jnode.specs.declared.node.Seen.{Seen}
use Rattle.jnode.specs.declared.node.Seen.TheVariants as seen
use Rattle.jnode.specs.declared.order.Endian.{Endian}
use Rattle.jscan.specs.Scans.{image_extents}
use Rattle.jscan.specs.declared.extent.Extent.{Extent}
use Rattle.jscan.specs.declared.extent.ExtentKind.{ExtentKind}
use Rattle.jscan.specs.declared.extent.ExtentKind.TheVariants.{Tiled, Erased, OtherOrder, Dirt}
use Rattle.jexpand.specs.Expanded.{compressed_node_at}
use Rattle.jcalls.specs.declared.node_row.NodeRow.{NodeRow}

-- of a node of which there is nothing more to say
abbrev pub plain_row : ℕ → ℕ → ℕ → ℕ → NodeRow
plain_row addr len kind detail = record {
  address = addr;
  length = len;
  kind = kind;
  detail = detail;
  number = 0;
  version = 0;
  directory = 0;
  entry_time = 0;
  entry_type = 0;
  mode = 0;
  uid = 0;
  gid = 0;
  size = 0;
  atime = 0;
  mtime = 0;
  ctime = 0;
  offset = 0;
  range = 0;
  method = 0;
  spare = 0;
  stored = 0;
}

-- its name has so many bytes
abbrev pub entry_node_row : ℕ → ℕ → Dirent → NodeRow
entry_node_row addr len entry = record (plain_row addr len 1 0) {
  number = entry.ino;
  version = entry.version;
  directory = entry.pino;
  entry_time = entry.mctime;
  entry_type = entry.kind;
  stored = length entry.name;
}

-- how the bytes of its range are stored, and in how many bytes of the node
abbrev pub storage_method : Fill → ℕ
storage_method Zero = 1
storage_method (Data bytes) = 0

abbrev pub storage_len : Fill → ℕ
storage_len Zero = 0
storage_len (Data bytes) = length bytes

abbrev pub inode_row : ℕ → ℕ → ℕ → InodeNode → ℕ → ℕ → NodeRow
inode_row addr len kind node method stored = record (plain_row addr len kind 0) {
  number = node.ino;
  version = node.version;
  mode = node.mode;
  uid = node.uid;
  gid = node.gid;
  size = node.isize;
  atime = node.atime;
  mtime = node.mtime;
  ctime = node.ctime;
  offset = node.offset;
  range = node.dsize;
  method = method;
  stored = stored;
}

abbrev pub compressed_row : ℕ → ℕ → CompressedNode → NodeRow
compressed_row addr len node =
    inode_row addr len 10 (inode_with node Zero) node.compr (length node.«data»)

-- the row of a node that is seen as this at an address
abbrev pub seen_row : Endian → ℕ → List ℕ → ℕ → ℕ → Seen → NodeRow
seen_row e size image addr len (seen.Entry entry) = entry_node_row addr len entry
seen_row e size image addr len (seen.Inode node) =
    inode_row addr len 2 node (storage_method node.fill) (storage_len node.fill)
seen_row e size image addr len seen.Marker = plain_row addr len 3 0
seen_row e size image addr len seen.Padding = plain_row addr len 4 0
seen_row e size image addr len seen.Obsolete = plain_row addr len 5 0
seen_row e size image addr len seen.Attribute = plain_row addr len 6 0
seen_row e size image addr len (seen.Skippable nodetype) = plain_row addr len 7 nodetype
seen_row e size image addr len (seen.ReadOnly nodetype) = plain_row addr len 8 nodetype
seen_row e size image addr len (seen.Incompatible nodetype) = plain_row addr len 9 nodetype
seen_row e size image addr len (seen.Compressed compr) =
    compressed_row addr len (compressed_node_at e size image addr)
seen_row e size image addr len (seen.Damaged which) = plain_row addr len 11 (damage_number which)

-- words between the nodes have none
abbrev pub row_by : Endian → ℕ → List ℕ → ℕ → ℕ → ExtentKind → Option NodeRow
row_by e size image addr len (Tiled what) = Some (seen_row e size image addr len what)
row_by e size image addr len Erased = None
row_by e size image addr len OtherOrder = None
row_by e size image addr len Dirt = None

abbrev pub node_row : Endian → ℕ → List ℕ → Extent → Option NodeRow
node_row e size image s = row_by e size image s.addr s.len s.kind

-- of all nodes, in the order of their addresses
abbrev pub node_rows : Endian → ℕ → List ℕ → List NodeRow
node_rows e size image = filter_map (node_row e size image) (image_extents e size image)

-- What an image tells of itself, as a row.
use Rattle.std.specs.Prelude.{ℕ, Option, Some, None}
use Rattle.jnode.specs.declared.order.Endian.{Endian}
use Rattle.jnode.specs.declared.order.Endian.TheVariants.{Little, Big}
use Rattle.jinfo.specs.declared.info.Info.{Info}
use Rattle.jinfo.specs.declared.sizes.SizeRange.{SizeRange}
use Rattle.jcalls.specs.declared.rows.InfoRow.{InfoRow}

abbrev pub order_number : Option Endian → ℕ
order_number None = 0
order_number (Some Little) = 1
order_number (Some Big) = 2

-- a range that is not known begins and ends at 0
abbrev pub sizes_or_none : Option SizeRange → SizeRange
sizes_or_none (Some sizes) = sizes
sizes_or_none None = record { least = 0; greatest = 0 }

abbrev pub info_row : Info → InfoRow
info_row info = record {
  bytes = info.bytes;
  order = order_number info.order;
  least_block = (sizes_or_none info.census.sizes).least;
  greatest_block = (sizes_or_none info.census.sizes).greatest;
  highest_inode = info.census.highest.ino;
  highest_version = info.census.highest.version;
  spare = 0;
  markers = info.census.markers;
  nodes = info.census.nodes.all;
  other_order = info.other;
  entries = info.census.nodes.entries;
  inodes = info.census.nodes.inodes;
  obsolete = info.census.nodes.obsolete;
  damaged = info.census.nodes.damaged;
  other = info.census.nodes.other;
  data_none = info.census.storage.none;
  data_zero = info.census.storage.zero;
  data_rtime = info.census.storage.rtime;
  data_zlib = info.census.storage.zlib;
  data_lzo = info.census.storage.lzo;
  data_lzma = info.census.storage.lzma;
  data_other = info.census.storage.other;
}

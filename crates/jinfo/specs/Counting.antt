-- One extent more, in what is counted of a walk.
use Rattle.std.specs.Prelude.{ℕ, ◌+◌, ◌<◌, ◌^◌, max, List}
use Rattle.jnode.specs.declared.order.Endian.{Endian}
use Rattle.jscan.specs.Counts.{one_if}
use Rattle.jscan.specs.declared.extent.ExtentKind.{ExtentKind}
use Rattle.jscan.specs.declared.extent.Extent.{Extent}
use Rattle.jinfo.specs.Census.{is_node_tile, is_dirent_tile, is_object_tile, is_obsolete_tile, is_damaged_tile, is_other_tile, is_stored_tile, is_zero_tile, is_packed_by, is_packed_otherwise, rtime, zlib, lzo, lzma, ino_named, version_named}
use Rattle.jinfo.specs.declared.nodes.NodeCounts.{NodeCounts}
use Rattle.jinfo.specs.declared.storage.DataCounts.{DataCounts}
use Rattle.jinfo.specs.declared.highest.Highest.{Highest}

-- one more of each can be counted
pub record NodesHaveRoom (c : NodeCounts) : Type 0 where
  pub all : c.all + 1 < 2 ^ 64
  pub entries : c.entries + 1 < 2 ^ 64
  pub inodes : c.inodes + 1 < 2 ^ 64
  pub obsolete : c.obsolete + 1 < 2 ^ 64
  pub damaged : c.damaged + 1 < 2 ^ 64
  pub other : c.other + 1 < 2 ^ 64

abbrev pub nodes_counted : NodeCounts → ExtentKind → NodeCounts
nodes_counted c kind = record {
  all = c.all + one_if (is_node_tile kind);
  entries = c.entries + one_if (is_dirent_tile kind);
  inodes = c.inodes + one_if (is_object_tile kind);
  obsolete = c.obsolete + one_if (is_obsolete_tile kind);
  damaged = c.damaged + one_if (is_damaged_tile kind);
  other = c.other + one_if (is_other_tile kind);
}

pub record DataHaveRoom (c : DataCounts) : Type 0 where
  pub none : c.none + 1 < 2 ^ 64
  pub zero : c.zero + 1 < 2 ^ 64
  pub rtime : c.rtime + 1 < 2 ^ 64
  pub zlib : c.zlib + 1 < 2 ^ 64
  pub lzo : c.lzo + 1 < 2 ^ 64
  pub lzma : c.lzma + 1 < 2 ^ 64
  pub other : c.other + 1 < 2 ^ 64

abbrev pub data_counted : DataCounts → ExtentKind → DataCounts
data_counted c kind = record {
  none = c.none + one_if (is_stored_tile kind);
  zero = c.zero + one_if (is_zero_tile kind);
  rtime = c.rtime + one_if (is_packed_by rtime kind);
  zlib = c.zlib + one_if (is_packed_by zlib kind);
  lzo = c.lzo + one_if (is_packed_by lzo kind);
  lzma = c.lzma + one_if (is_packed_by lzma kind);
  other = c.other + one_if (is_packed_otherwise kind);
}

abbrev pub higher_with : Endian → List ℕ → Highest → Extent → Highest
higher_with e block h s = record {
  ino = max h.ino (ino_named e block s.addr s.kind);
  version = max h.version (version_named e block s.addr s.kind);
}

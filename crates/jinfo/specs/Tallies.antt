-- What is counted of a walk, all at once.
use Rattle.std.specs.Prelude.{◌≡◌, ℕ, ◌+◌, ◌<◌, ◌^◌, List}
use Rattle.jnode.specs.declared.order.Endian.{Endian}
use Rattle.jscan.specs.declared.extent.Extent.{Extent}
use Rattle.jinfo.specs.Census.{node_counts_of, data_counts_of, highest_of}
use Rattle.jinfo.specs.Counting.{NodesHaveRoom, DataHaveRoom, nodes_counted, data_counted, higher_with}
use Rattle.jinfo.specs.Marks.{no_marks, MarksWith, MarksOf}
use Rattle.jinfo.specs.declared.census.Tally.{Tally}

-- nothing counted
abbrev pub no_tally : Tally
no_tally = record {
  nodes = record { all = 0; entries = 0; inodes = 0; obsolete = 0; damaged = 0; other = 0 };
  storage = record { none = 0; zero = 0; rtime = 0; zlib = 0; lzo = 0; lzma = 0; other = 0 };
  marks = no_marks;
  highest = record { ino = 0; version = 0 };
}

-- one more of each can be counted
pub record TallyHasRoom (t : Tally) : Type 0 where
  pub nodes : NodesHaveRoom t.nodes
  pub storage : DataHaveRoom t.storage
  pub markers : t.marks.markers + 1 < 2 ^ 64

-- one extent of this block more
pub record TallyWith (e : Endian) (block : List ℕ) (t : Tally) (s : Extent) (now : Tally)
    : Type 0 where
  pub nodes : now.nodes ≡ nodes_counted t.nodes s.kind
  pub storage : now.storage ≡ data_counted t.storage s.kind
  pub marks : MarksWith t.marks s now.marks
  pub highest : now.highest ≡ higher_with e block t.highest s

-- all of a walk of this block
pub record TallyOf (e : Endian) (block : List ℕ) (walk : List Extent) (t : Tally) : Type 0 where
  pub nodes : t.nodes ≡ node_counts_of walk
  pub storage : t.storage ≡ data_counts_of walk
  pub marks : MarksOf walk t.marks
  pub highest : t.highest ≡ highest_of e block walk

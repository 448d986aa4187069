-- What a scan counts of the extents of blocks.
use Rattle.std.specs.Prelude.{ℕ, ◌+◌, ◌*◌, Bool, true, false, List, flat_map, count_by, if◌then◌else◌}
use Rattle.flashbase.specs.Lists.{below}
use Rattle.jnode.specs.declared.order.Endian.{Endian}
use Rattle.jnode.specs.declared.node.Seen.TheVariants as seen
use Rattle.jscan.specs.Image.{block_of}
use Rattle.jscan.specs.Extents.{extents}
use Rattle.jscan.specs.declared.counts.Counts.{Counts}
use Rattle.jscan.specs.declared.extent.ExtentKind.{ExtentKind}
use Rattle.jscan.specs.declared.extent.ExtentKind.TheVariants.{Tiled, OtherOrder, Dirt}
use Rattle.jscan.specs.declared.extent.Extent.{Extent}

abbrev pub is_entry_tile : ExtentKind → Bool
is_entry_tile (Tiled (seen.Entry entry)) = true
is_entry_tile _ = false

abbrev pub is_inode_tile : ExtentKind → Bool
is_inode_tile (Tiled (seen.Inode inode)) = true
is_inode_tile _ = false

-- what counts as found: nodes that are not read, and words that are not erased
abbrev pub is_found : ExtentKind → Bool
is_found (Tiled seen.Attribute) = true
is_found (Tiled (seen.ReadOnly nodetype)) = true
is_found (Tiled (seen.Incompatible nodetype)) = true
is_found (Tiled (seen.Compressed compr)) = true
is_found (Tiled (seen.Damaged which)) = true
is_found OtherOrder = true
is_found Dirt = true
is_found _ = false

-- how many of these extents pass a test of kinds
abbrev pub count_in : (ExtentKind → Bool) → List Extent → ℕ
count_in test ss = count_by (λ s. test s.kind) ss

-- the extents of one block of an image, and of its first n blocks
abbrev pub extents_of_block : Endian → ℕ → List ℕ → ℕ → List Extent
extents_of_block e size image k = extents e (k * size) (block_of size image k)

abbrev pub extents_below : Endian → ℕ → List ℕ → ℕ → List Extent
extents_below e size image n = flat_map (extents_of_block e size image) (below n)

-- what the first n blocks of an image contain
abbrev pub counts_of : Endian → ℕ → List ℕ → ℕ → Counts
counts_of e size image n =
    let ss = extents_below e size image n in
    record {
      blocks = n;
      entries = count_in is_entry_tile ss;
      inodes = count_in is_inode_tile ss;
      findings = count_in is_found ss;
    }

abbrev pub no_counts : Counts
no_counts = record { blocks = 0; entries = 0; inodes = 0; findings = 0 }

-- one extent more
abbrev pub one_if : Bool → ℕ
one_if b = if b then 1 else 0

abbrev pub counted : Counts → ExtentKind → Counts
counted c kind = record {
  blocks = c.blocks;
  entries = c.entries + one_if (is_entry_tile kind);
  inodes = c.inodes + one_if (is_inode_tile kind);
  findings = c.findings + one_if (is_found kind);
}

-- one block more
abbrev pub block_counted : Counts → List Extent → Counts
block_counted c ss = record {
  blocks = c.blocks + 1;
  entries = c.entries + count_in is_entry_tile ss;
  inodes = c.inodes + count_in is_inode_tile ss;
  findings = c.findings + count_in is_found ss;
}

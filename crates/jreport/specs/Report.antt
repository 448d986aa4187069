-- The lines that `check --scan` prints of an image, as functions of the image.
use Rattle.std.specs.Prelude.{ℕ, ◌+◌, ◌^◌, ◌<◌, Bool, List, ◌++◌}
use Rattle.std.specs.List.{flat_map}
use Rattle.flashbase.specs.Lists.{below}
use Rattle.jnode.specs.declared.order.Endian.{Endian}
use Rattle.jscan.specs.Counts.{counts_of, count_in, extents_of_block, extents_below}
use Rattle.jscan.specs.Image.{block_count}
use Rattle.jscan.specs.declared.counts.Counts.{Counts}
use Rattle.jscan.specs.declared.extent.ExtentKind.{ExtentKind}
use Rattle.jscan.specs.declared.extent.Extent.{Extent}
use Rattle.jreport.specs.Forms.{block_line, extent_line, total_line}

-- ---- what is counted

-- n more of each can be counted
pub record CountsHaveRoom (c : Counts) (n : ℕ) : Type 0 where
  pub blocks : c.blocks + n < 2 ^ 64
  pub entries : c.entries + n < 2 ^ 64
  pub inodes : c.inodes + n < 2 ^ 64
  pub findings : c.findings + n < 2 ^ 64

-- ---- an image, block by block

-- how many extents of an image have a kind that passes the test
abbrev pub count_in_image : (ExtentKind → Bool) → Endian → ℕ → List ℕ → ℕ
count_in_image test e size image =
    count_in test (extents_below e size image (block_count size image))

-- the lines of block k, which has these extents
abbrev pub lines_of_block : ℕ → List Extent → List ℕ
lines_of_block k ss = block_line k ++ flat_map extent_line ss

unfoldable pub block_lines : Endian → ℕ → List ℕ → ℕ → List ℕ
block_lines e size image k = lines_of_block k (extents_of_block e size image k)

-- the lines of the first n blocks
abbrev pub lines_below : Endian → ℕ → List ℕ → ℕ → List ℕ
lines_below e size image n = flat_map (block_lines e size image) (below n)

-- the line of these totals
abbrev pub totals_line : Counts → List ℕ
totals_line c = total_line c.blocks c.entries c.inodes c.findings

-- rule: What is printed: The report of `check --scan`.
--   definitions: jreport.Report.scan_text, jreport.Stream.ReadsTo
--   code: jreport::report::scan_lines, jreport::stream::stream_lines
--   laws: jreport::report_examples::entry_is_reported,
--   jreport::report_examples::empty_image_is_reported
-- what `check --scan` prints
unfoldable pub scan_text : Endian → ℕ → List ℕ → List ℕ
scan_text e size image = let blocks = block_count size image in lines_below e size image blocks
    ++ totals_line (counts_of e size image blocks)

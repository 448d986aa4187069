-- What an image is counted as.
use Rattle.std.specs.Prelude.{◌≡◌, ◌<◌, ℕ, IsTrue, IsFalse, List, length}
use Rattle.jnode.specs.declared.order.Endian.{Endian}
use Rattle.jscan.specs.Counts.{counts_of}
use Rattle.jscan.specs.Image.{block_count, greatest_image, is_block_size}
use Rattle.jscan.specs.Scans.{IsScannable}
use Rattle.jscan.specs.declared.counts.Counts.{Counts}
use Rattle.jscan.specs.declared.geometry.ScanFault.{ScanFault}
use Rattle.jscan.specs.declared.geometry.ScanFault.TheVariants as scan
use Rattle.jcalls.specs.Told.{scan_told}
use Rattle.jcalls.specs.declared.rows.Counted.{Counted}
use Rattle.jcalls.specs.declared.told.Told.{Told}

abbrev pub counted_row : Counts → Counted
counted_row counts = record {
  blocks = counts.blocks;
  entries = counts.entries;
  inodes = counts.inodes;
  findings = counts.findings;
}

-- all its blocks are counted
abbrev pub CountsBy : Endian → ℕ → List ℕ → Counts → Type 0
CountsBy e size image counts =
    IsScannable size image × (counts ≡ counts_of e size image (block_count size image))

abbrev pub CountsAsked : Endian → ℕ → List ℕ → Counted → Type 0
CountsAsked e size image row = IsScannable size image
    × (row ≡ counted_row (counts_of e size image (block_count size image)))

-- why it is not counted: a node never refuses it
abbrev pub IsUncounted : ℕ → List ℕ → ScanFault → Type 0
IsUncounted size image scan.BlockSize = IsFalse (is_block_size size)
IsUncounted size image scan.TooLarge =
    IsTrue (is_block_size size) × (greatest_image < length image)
IsUncounted size image (scan.Incompatible addr nodetype) = ⊥
IsUncounted size image (scan.Compressed addr compr) = ⊥
IsUncounted size image scan.OutOfMemory = ⊥

abbrev pub CountRefused : ℕ → List ℕ → Told → Type 0
CountRefused size image told =
    (why : ScanFault) × IsUncounted size image why × (told ≡ scan_told why)

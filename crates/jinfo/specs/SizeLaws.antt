-- What holds of the sizes that are told of an image's blocks.
use Rattle.std.specs.Prelude.{◌≡◌, ◌≤◌, ℕ, IsTrue, IsSomeAnd, List, Some}
use Rattle.std.specs.List.{list_any, Contains}
use Rattle.jscan.specs.Image.{is_block_size}
use Rattle.jscan.specs.declared.extent.Extent.{Extent}
use Rattle.jinfo.specs.BlockSizes.{block_sizes, is_later_marker, may_be_size, size_fits, size_range_of}
use Rattle.jinfo.specs.declared.sizes.SizeRange.{SizeRange}

-- Each size that fits is from MIN to MAX, which are known then.
abbrev pub FittingAreTold : Type 0
FittingAreTold = (walk : List Extent) (size : ℕ) → IsTrue (list_any is_later_marker walk)
    → IsTrue (size_fits walk size)
    → IsSomeAnd (size_range_of walk) (λ range. (range.least ≤ size) × (size ≤ range.greatest))

-- a size of a block that nothing rules out
abbrev pub IsSizeLeft : List Extent → ℕ → Type 0
IsSizeLeft walk size = IsTrue (is_block_size size) × IsTrue (may_be_size walk size)

-- MIN and MAX are sizes that nothing rules out.
abbrev pub ToldAreLeft : Type 0
ToldAreLeft = (walk : List Extent) (range : SizeRange) → size_range_of walk ≡ Some range
    → IsSizeLeft walk range.least × IsSizeLeft walk range.greatest

-- A power of two that nothing rules out fits.
abbrev pub LeftPowersFit : Type 0
LeftPowersFit = (walk : List Extent) (size : ℕ) → Contains block_sizes size
    → IsTrue (may_be_size walk size) → IsTrue (size_fits walk size)

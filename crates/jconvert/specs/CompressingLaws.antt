-- Laws of compressed images. Each is a statement: it holds since a public function's contract names
-- it.
use Rattle.std.specs.Prelude.{◌≡◌, ℕ, List, None}
use Rattle.flashbase.specs.Ranges.{AreBytes}
use Rattle.jnode.specs.declared.order.Endian.{Endian}
use Rattle.jmount.specs.Mounts.{MountsAs, plain_nodes}
use Rattle.jmount.specs.Tree.{State}
use Rattle.jexpand.specs.Expanded.{expanded_nodes}
use Rattle.jconvert.specs.Converting.{convert_fault, converted_image, converted_of}
use Rattle.jconvert.specs.Compressing.{IsPackedImage, compress_fault}

-- The nodes that are compressed are those that the image shows, each and in order.
abbrev pub CompressedAreNodes : Type 0
CompressedAreNodes = (e : Endian) (size : ℕ) (image : List ℕ) → compress_fault e size image ≡ None
    → expanded_nodes e size image ≡ plain_nodes e size image

-- What decompressing makes of an image that went out for another: it is not refused, gives that
-- one's nodes, each and in order, and as many of them were compressed.
pub record GivesBack (e : Endian) (size : ℕ) (image out : List ℕ) (packed : ℕ) : Type 0 where
  pub accepted : convert_fault e size out ≡ None
  pub nodes : expanded_nodes e size out ≡ plain_nodes e size image
  pub changed : (converted_of e size out).changed ≡ packed

-- So it is of all that compressing may put for an image.
abbrev pub CompressedGivesBack : Type 0
CompressedGivesBack =
    (e : Endian) (size : ℕ) (image out : List ℕ) (changed : ℕ) → AreBytes image
    → compress_fault e size image ≡ None → IsPackedImage e size image out changed
    → GivesBack e size image out changed

-- An image that mounts still mounts as the same file system, once compressed and decompressed.
abbrev pub CompressedMounts : Type 0
CompressedMounts =
    (e : Endian) (size : ℕ) (image out : List ℕ) (changed : ℕ) (s : State) → AreBytes image
    → compress_fault e size image ≡ None → IsPackedImage e size image out changed
    → MountsAs e size image s → MountsAs e size (converted_image e size out) s

-- An image with bytes in its row, as it is put: up to where it ended, or to the last of them.
use Rattle.std.specs.Prelude.{◌≡◌, ℕ, ◌+◌, ◌-◌, ◌*◌, ◌<◌, ◌≤◌, ◌==◌, max, IsTrue, List, length, take, if◌then◌else◌}
use Rattle.jnode.specs.declared.order.Endian.{Endian}
use Rattle.jscan.specs.Image.{is_block_size, greatest_image}
use Rattle.jmount.specs.Tree.{State}
use Rattle.jview.specs.Through.{MountsThroughAs}
use Rattle.jlog.specs.Left.{flash_byte}
use Rattle.jrow.specs.Row.{blank_blocks, address_in, IsRowOf}
use Rattle.jrow.specs.RowLeft.{IsLeftInRow, with_row}

-- how long it is then
abbrev pub length_with : ℕ → List ℕ → List ℕ → List ℕ → ℕ
length_with size base row written =
    if length written == 0 then length base else
    max (length base) (address_in size row (length written - 1) + 1)

abbrev pub image_with_row : ℕ → ℕ → List ℕ → List ℕ → List ℕ → List ℕ
image_with_row size blocks base row written =
    take (length_with size base row written) (with_row size blocks base row written)

-- images of one flash, which lack more or fewer of its last bytes
abbrev pub HoldSame : List ℕ → List ℕ → Type 0
HoldSame image other = (at : ℕ) → flash_byte image at ≡ flash_byte other at

-- It lacks none of the flash but erased bytes.
abbrev pub WithRowIsWhole : Type 0
WithRowIsWhole = (size blocks : ℕ) (base row written : List ℕ) → 0 < size → IsRowOf blocks row
    → length base ≤ blocks * size → length written ≤ length row * size
    → HoldSame (with_row size blocks base row written) (image_with_row size blocks base row written)

-- Of images that hold the same, what leaves one may leave the other,
abbrev pub SameIsLeftInRow : Type 0
SameIsLeftInRow = (e : Endian) (size blocks k : ℕ) (base row out image other : List ℕ)
    → length other ≤ blocks * size → HoldSame image other
    → IsLeftInRow e size blocks base row out k image
    → IsLeftInRow e size blocks base row out k other

-- and both mount through as the same.
abbrev pub SameMountsThrough : Type 0
SameMountsThrough = (e : Endian) (size blocks : ℕ) (image other : List ℕ) (s : State)
    → IsTrue (is_block_size size) → blocks * size ≤ greatest_image → length image ≤ blocks * size
    → length other ≤ blocks * size → HoldSame image other
    → MountsThroughAs e size image s → MountsThroughAs e size other s

-- So a stop may leave the image that has in its row what went out.
abbrev pub ImageWithRowIsLeft : Type 0
ImageWithRowIsLeft = (e : Endian) (size blocks k : ℕ) (base row out : List ℕ) → 0 < size
    → length base ≤ blocks * size → row ≡ blank_blocks e size blocks base
    → length out ≤ length row * size
    → IsLeftInRow e size blocks base row out k (image_with_row size blocks base row (take k out))

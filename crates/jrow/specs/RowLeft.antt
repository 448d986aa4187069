-- What a write to the blank blocks of an image that stopped leaves.
use Rattle.std.specs.Prelude.{◌≡◌, ℕ, ◌*◌, ◌+◌, ◌<◌, ◌≤◌, ◌==◌, IsTrue, List, [], ◌∷◌, length, take, filter_map, flat_map, Contains, Option, None, Some, option_map, unwrap_or, if◌then◌else◌}
use Rattle.std.specs.List.{AllByRecursion}
use Rattle.flashbase.specs.Lists.{below}
use Rattle.jnode.specs.declared.order.Endian.{Endian}
use Rattle.jscan.specs.Image.{is_block_size, block_of}
use Rattle.jscan.specs.Scans.{is_read_only}
use Rattle.jexpand.specs.Expanded.{expanded_nodes, unpacked_bytes}
use Rattle.jview.specs.Through.{first_fault}
use Rattle.jlog.specs.Places.{fit}
use Rattle.jlog.specs.Output.{output}
use Rattle.jlog.specs.Left.{flash_byte, IsLeft, intact}
use Rattle.jlog.specs.Forms.{IsStorableForm, IsLoggableForm, NoFormWeak}
use Rattle.jlog.specs.Through.{form_node, form_content, IsReadForm}
use Rattle.jrow.specs.Merging.{Interleaves}
use Rattle.jrow.specs.Row.{blank_blocks, side_by_side, IsInRow}

-- A stop after k bytes of `out`, which was being written to a row of the base, may leave this
-- image: what is not in the row is the base's, and side by side the row's blocks are what a stop
-- may leave there of a log that begins in the first of them.
pub record IsLeftInRow (e : Endian) (size blocks : ℕ) (base row out : List ℕ) (k : ℕ)
    (image : List ℕ) : Type 0 where
  pub no_longer : length image ≤ blocks * size
  pub stays : (at : ℕ) → (IsInRow size row at → ⊥) → flash_byte image at ≡ flash_byte base at
  pub written : IsLeft e size (length row) (side_by_side size row base) 0 out k
      (side_by_side size row image)

-- the same of the row of all blank blocks, to which forms were being written
abbrev pub IsLeftOfForms : Endian → ℕ → ℕ → List ℕ → List (List ℕ) → ℕ → List ℕ → Type 0
IsLeftOfForms e size blocks base forms k image =
    IsLeftInRow e size blocks base (blank_blocks e size blocks base) (output e size 0 forms) k image

-- the blocks that are not of the row are the base's
abbrev pub OtherBlocksStay : Type 0
OtherBlocksStay = (e : Endian) (size blocks k b : ℕ) (base row out image : List ℕ) → 0 < size
    → IsLeftInRow e size blocks base row out k image → (Contains row b → ⊥)
    → block_of size image b ≡ block_of size base b

-- ---- some image is left

-- where a block stands in a row
abbrev pub index_in : List ℕ → ℕ → Option ℕ
index_in [] b = None
index_in (c ∷ row) b = if c == b then Some 0 else option_map (λ index. index + 1) (index_in row b)

-- a block of the base, or where it is of the row what was written there
abbrev pub block_with : ℕ → List ℕ → List ℕ → List ℕ → ℕ → List ℕ
block_with size base row written b =
    unwrap_or (option_map (block_of size written) (index_in row b)) (block_of size base b)

-- the flash of a base after these bytes were written to its row
abbrev pub with_row : ℕ → ℕ → List ℕ → List ℕ → List ℕ → List ℕ
with_row size blocks base row written = flat_map (block_with size base row written) (below blocks)

-- What went out may always be left.
abbrev pub WrittenIsLeftInRow : Type 0
WrittenIsLeftInRow = (e : Endian) (size blocks k : ℕ) (base row out : List ℕ) → 0 < size
    → length base ≤ blocks * size → row ≡ blank_blocks e size blocks base
    → IsLeftInRow e size blocks base row out k (with_row size blocks base row (take k out))

-- ---- what stands there

-- Forms for the blank blocks of a base, which have room for them.
pub record AreStoredInRow (e : Endian) (size blocks : ℕ) (base : List ℕ)
    (forms : List (List ℕ)) : Type 0 where
  pub size_is : IsTrue (is_block_size size)
  pub no_longer : length base ≤ blocks * size
  pub each : AllByRecursion (IsStorableForm e size) forms
  pub read : AllByRecursion (IsReadForm e size) forms
  pub room : IsTrue (fit size (length (blank_blocks e size blocks base)) 0 forms)

-- The nodes are the base's and those of these forms, each in their order, and so are the contents.
-- Where the base is not refused it is not, and it may be written after where the base may.
pub record ExpandsInRow (e : Endian) (size : ℕ) (base image : List ℕ) (forms : List (List ℕ)) : Type
    0 where
  pub nodes : Interleaves (expanded_nodes e size base) (filter_map (form_node e) forms)
      (expanded_nodes e size image)
  pub contents : length (unpacked_bytes e size image)
      ≡ length (unpacked_bytes e size base) + length (flat_map (form_content e) forms)
  pub none : first_fault e size base ≡ None → first_fault e size image ≡ None
  pub read_only : is_read_only e size image ≡ is_read_only e size base

-- After a cut these are the forms that are kept,
abbrev pub LeftInRowExpands : Type 0
LeftInRowExpands =
    (e : Endian) (size blocks k : ℕ) (base image : List ℕ) (forms : List (List ℕ))
    → AreStoredInRow e size blocks base forms → AllByRecursion (IsLoggableForm e size) forms
    → NoFormWeak e forms → IsLeftOfForms e size blocks base forms k image
    → ExpandsInRow e size base image (take (intact size 0 k forms) forms)

-- and without a cut all of them, of any length, and whether a cut of them would be seen or not.
abbrev pub WholeInRowExpands : Type 0
WholeInRowExpands =
    (e : Endian) (size blocks k : ℕ) (base image : List ℕ) (forms : List (List ℕ))
    → AreStoredInRow e size blocks base forms → length (output e size 0 forms) ≤ k
    → IsLeftOfForms e size blocks base forms k image → ExpandsInRow e size base image forms

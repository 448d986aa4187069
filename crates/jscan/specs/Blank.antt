-- Where writing may go on.
use Rattle.std.specs.Prelude.{ℕ, zero, suc, ◌-◌, ◌<◌, ◌≤◌, Bool, bytes_eq, IsTrue, List, ◌++◌, take, if◌then◌else◌}
use Rattle.std.specs.List.{list_any}
use Rattle.flashbase.specs.Bytes.{erased}
use Rattle.flashbase.specs.Lists.{below}
use Rattle.jnode.specs.declared.order.Endian.{Endian}
use Rattle.jnode.specs.Writing.{clean_marker}
use Rattle.jscan.specs.Image.{block_of}

-- the first j bytes of the clean marker, and erased flash after them
abbrev pub marked : Endian → ℕ → ℕ → List ℕ
marked e size j = take j (clean_marker e) ++ erased (size - j)

-- A block is blank if it holds the clean marker's beginning, or nothing, and is erased after it.
unfoldable pub is_blank : Endian → ℕ → List ℕ → Bool
is_blank e size block = list_any (λ j. bytes_eq block (marked e size j)) (below 13)

-- the flash's blocks from b to the last are all blank
pub record AreBlankFrom (e : Endian) (size : ℕ) (image : List ℕ) (blocks b : ℕ) : Type 0 where
  pub within : b ≤ blocks
  pub blank : (k : ℕ) → b ≤ k → k < blocks → IsTrue (is_blank e size (block_of size image k))

-- b is the least such
pub record IsBlankFrom (e : Endian) (size : ℕ) (image : List ℕ) (blocks b : ℕ) : Type 0 where
  pub blank : AreBlankFrom e size image blocks b
  pub least : (c : ℕ) → AreBlankFrom e size image blocks c → b ≤ c

-- rule: Blocks and images: The beginning of the blank tail.
--   definitions: jscan.Blank.blank_from, jscan.Blank.IsBlankFrom
--   code: jscan::blank::blank_from
--   laws: jscan::laws::blank_from_is_least, jscan::examples::blank_tail
-- the same as a function of the number of blocks
abbrev pub blank_from : Endian → ℕ → List ℕ → ℕ → ℕ
blank_from e size image zero = zero
blank_from e size image (suc blocks) =
    if is_blank e size (block_of size image blocks) then blank_from e size image blocks else
    suc blocks

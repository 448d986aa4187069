-- Some image is always left by a stop.
use Rattle.std.specs.Prelude.{ℕ, ◌-◌, ◌*◌, ◌≤◌, ◌==◌, IsTrue, List, [], ◌∷◌, ◌++◌, length, take, flat_map, if◌then◌else◌}
use Rattle.flashbase.specs.Lists.{below}
use Rattle.jnode.specs.declared.order.Endian.{Endian}
use Rattle.jscan.specs.Image.{is_block_size, block_of}
use Rattle.jlog.specs.Left.{front_of}
use Rattle.jrests.specs.Left.{IsLeftOfShares}
use Rattle.jrests.specs.Openings.{AreOpeningsOf}
use Rattle.jrests.specs.Shares.{Share, shares, output_to}
use Rattle.jrests.specs.declared.opening.Opening.{Opening}

-- the block of a share with the first k bytes that went out to it
abbrev pub block_after : Endian → ℕ → List ℕ → Share → ℕ → List ℕ
block_after e size base share k = block_of size
    (front_of (block_of size base share.0.block) share.0.place ++ take k (output_to e size share)) 0

-- a block of the flash with the first k bytes that went out to some shares
abbrev pub block_left : Endian → ℕ → List ℕ → List Share → ℕ → ℕ → List ℕ
block_left e size base [] k b = block_of size base b
block_left e size base (share ∷ shares) k b =
    if share.0.block == b then block_after e size base share k else
    block_left e size base shares (k - length (output_to e size share)) b

-- and the flash
abbrev pub flash_left : Endian → ℕ → ℕ → List ℕ → List Share → ℕ → List ℕ
flash_left e size blocks base shares k =
    flat_map (block_left e size base shares k) (below blocks)

-- That flash may be left.
abbrev pub SomeAreLeftInOpenings : Type 0
SomeAreLeftInOpenings = (e : Endian) (size blocks k : ℕ) (base : List ℕ) (row : List Opening)
    (forms : List (List ℕ)) → IsTrue (is_block_size size) → length base ≤ blocks * size
    → AreOpeningsOf e size blocks base row
    → IsLeftOfShares e size blocks base (shares size row forms) k
    (flash_left e size blocks base (shares size row forms) k)

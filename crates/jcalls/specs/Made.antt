-- Images that are made of an image, and given to a caller.
use Rattle.std.specs.Prelude.{◌≡◌, ◌≢◌, ◌<◌, ℕ, List, ◌++◌, length, drop, None, Some, Err, ⊤}
use Rattle.jnode.specs.declared.order.Endian.{Endian}
use Rattle.jexpand.specs.declared.fault.ConvertFault.{ConvertFault}
use Rattle.jconvert.specs.Compressing.{compress_fault, IsPackedImage}
use Rattle.jconvert.specs.Converting.{convert_fault, converted_image, Converts, FaultOwes}
use Rattle.jcalls.specs.Told.{convert_told}
use Rattle.jcalls.specs.declared.told.Told.{Told}

-- ---- which image

-- the one image of the expanded nodes
abbrev pub IsDecompressed : Endian → ℕ → List ℕ → List ℕ → Type 0
IsDecompressed e size image made =
    (convert_fault e size image ≡ None) × (made ≡ converted_image e size image)

-- one of forms of all nodes, some of them packed
abbrev pub IsCompressed : Endian → ℕ → List ℕ → List ℕ → Type 0
IsCompressed e size image made = (compress_fault e size image ≡ None)
    × ((changed : ℕ) × IsPackedImage e size image made changed)

-- ---- why none is made, and what is told

abbrev pub DecompressRefused : Endian → ℕ → List ℕ → Told → Type 0
DecompressRefused e size image told =
    (why : ConvertFault) × Converts e size image (Err why) × (told ≡ convert_told why)

-- want of memory at any time, as the sink's; else what refuses the image
abbrev pub CompressRefused : Endian → ℕ → List ℕ → Told → Type 0
CompressRefused e size image told = (why : ConvertFault)
    × FaultOwes ⊤ ⊤ (λ other. compress_fault e size image ≡ Some other) why
    × (told ≡ convert_told why)

-- ---- giving it

-- it stands at the front of the caller's memory, which is as it was behind it
abbrev pub GivesMade : (List ℕ → Type 0) → List ℕ → List ℕ → ℕ → Type 0
GivesMade IsMade old new needed = (made : List ℕ) × IsMade made × (needed ≡ length made)
    × (new ≡ made ++ drop needed old)

-- there is no room for it, and how many bytes it has is told
abbrev pub NeedsForMade : (List ℕ → Type 0) → List ℕ → ℕ → Type 0
NeedsForMade IsMade old needed = (made : List ℕ) × IsMade made × (needed ≡ length made)
    × (length old < needed)

-- the one or the other, by what is answered
pub record Gives (bytes old new : List ℕ) (needed status : ℕ) : Type 0 where
  pub counted : needed ≡ length bytes
  pub given : status ≡ 0 → new ≡ bytes ++ drop (length bytes) old
  pub short : status ≡ 9 → length old < length bytes
  pub kept : status ≢ 0 → new ≡ old
  pub either : status ≢ 0 → status ≡ 9

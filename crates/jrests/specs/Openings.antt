-- The openings of an image: its blank blocks, and the rests of its begun ones.
use Rattle.std.specs.Prelude.{◌≡◌, ℕ, ◌+◌, ◌<◌, ◌≤◌, Option, Some, option_map, List, [], ◌∷◌, filter_map, if◌then◌else◌}
use Rattle.std.specs.List.{AllByRecursion}
use Rattle.flashbase.specs.Lists.{below}
use Rattle.jnode.specs.declared.order.Endian.{Endian}
use Rattle.jscan.specs.Blank.{is_blank}
use Rattle.jscan.specs.Image.{block_of}
use Rattle.jrests.specs.Begun.{rest_of}
use Rattle.jrests.specs.declared.opening.Opening.{Opening}

-- where in a block writing may begin: at its front if it is blank, and else where its rest begins
abbrev pub opening_in : Endian → ℕ → List ℕ → Option ℕ
opening_in e size block = if is_blank e size block then Some 0 else rest_of e size block

abbrev pub opening_at : ℕ → Option ℕ → Option Opening
opening_at b place = option_map (λ at. record { block = b; place = at }) place

-- the openings of an image on a flash of so many blocks, upwards; a block past the image's end is
-- blank
abbrev pub openings : Endian → ℕ → ℕ → List ℕ → List Opening
openings e size blocks image =
    filter_map (λ b. opening_at b (opening_in e size (block_of size image b))) (below blocks)

-- those of its begun blocks alone
abbrev pub rests : Endian → ℕ → ℕ → List ℕ → List Opening
rests e size blocks image =
    filter_map (λ b. opening_at b (rest_of e size (block_of size image b))) (below blocks)

-- ---- any of them

-- These are openings of blocks from one on and below another, each in a block above that of the one
-- before it.
abbrev pub AreUpwards : ℕ → ℕ → List Opening → Type 0
AreUpwards from blocks [] = Unit {0}
AreUpwards from blocks (o ∷ row) =
    (from ≤ o.block) × (o.block < blocks) × AreUpwards (o.block + 1) blocks row

abbrev pub IsOpeningOf : Endian → ℕ → List ℕ → Opening → Type 0
IsOpeningOf e size image o = opening_in e size (block_of size image o.block) ≡ Some o.place

-- Some openings of an image, upwards: a row that a log may be written to.
pub record AreOpeningsOf (e : Endian) (size blocks : ℕ) (image : List ℕ) (row : List Opening) : Type
    0 where
  pub upwards : AreUpwards 0 blocks row
  pub each : AllByRecursion (IsOpeningOf e size image) row

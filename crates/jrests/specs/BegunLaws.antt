-- Laws of rests and openings. Each is a statement: it holds since a public function's contract
-- names it.
use Rattle.std.specs.Prelude.{◌≡◌, ◌↔◌, ℕ, ◌%◌, Some, List, ◌++◌, length, take, drop}
use Rattle.jnode.specs.declared.order.Endian.{Endian}
use Rattle.jscan.specs.Tiling.{tiling, tiling_from}
use Rattle.jrests.specs.Begun.{IsRest, rest_of}
use Rattle.jrests.specs.Openings.{openings, rests, AreOpeningsOf}

-- A block's rest begins at a place exactly if the function gives that place,
abbrev pub RestIsDecided : Type 0
RestIsDecided = (e : Endian) (size : ℕ) (block : List ℕ) (at : ℕ) → length block % 4 ≡ 0
    → (rest_of e size block ≡ Some at) ↔ IsRest e size block at

-- so it begins at one place only.
abbrev pub RestIsOne : Type 0
RestIsOne = (e : Endian) (size : ℕ) (block : List ℕ) (a b : ℕ) → length block % 4 ≡ 0
    → IsRest e size block a → IsRest e size block b → a ≡ b

-- What is written from there on changes no tile in front of it.
abbrev pub RestKeepsTiles : Type 0
RestKeepsTiles = (e : Endian) (size : ℕ) (block written : List ℕ) (at : ℕ)
    → length block % 4 ≡ 0 → (rest : IsRest e size block at)
    → length written ≡ length block → take at written ≡ take at block
    → tiling e written ≡ rest.before ++ tiling_from e at 0 (drop at written)

-- All openings of an image are such, and so are the rests of its begun blocks.
abbrev pub OpeningsAreOpenings : Type 0
OpeningsAreOpenings = (e : Endian) (size blocks : ℕ) (image : List ℕ)
    → AreOpeningsOf e size blocks image (openings e size blocks image)
    × AreOpeningsOf e size blocks image (rests e size blocks image)

-- Where a block that is begun may be written: behind its nodes.
use Rattle.std.specs.Prelude.{◌≡◌, ℕ, ◌-◌, ◌<◌, ◌==◌, ◌&&◌, not, Bool, true, false, IsFalse, Option, None, Some, List, [], ◌∷◌, ◌++◌, length, drop, if◌then◌else◌}
use Rattle.std.specs.List.{AllByRecursion}
use Rattle.flashbase.specs.Bytes.{erased}
use Rattle.jnode.specs.Reading.{seen_of}
use Rattle.jnode.specs.declared.header.Header.{Header}
use Rattle.jnode.specs.declared.node.Seen.{Seen}
use Rattle.jnode.specs.declared.node.Seen.TheVariants as seen
use Rattle.jnode.specs.declared.order.Endian.{Endian}
use Rattle.jscan.specs.Blank.{is_blank}
use Rattle.jscan.specs.Extents.{extents}
use Rattle.jscan.specs.Tiling.{Tile, bytes_of, tiling}
use Rattle.jscan.specs.declared.extent.Extent.{Extent}
use Rattle.jscan.specs.declared.extent.ExtentKind.{ExtentKind}
use Rattle.jscan.specs.declared.extent.ExtentKind.TheVariants.{Tiled, Erased}
use Rattle.jscan.specs.declared.tiles.TileKind.TheVariants.{Node}

abbrev pub is_damaged : Seen → Bool
is_damaged (seen.Damaged which) = true
is_damaged _ = false

-- the tile of a node that is not damaged
pub record IsWholeNode (e : Endian) (tile : Tile) : Type 0 where
  pub header : Header
  pub node : tile.kind ≡ Node header
  pub sound : is_damaged (seen_of e tile.bytes) ≡ false

-- rule: Blocks and images: Where a block that is begun may be written on.
--   definitions: jrests.Begun.IsRest, jrests.Begun.rest_of, jrests.Openings.openings
--   code: jrests::opening::rests_of, jrests::opening::openings_of
--   laws: jrests::laws::rest_is_decided, jrests::laws::rest_keeps_tiles,
--   jrests::laws::openings_are_openings, jrests::examples::rests_of_blocks,
--   jrests::examples::never_gone_on_in
-- The rest of a begun block begins at a place: in front of it are the tiles of nodes alone, none of
-- them damaged, and from there on the block is erased, for one byte or more. A block that is blank
-- is not begun.
pub record IsRest (e : Endian) (size : ℕ) (block : List ℕ) (at : ℕ) : Type 0 where
  pub before : List Tile
  pub after : List Tile
  pub tiles : tiling e block ≡ before ++ after
  pub begins : length (bytes_of before) ≡ at
  pub whole : AllByRecursion (IsWholeNode e) before
  pub clear : drop at block ≡ erased (length block - at)
  pub within : at < length block
  pub begun : IsFalse (is_blank e size block)

-- ---- the same computed

-- a node that is not damaged
abbrev pub is_passed : ExtentKind → Bool
is_passed (Tiled what) = not (is_damaged what)
is_passed _ = false

abbrev pub is_clear : ExtentKind → Bool
is_clear Erased = true
is_clear _ = false

-- where the last of some extents begins, if it is erased, and all before it are nodes that are not
-- damaged
abbrev pub clear_last : List Extent → Option ℕ
clear_last [] = None
clear_last (s ∷ ss) =
    if is_passed s.kind then clear_last ss else
    if is_clear s.kind && (length ss == 0) then Some s.addr else None

-- where the rest of a block begins in it, if it has one
abbrev pub rest_of : Endian → ℕ → List ℕ → Option ℕ
rest_of e size block = if is_blank e size block then None else clear_last (extents e 0 block)

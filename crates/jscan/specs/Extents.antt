-- The extents of a block: its nodes' tiles, and the longest runs of the words between them.
use Rattle.std.specs.Prelude.{ℕ, ◌+◌, ◌==◌, Option, Some, None, Bool, true, false, List, [], ◌∷◌, map, length, if◌then◌else◌}
use Rattle.std.specs.List.{list_all}
use Rattle.jnode.specs.declared.node.Seen.{Seen}
use Rattle.jnode.specs.declared.order.Endian.{Endian}
use Rattle.jnode.specs.Header.{magic_of}
use Rattle.jnode.specs.Reading.{seen_of}
use Rattle.jscan.specs.Tiling.{Tile, tiling_from}
use Rattle.jscan.specs.declared.tiles.TileKind.{TileKind}
use Rattle.jscan.specs.declared.tiles.TileKind.TheVariants.{Node, Word, Rest}
use Rattle.jscan.specs.declared.extent.ExtentKind.{ExtentKind}
use Rattle.jscan.specs.declared.extent.ExtentKind.TheVariants.{Tiled, Erased, OtherOrder, Dirt}
use Rattle.jscan.specs.declared.extent.Extent.{Extent}

-- the magic number 0x1985 of a node of the other byte order, read in this one
abbrev pub other_magic : ℕ
other_magic = 0x8519

-- rule: Blocks and images: Words and rests are erased, of the other order, or dirt.
--   definitions: jscan.Extents.class_of
--   code: jscan::extents::Extents
--   laws: jscan::examples::other_order_is_known, jscan::examples::rest_is_judged_whole
-- A word or a rest is erased if all its bytes are 0xFF. Else it is the other byte order's if it
-- begins with that order's magic, and dirt if it does not.
unfoldable pub class_of : Endian → List ℕ → ExtentKind
class_of e bytes =
    if list_all (λ b. b == 0xFF) bytes then Erased
    else if magic_of e bytes == other_magic then OtherOrder
    else Dirt

-- what kind of extent a tile is
abbrev pub extent_kind_of : Endian → TileKind → List ℕ → ExtentKind
extent_kind_of e (Node header) bytes = Tiled (seen_of e bytes)
extent_kind_of e Word bytes = class_of e bytes
extent_kind_of e Rest bytes = class_of e bytes

-- a tile as an extent of the block that begins at an address
abbrev pub extent_of : Endian → ℕ → Tile → Extent
extent_of e start tile = record {
  addr = start + tile.place;
  len = length tile.bytes;
  kind = extent_kind_of e tile.kind tile.bytes;
}

-- two kinds that go on as one run
abbrev pub is_one_run : ExtentKind → ExtentKind → Bool
is_one_run Erased Erased = true
is_one_run OtherOrder OtherOrder = true
is_one_run Dirt Dirt = true
is_one_run _ _ = false

-- an extent in front of others: one with the first of them, where they go on as one run
abbrev pub in_front : Extent → List Extent → List Extent
in_front s [] = s ∷ []
in_front s (t ∷ ts) = if is_one_run s.kind t.kind then
    record { addr = s.addr; len = s.len + t.len; kind = s.kind } ∷ ts else s ∷ t ∷ ts

-- the extents with each longest run as one
abbrev pub runs_joined : List Extent → List Extent
runs_joined [] = []
runs_joined (s ∷ ss) = in_front s (runs_joined ss)

-- the extents of the rest of a block, from a place on
unfoldable pub extents_from : Endian → ℕ → ℕ → List ℕ → List Extent
extents_from e start place rest = runs_joined (map (extent_of e start) (tiling_from e place 0 rest))

-- rule: Blocks and images: Neighbours of one class are one run, within a block.
--   definitions: jscan.Extents.extents, jscan.Extents.runs_joined
--   code: jscan::extents::Extents
--   laws: jscan::laws::runs_are_longest, jscan::laws::extents_make_up
-- the extents of the block that begins at this address, in order
abbrev pub extents : Endian → ℕ → List ℕ → List Extent
extents e start block = extents_from e start 0 block

abbrev pub sighted_by : ℕ → ExtentKind → Option (ℕ × Seen)
sighted_by addr (Tiled what) = Some (addr, what)
sighted_by addr _ = None

-- what of an extent is a sighting
abbrev pub sighted : Extent → Option (ℕ × Seen)
sighted s = sighted_by s.addr s.kind

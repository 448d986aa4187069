-- The tiles of an image that are nodes of a revision.
use Rattle.std.specs.Prelude.{◌≡◌, ◌≤◌, ℕ, Bool, false, List, filter, length, Contains, None}
use Rattle.jnode.specs.declared.node.CompressedNode.{CompressedNode}
use Rattle.jnode.specs.declared.node.Seen.{Seen}
use Rattle.jnode.specs.declared.node.Seen.TheVariants as seen
use Rattle.jnode.specs.declared.order.Endian.{Endian}
use Rattle.jscan.specs.Image.{sightings}
use Rattle.jexpand.specs.Expanded.{compressed_node_at, contents_of_tiles}
use Rattle.jview.specs.Through.{greatest_contents, through_fault}
use Rattle.jversions.specs.Revisions.{is_upto}
use Rattle.jversions.specs.declared.revision.Revision.{Revision}

-- by what a tile is seen as, and by the compressed node that it then is
abbrev pub takes_seen : Revision → CompressedNode → Seen → Bool
takes_seen r packed (seen.Inode node) = is_upto r node.ino node.version
takes_seen r packed (seen.Compressed compr) = is_upto r packed.ino packed.version
takes_seen r packed _ = false

abbrev pub takes_tile : Revision → Endian → ℕ → List ℕ → ℕ × Seen → Bool
takes_tile r e size image s = takes_seen r (compressed_node_at e size image s.0) s.1

-- in the order of their addresses
abbrev pub tiles_upto : Revision → Endian → ℕ → List ℕ → List (ℕ × Seen)
tiles_upto r e size image = filter (takes_tile r e size image) (sightings e size image)

-- No data of these tiles are refused, and the contents of the compressed ones are no more bytes
-- than may be held.
pub record AreTilesHeld (e : Endian) (size : ℕ) (image : List ℕ) (tiles : List (ℕ × Seen)) : Type
    0 where
  pub none : (s : ℕ × Seen) → Contains tiles s → through_fault e size image s ≡ None
  pub few : length (contents_of_tiles e size image tiles) ≤ greatest_contents

-- Laws of the format. Each is a statement: it holds since a public function's contract names it.
use Rattle.std.specs.Prelude.{◌≡◌, ◌≢◌, ◌↔◌, ◌+◌, ◌<◌, ◌≤◌, ◌*◌, ◌%◌, ◌^◌, ℕ, IsTrue, false, Some, List, ◌++◌, length, take, drop, slice_index}
use Rattle.flashbase.specs.Bytes.{pad4_of, erased}
use Rattle.flashbase.specs.Ranges.{AreBytes, IsWord}
use Rattle.jnode.specs.Order.{number_in, number_at, bytes_in}
use Rattle.jnode.specs.Header.{IsGood, header_len, header_of, has_header, is_good, totlen_of}
use Rattle.jnode.specs.Reading.{Reads, seen_of, node_in, tile_of}
use Rattle.jnode.specs.Writing.{canonical, clean_marker, padding_node, filled, Fits, HoldsBytes, IsWritable, is_writable, totlen_most}
use Rattle.jnode.specs.Compressed.{compressed_of, ReadsCompressedNode, canonical_compressed, FitsCompressed, IsWritableCompressed}
use Rattle.jnode.specs.Weak.{torn, is_weak}
use Rattle.jnode.specs.declared.order.Endian.{Endian}
use Rattle.jnode.specs.declared.node.CompressedNode.{CompressedNode}
use Rattle.jnode.specs.declared.node.NodeRef.{NodeRef}
use Rattle.jnode.specs.declared.node.Damage.{Damage}
use Rattle.jnode.specs.declared.node.Seen.TheVariants.{Marker, Padding, Damaged}

-- ---- numbers

-- a number that fits n bytes is what is in its n bytes
abbrev pub NumberReadsBack : Type 0
NumberReadsBack = (e : Endian) (n x : ℕ) (rest : List ℕ) → x < 256 ^ n
    → number_in e n (bytes_in e n x ++ rest) ≡ x

-- and the bytes at a place are those of the number that is there
pub record NumberIsSpelled : Type 0 where
  pub of_2 : (e : Endian) (place : ℕ) (bytes : List ℕ) → AreBytes bytes → place + 2 ≤ length bytes
      → take 2 (drop place bytes) ≡ bytes_in e 2 (number_at e 2 place bytes)
  pub of_4 : (e : Endian) (place : ℕ) (bytes : List ℕ) → AreBytes bytes → place + 4 ≤ length bytes
      → take 4 (drop place bytes) ≡ bytes_in e 4 (number_at e 4 place bytes)

-- ---- headers

-- whether a header is good is computed
abbrev pub GoodIsComputed : Type 0
GoodIsComputed = (e : Endian) (rest : List ℕ) → IsTrue (is_good e rest) ↔ IsGood e rest

-- a header is its twelve bytes
abbrev pub HeaderIsTwelveBytes : Type 0
HeaderIsTwelveBytes = (e : Endian) (a b : List ℕ) → take header_len a ≡ take header_len b
    → (has_header e a ≡ has_header e b) × (header_of e a ≡ header_of e b)

-- there is no good header in erased flash
abbrev pub ErasedIsNotGood : Type 0
ErasedIsNotGood = (e : Endian) (n : ℕ) → is_good e (erased n) ≡ false

-- ---- reading and writing

-- a tile reads as at most one node
abbrev pub ReadsOne : Type 0
ReadsOne = (e : Endian) (tile : List ℕ) (a b : NodeRef) → Reads e tile a → Reads e tile b → a ≡ b

-- what is seen of a good header's tile is what the tile reads as
abbrev pub SeenIsRead : Type 0
SeenIsRead = (e : Endian) (rest : List ℕ) (node : NodeRef) → IsGood e rest → length rest % 4 ≡ 0
    → (node_in (seen_of e (tile_of e rest)) ≡ Some node) ↔ Reads e (tile_of e rest) node

-- What is seen of bytes fits its widths, also in a tile that a block's end cut short.
abbrev pub SeenFits : Type 0
SeenFits = (e : Endian) (tile : List ℕ) (node : NodeRef) → AreBytes tile
    → node_in (seen_of e tile) ≡ Some node → Fits node × HoldsBytes node

-- whether a node may be written is computed
abbrev pub WritableIsComputed : Type 0
WritableIsComputed = (node : NodeRef) → IsTrue (is_writable node) ↔ IsWritable node

-- The written form, up to a multiple of 4, reads as that node.
abbrev pub WrittenReads : Type 0
WrittenReads = (e : Endian) (node : NodeRef) → Fits node → IsTrue (is_writable node)
    → Reads e (filled (canonical e node)) node

-- The tile at the start of these bytes, the rest of a block, is that of the written bytes.
pub record IsTileOf (e : Endian) (bytes rest : List ℕ) : Type 0 where
  pub good : IsTrue (is_good e rest)
  pub totlen : totlen_of e rest ≡ length bytes
  pub tile : tile_of e rest ≡ filled bytes

-- A written node is a tile of its own, whatever follows.
abbrev pub WrittenIsTile : Type 0
WrittenIsTile = (e : Endian) (node : NodeRef) (rest : List ℕ) → IsWord (length (canonical e node))
    → IsTileOf e (canonical e node) (filled (canonical e node) ++ rest)

-- it begins with a byte of the magic, so not with an erased one
abbrev pub WrittenIsNotErased : Type 0
WrittenIsNotErased = (e : Endian) (node : NodeRef) → slice_index (canonical e node) 0 ≢ 0xFF

-- The written form of a compressed node, up to a multiple of 4, reads as that node,
abbrev pub CompressedReadsBack : Type 0
CompressedReadsBack = (e : Endian) (node : CompressedNode) → FitsCompressed node
    → IsWritableCompressed node → ReadsCompressedNode e (filled (canonical_compressed e node)) node

-- and is a tile of its own.
abbrev pub CompressedIsTile : Type 0
CompressedIsTile = (e : Endian) (node : CompressedNode) (rest : List ℕ)
    → IsWord (length (canonical_compressed e node))
    → IsTileOf e (canonical_compressed e node) (filled (canonical_compressed e node) ++ rest)

-- What is read of such a node fits its widths.
abbrev pub CompressedFits : Type 0
CompressedFits =
    (e : Endian) (tile : List ℕ) → AreBytes tile → FitsCompressed (compressed_of e tile)

-- The clean marker is a tile of its own too, and it is seen as that.
pub record IsMarkerTile (e : Endian) (rest : List ℕ) : Type 0 where
  pub good : IsTrue (is_good e rest)
  pub tile : tile_of e rest ≡ clean_marker e
  pub seen : seen_of e (clean_marker e) ≡ Marker

abbrev pub MarkerIsTile : Type 0
MarkerIsTile = (e : Endian) (rest : List ℕ) → IsMarkerTile e (clean_marker e ++ rest)

-- And so is padding.
pub record IsPaddingTile (e : Endian) (n : ℕ) (rest : List ℕ) : Type 0 where
  pub tile_of_it : IsTileOf e (padding_node e n) rest
  pub seen : seen_of e (filled (padding_node e n)) ≡ Padding

abbrev pub PaddingIsTile : Type 0
PaddingIsTile = (e : Endian) (n : ℕ) (rest : List ℕ) → header_len ≤ n → IsWord n
    → IsPaddingTile e n (filled (padding_node e n) ++ rest)

-- ---- cuts

-- A length that spells no magic in a header's second word, whole or cut, in either order.
abbrev pub IsPlain : ℕ → Type 0
IsPlain totlen = (totlen < 65536) × (totlen ≢ 6533)

-- Where a cut inside the header changes it, and the checks show that, there is no good header at
-- any word from there on: at the second word the length spells no magic, and at the third the
-- length that would follow is 0xFFFFFFFF.
abbrev pub TornHeaderIsNone : Type 0
TornHeaderIsNone = (e : Endian) (node : NodeRef) (j n word : ℕ)
    → IsPlain (length (canonical e node)) → j < header_len → j + n ≤ totlen_most
    → take header_len (torn (canonical e node) j) ≢ take header_len (canonical e node)
    → is_weak e (canonical e node) j ≡ false
    → is_good e (drop (4 * word) (take j (canonical e node) ++ erased n)) ≡ false

-- Where a cut changes a node and not its header, and the checks show that, the node is seen as
-- damaged.
abbrev pub TornNodeIsDamaged : Type 0
TornNodeIsDamaged = (e : Endian) (node : NodeRef) (j : ℕ)
    → take header_len (torn (canonical e node) j) ≡ take header_len (canonical e node)
    → torn (canonical e node) j ≢ canonical e node → is_weak e (canonical e node) j ≡ false
    → (which : Damage) × (seen_of e (filled (torn (canonical e node) j)) ≡ Damaged which)

-- The tile at the start of these bytes is what a cut after j bytes left of the written bytes.
pub record IsTornTile (e : Endian) (bytes : List ℕ) (j : ℕ) (rest : List ℕ) : Type 0 where
  pub good : IsTrue (is_good e rest)
  pub totlen : totlen_of e rest ≡ length bytes
  pub tile : tile_of e rest ≡ filled (torn bytes j)

-- Where a cut keeps the header, the node is a tile of its own: what was written of it, and erased
-- bytes.
abbrev pub TornIsTile : Type 0
TornIsTile = (e : Endian) (node : NodeRef) (j n : ℕ) → IsWord (length (canonical e node))
    → j ≤ length (canonical e node)
    → pad4_of (length (canonical e node)) ≤ j + n
    → take header_len (torn (canonical e node) j) ≡ take header_len (canonical e node)
    → IsTornTile e (canonical e node) j (take j (canonical e node) ++ erased n)

-- a cut after the header keeps it
abbrev pub CutBehindKeepsHeader : Type 0
CutBehindKeepsHeader = (bytes : List ℕ) (j : ℕ) → header_len ≤ j → header_len ≤ length bytes
    → take header_len (torn bytes j) ≡ take header_len bytes

-- Nor is there a good header at any word of a clean marker that was cut.
abbrev pub TornMarkerIsNone : Type 0
TornMarkerIsNone = (e : Endian) (j n word : ℕ) → j < header_len
    → is_good e (drop (4 * word) (take j (clean_marker e) ++ erased n)) ≡ false

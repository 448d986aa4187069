-- A node's tile, cut out of the bytes that begin with it, has the same header.
use Rattle.std.proofs.Common.{◌≡◌, ℕ, ◌%◌, ◌≤◌, List, length, take, sym, ap, ◌∙◌, arith}
use Rattle.std.proofs.lemmas.List.{length-take-le}
use Rattle.flashbase.specs.Bytes.{pad4_of}
use Rattle.flashbase.proofs.BytesLemmas.{le_pad4, pad4_least}
use Rattle.jnode.specs.declared.order.Endian.{Endian}
use Rattle.jnode.proofs.OrderLemmas.{number_at-take}
use Rattle.jnode.proofs.HeaderLemmas.{header_crc_of-take}
use Rattle.jnode.specs.Header.{IsGood, magic, magic_of, totlen_of, hdr_crc_of, header_crc_of}
use Rattle.jnode.specs.Reading.{IsWhole, tile_of}

-- what the tile of a good header has
pub record IsHeaded (e : Endian) (tile : List ℕ) : Type 0 where
  pub whole : IsWhole e tile
  pub right_magic : magic_of e tile ≡ magic
  pub checksum : hdr_crc_of e tile ≡ header_crc_of e tile

pub tile_headed : (e : Endian) (bytes : List ℕ) → IsGood e bytes → length bytes % 4 ≡ 0 → IsHeaded e (tile_of e bytes)
tile_headed e bytes good words =
    let size : ℕ = pad4_of (totlen_of e bytes) in
    let least : 12 ≤ totlen_of e bytes = good.least in
    let up : totlen_of e bytes ≤ size = le_pad4 (totlen_of e bytes) in
    let within : size ≤ length bytes = pad4_least (totlen_of e bytes) (length bytes) good.within words in
    let long : length (take size bytes) ≡ size = length-take-le size bytes within in
    let same : totlen_of e (take size bytes) ≡ totlen_of e bytes = number_at-take e 4 4 size bytes (omega arith) in
    record {
      whole = record {
        whole = long ∙ ap pad4_of (sym same);
        within = omega arith;
        least = omega arith;
      };
      right_magic = number_at-take e 2 0 size bytes (omega arith) ∙ good.right_magic;
      checksum = number_at-take e 4 8 size bytes (omega arith) ∙ good.checksum ∙ sym (header_crc_of-take e size bytes (omega arith));
    }

pub tile_whole : (e : Endian) (bytes : List ℕ) → IsGood e bytes → length bytes % 4 ≡ 0 → IsWhole e (tile_of e bytes)
tile_whole e bytes good words = (tile_headed e bytes good words).whole

-- a size that takes a whole tile is in it
pub size_fits : (size totlen : ℕ) (tile : List ℕ) → length tile ≡ pad4_of totlen → pad4_of size ≡ pad4_of totlen → size ≤ length tile
size_fits size totlen tile whole same = omega (arith, le_pad4 size)

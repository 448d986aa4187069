-- The header that each node begins with (Linux, include/uapi/linux/jffs2.h: `struct
-- jffs2_unknown_node`).
use Rattle.std.specs.Prelude.{◌≡◌, ◌≤◌, ◌==◌, ◌&&◌, ℕ, ◌%◌, Bool, nat_le, if◌then◌else◌, Option, Some, None, List, ◌++◌, length, take, drop, bit_or, bit_and}
use Rattle.flashbase.specs.Crc.{crc_of}
use Rattle.jnode.specs.Order.{number_at, bytes_in}
use Rattle.jnode.specs.declared.order.Endian.{Endian}
use Rattle.jnode.specs.declared.header.Header.{Header}

-- the magic that a node begins with
abbrev pub magic : ℕ
magic = 0x1985

-- the bit of a node type that is cleared to make the node obsolete
abbrev pub accurate_bit : ℕ
accurate_bit = 0x2000

abbrev pub is_accurate : ℕ → Bool
is_accurate nodetype = bit_and nodetype accurate_bit == accurate_bit

-- the fields of a header, each at its place: magic 0, node type 2, totlen 4, hdr_crc 8
abbrev pub magic_of : Endian → List ℕ → ℕ
magic_of e bytes = number_at e 2 0 bytes

abbrev pub nodetype_of : Endian → List ℕ → ℕ
nodetype_of e bytes = number_at e 2 2 bytes

abbrev pub totlen_of : Endian → List ℕ → ℕ
totlen_of e bytes = number_at e 4 4 bytes

abbrev pub hdr_crc_of : Endian → List ℕ → ℕ
hdr_crc_of e bytes = number_at e 4 8 bytes

-- the number of its bytes
abbrev pub header_len : ℕ
header_len = 12

-- The checksum of the first 8 bytes, taken with the bit ACCURATE set: a node that is made obsolete
-- keeps its hdr_crc.
unfoldable pub header_crc_of : Endian → List ℕ → ℕ
header_crc_of e bytes = crc_of
    ((take 2 bytes ++ bytes_in e 2 (bit_or (nodetype_of e bytes) accurate_bit))
    ++ take 4 (drop 4 bytes))

-- There is a good header at the start of these bytes, the rest of a block.
pub record IsGood (e : Endian) (rest : List ℕ) : Type 0 where
  pub room : header_len ≤ length rest
  pub right_magic : magic_of e rest ≡ magic
  pub checksum : hdr_crc_of e rest ≡ header_crc_of e rest
  pub least : header_len ≤ totlen_of e rest
  pub within : totlen_of e rest ≤ length rest

-- There is a good header at this place of the block.
pub record IsGoodAt (e : Endian) (block : List ℕ) (place : ℕ) : Type 0 where
  pub aligned : place % 4 ≡ 0
  pub good : IsGood e (drop place block)

-- what the header says
abbrev pub header_of : Endian → List ℕ → Header
header_of e rest = record {
  nodetype = nodetype_of e rest;
  totlen = totlen_of e rest;
  accurate = is_accurate (nodetype_of e rest);
}

-- ---- the same, computed

-- magic and hdr_crc are right
unfoldable pub has_header : Endian → List ℕ → Bool
has_header e bytes = (magic_of e bytes == magic) && (hdr_crc_of e bytes == header_crc_of e bytes)

-- a good header of a rest of `len` bytes, by its front
unfoldable pub is_good_front : Endian → List ℕ → ℕ → Bool
is_good_front e front len =
    has_header e front && nat_le header_len (totlen_of e front) && nat_le (totlen_of e front) len

-- what that header says
abbrev pub header_by_front : Endian → List ℕ → ℕ → Option Header
header_by_front e front len = if is_good_front e front len then Some (header_of e front) else None

-- rule: Bytes and nodes: A header is good by its place, magic, hdr_crc (with ACCURATE set) and
--   totlen.
--   definitions: jnode.Header.is_good, jnode.Header.hdr_crc_of
--   code: jnode::header::header_at, jnode::header::header_in
--   laws: jnode::laws::good_is_computed, jnode::laws::header_is_twelve_bytes,
--   jnode::laws::known_headers
unfoldable pub is_good : Endian → List ℕ → Bool
is_good e rest = nat_le header_len (length rest) && is_good_front e rest (length rest)

-- the good header at the start of these bytes, if there is one
abbrev pub header_at : Endian → List ℕ → Option Header
header_at e rest = if is_good e rest then Some (header_of e rest) else None

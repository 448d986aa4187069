-- The checksum of JFFS2 (`crc32(0, ..)` in the Linux kernel, which include/uapi/linux/jffs2.h
-- names): the remainder of the message, the lowest bit of each byte first, by the polynomial
-- 0xEDB88320, whose highest power is in the lowest bit. It starts at 0, and nothing is done at the
-- end.
use Rattle.std.specs.Prelude.{ℕ, zero, suc, ◌/◌, ◌%◌, ◌==◌, List, if◌then◌else◌, bit_xor}
use Rattle.std.specs.List.{fold}

-- One bit of the message more: the remainder moves on by one place, and where the bit that leaves
-- it is not the message's bit, the polynomial is taken off.
unfoldable pub push_bit : ℕ → ℕ → ℕ
push_bit remainder bit =
    if remainder % 2 == bit then remainder / 2 else bit_xor (remainder / 2) 0xEDB88320

-- the n lowest bits of a number, the lowest first
unfoldable pub push_bits : ℕ → ℕ → ℕ → ℕ
push_bits zero remainder bits = remainder
push_bits (suc n) remainder bits = push_bits n (push_bit remainder (bits % 2)) (bits / 2)

unfoldable pub push_byte : ℕ → ℕ → ℕ
push_byte remainder byte = push_bits 8 remainder byte

-- the remainder after these bytes, where it was `start` before them
unfoldable pub crc_after : ℕ → List ℕ → ℕ
crc_after start bytes = fold push_byte start bytes

-- rule: Bytes and nodes: The checksum is the reflected CRC of 0xEDB88320 from 0, bit by bit.
--   definitions: flashbase.Crc.crc_of, flashbase.Crc.crc_after
--   code: flashbase::checksum::crc, flashbase::checksum::crc_from
--   laws: flashbase::laws::known_checksums, flashbase::laws::crc_goes_on,
--   flashbase::laws::crc_is_word
abbrev pub crc_of : List ℕ → ℕ
crc_of bytes = crc_after 0 bytes

-- What a piece of a file says (Linux include/uapi/linux/jffs2.h: an inode node has a version, an
-- offset and dsize bytes of data; with compr ZERO they are zeros).
use Rattle.std.specs.Prelude.{ℕ, ◌+◌, ◌-◌, Bool, true, false, ◌&&◌, nat_lt, nat_le, length, slice_index}
use Rattle.jfrag.specs.declared.piece.Body.{Body}
use Rattle.jfrag.specs.declared.piece.Body.TheVariants.{Zero, Bytes}
use Rattle.jfrag.specs.declared.piece.Piece.{Piece}

-- how many places a body fills
abbrev pub body_len : Body → ℕ
body_len (Zero count) = count
body_len (Bytes bytes) = length bytes

-- the byte at an index of a body
abbrev pub body_byte : ℕ → Body → ℕ
body_byte index (Zero count) = 0
body_byte index (Bytes bytes) = slice_index bytes index

-- whether it is zeros, of which no node has a byte
abbrev pub is_zeros : Body → Bool
is_zeros (Zero count) = true
is_zeros (Bytes bytes) = false

-- the first place after a piece
abbrev pub end_of : Piece → ℕ
end_of piece = piece.offset + body_len piece.body

-- whether a piece covers a place
abbrev pub covers : ℕ → Piece → Bool
covers place piece = nat_le piece.offset place && nat_lt place (end_of piece)

-- the byte that a piece has for a place that it covers
abbrev pub byte_of : ℕ → Piece → ℕ
byte_of place piece = body_byte (place - piece.offset) piece.body

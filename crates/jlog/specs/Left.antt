-- What a write that stopped leaves on the flash, and which nodes stand whole there.
use Rattle.std.specs.Prelude.{◌≡◌, ℕ, suc, ◌+◌, ◌-◌, ◌*◌, ◌≤◌, ◌<◌, ◌⊎◌, Bool, bytes_eq, List, [], ◌∷◌, ◌++◌, length, take, drop, count_by, slice_index_or, if◌then◌else◌}
use Rattle.flashbase.specs.Bytes.{pad4_of, erased}
use Rattle.jnode.specs.Header.{header_len}
use Rattle.jnode.specs.Weak.{torn}
use Rattle.jnode.specs.Writing.{clean_marker}
use Rattle.jnode.specs.declared.order.Endian.{Endian}
use Rattle.jlog.specs.Places.{place_after}

-- the byte of the flash at an address: what bytes lack is erased
abbrev pub flash_byte : List ℕ → ℕ → ℕ
flash_byte bytes at = slice_index_or bytes at 0xFF

-- ---- what is left

-- From the address `from` on the block holds the first k bytes that went out, and is erased after
-- them.
abbrev pub HoldsWritten : ℕ → ℕ → List ℕ → ℕ → List ℕ → ℕ → Type 0
HoldsWritten size from out k image block =
    (i : ℕ) → i < size → from ≤ block * size + i
    → flash_byte image (block * size + i) ≡ flash_byte (take k out) (block * size + i - from)

-- Or, where no byte past the block's marker went out, it holds the first j bytes of the marker, of
-- which no fewer went out, and is erased after them.
pub record HoldsMarker (e : Endian) (size from k : ℕ) (image : List ℕ) (block j : ℕ) : Type 0 where
  pub unwritten : from ≤ block * size
  pub before : from + k ≤ block * size + header_len
  pub no_fewer : from + k ≤ block * size + j
  pub most : j ≤ header_len
  pub bytes : (i : ℕ) → i < size
      → flash_byte image (block * size + i) ≡ flash_byte (take j (clean_marker e)) i

-- rule: The log: The flash after a stop.
--   definitions: jlog.Left.IsLeft
--   code: jlog::laws::base_stays, jlog::laws::some_are_left
-- A stop after k bytes of `out`, which was being written from the address `from` on, may leave this
-- image of the base.
pub record IsLeft (e : Endian) (size blocks : ℕ) (base : List ℕ) (from : ℕ) (out : List ℕ) (k : ℕ)
    (image : List ℕ) : Type 0 where
  pub no_longer : length image ≤ blocks * size
  pub stays : (at : ℕ) → at < from → flash_byte image at ≡ flash_byte base at
  pub each : (block : ℕ) → block < blocks → HoldsWritten size from out k image block
      ⊎ ((j : ℕ) × HoldsMarker e size from k image block j)

-- the base's bytes up to an address, what it lacks as erased flash
abbrev pub front_of : List ℕ → ℕ → List ℕ
front_of base from = take from (base ++ erased from)

-- ---- which nodes stand whole

-- the bytes at a place of what is written from an address on
abbrev pub bytes_at : ℕ → List ℕ → ℕ × ℕ → List ℕ
bytes_at from bytes place = take place.1 (drop (place.0 - from) bytes)

-- the node at a place stands whole after k bytes: what is left there is what was to be written
abbrev pub is_whole : ℕ → List ℕ → ℕ → ℕ × ℕ → Bool
is_whole from out k place = bytes_eq (bytes_at from (torn out k) place) (bytes_at from out place)

-- rule: The log: The nodes that are whole after a stop.
--   definitions: jlog.Left.count_whole, jlog.Left.intact
--   code: jlog::laws::intact_is_counted, jlog::laws::left_sightings, jlog::laws::left_nodes
-- how many do
abbrev pub count_whole : ℕ → List ℕ → ℕ → List (ℕ × ℕ) → ℕ
count_whole from out k places = count_by (is_whole from out k) places

-- The same, node by node: a node stands whole by the bytes that it still gets, and after one that
-- does not none does.
abbrev pub intact : ℕ → ℕ → ℕ → List (List ℕ) → ℕ
intact size from k [] = 0
intact size from k (node ∷ nodes) =
    let at = place_after size from (length node) in
    let end = at + pad4_of (length node) in
    if bytes_eq (torn node (k - (at - from))) node then suc
    (intact size end (k - (end - from)) nodes) else 0

-- Where nodes go: the log is written upwards, and no node crosses a block's end (Woodhouse 2001).
use Rattle.std.specs.Prelude.{◌≡◌, ℕ, ◌+◌, ◌-◌, ◌*◌, ◌/◌, ◌%◌, ◌≤◌, ◌&&◌, max, nat_le, nat_lt, Bool, Option, Some, None, List, [], ◌∷◌, length, sum_by, if◌then◌else◌}
use Rattle.std.specs.Int.{div_ceil}
use Rattle.std.specs.List.{list_all}
use Rattle.flashbase.specs.Bytes.{pad4_of}
use Rattle.jnode.specs.Header.{header_len}
use Rattle.jscan.specs.Image.{is_block_size, greatest_image}

-- A place for a node of len bytes: a multiple of 4, not before `from`, after the clean marker of
-- its block, and the node ends within that block.
pub record IsPlace (size from len at : ℕ) : Type 0 where
  pub aligned : at % 4 ≡ 0
  pub upwards : from ≤ at
  pub behind_marker : at / size * size + header_len ≤ at
  pub within : at + len ≤ at / size * size + size

-- rule: The log: The place of a node.
--   definitions: jlog.Places.IsLeastPlace, jlog.Places.places
--   code: jlog::place::place_of
--   laws: jlog::laws::place_is_least
-- the least of them
pub record IsLeastPlace (size from len at : ℕ) : Type 0 where
  pub place : IsPlace size from len at
  pub least : (other : ℕ) → IsPlace size from len other → at ≤ other

-- Places, each with its node's length: each is the least at or after the end of the one before it.
abbrev pub ArePlaces : ℕ → ℕ → List (List ℕ) → List (ℕ × ℕ) → Type 0
ArePlaces size from [] [] = Unit {0}
ArePlaces size from [] (place ∷ places) = ⊥
ArePlaces size from (node ∷ nodes) [] = ⊥
ArePlaces size from (node ∷ nodes) (place ∷ places) =
    IsLeastPlace size from (length node) place.0 × (place.1 ≡ length node)
    × ArePlaces size (place.0 + place.1) nodes places

-- ---- the same computed

-- in this block where the node fits there, and else at the front of the next
abbrev pub place_after : ℕ → ℕ → ℕ → ℕ
place_after size from len =
    let start = pad4_of from / size * size in
    let at = max (pad4_of from) (start + header_len) in
    if nat_le (at + len) (start + size) then at else start + size + header_len

-- where the next node may begin: after this one, up to a multiple of 4
abbrev pub end_after : ℕ → ℕ → ℕ → ℕ
end_after size from len = place_after size from len + pad4_of len

-- each node's place and length, one after the other
abbrev pub places : ℕ → ℕ → List (List ℕ) → List (ℕ × ℕ)
places size from [] = []
places size from (node ∷ nodes) = (place_after size from (length node), length node)
    ∷ places size (end_after size from (length node)) nodes

-- where writing goes on after all of them
abbrev pub end_of_all : ℕ → ℕ → List (List ℕ) → ℕ
end_of_all size from [] = from
end_of_all size from (node ∷ nodes) = end_of_all size (end_after size from (length node)) nodes

-- ---- room

-- rule: The log: Whether nodes fit, and the room in a refusal.
--   definitions: jlog.Places.fit, jlog.Places.needed, jlog.Places.free, jlog.Places.least_blocks
--   code: jlog::room::has_room, jlog::room::needed, jlog::room::free, jlog::room::least_blocks,
--   jlog::session::blocks_for
--   laws: jlog::laws::room_goes_on, jlog::laws::blocks_are_least
-- each node ends by the end of the flash
abbrev pub fit : ℕ → ℕ → ℕ → List (List ℕ) → Bool
fit size blocks from nodes =
    list_all (λ place. nat_le (place.0 + place.1) (blocks * size)) (places size from nodes)

-- the place of one node where it ends by the end of the flash
abbrev pub place_within : ℕ → ℕ → ℕ → ℕ → Option ℕ
place_within size blocks from len = if nat_le (place_after size from len + len) (blocks * size) then
    Some (place_after size from len) else None

-- where the last of the nodes ends, and 0 where there are none
abbrev pub last_end : ℕ → ℕ → List (List ℕ) → ℕ
last_end size from [] = 0
last_end size from (node ∷ nodes) =
    max (place_after size from (length node) + length node)
    (last_end size (end_after size from (length node)) nodes)

-- the same where each ends by the end of the flash
abbrev pub last_end_within : ℕ → ℕ → ℕ → List (List ℕ) → Option ℕ
last_end_within size blocks from nodes =
    if fit size blocks from nodes then Some (last_end size from nodes) else None

-- the least number of blocks that hold the nodes, where the greatest flash does
abbrev pub least_blocks : ℕ → ℕ → List (List ℕ) → Option ℕ
least_blocks size from nodes =
    let blocks = div_ceil (last_end size from nodes) size in
    if nat_le (blocks * size) greatest_image then Some blocks else None

-- the limits for writing
abbrev pub is_writable_flash : ℕ → ℕ → Bool
is_writable_flash size blocks = is_block_size size && nat_le 8192 size && nat_lt 0 blocks
    && nat_le (blocks * size) greatest_image

-- What a refusal for want of room tells: the bytes that the nodes need, and those that are left,
-- less a marker for each block that is not begun.
abbrev pub needed : List (List ℕ) → ℕ
needed nodes = sum_by (λ node. pad4_of (length node)) nodes

abbrev pub free : ℕ → ℕ → ℕ → ℕ
free size blocks from = blocks * size - from - header_len * (blocks - div_ceil from size)

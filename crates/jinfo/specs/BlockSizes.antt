-- What size the blocks of an image may have: no node passes the end of a block, and a clean marker
-- stands at the front of one (Woodhouse 2001).
use Rattle.std.specs.Prelude.{ℕ, zero, suc, ◌+◌, ◌-◌, ◌*◌, ◌/◌, ◌%◌, ◌==◌, ◌&&◌, ◌||◌, not, Bool, true, false, nat_lt, nat_le, List, [], ◌∷◌, take, Option, Some, None, if◌then◌else◌}
use Rattle.std.specs.List.{list_all, list_any, position_or_len}
use Rattle.jnode.specs.declared.node.Seen.TheVariants as seen
use Rattle.jscan.specs.Counts.{count_in}
use Rattle.jscan.specs.Image.{is_block_size}
use Rattle.jscan.specs.declared.extent.ExtentKind.{ExtentKind}
use Rattle.jscan.specs.declared.extent.ExtentKind.TheVariants.{Tiled}
use Rattle.jscan.specs.declared.extent.Extent.{Extent}
use Rattle.jinfo.specs.Census.{is_node_tile}
use Rattle.jinfo.specs.declared.sizes.SizeRange.{SizeRange}

-- the powers of two that a block's size may be
abbrev pub block_sizes : List ℕ
block_sizes = 4096 ∷ 8192 ∷ 16384 ∷ 32768 ∷ 65536 ∷ 131072 ∷ 262144 ∷ 524288 ∷ 1048576 ∷ 2097152
    ∷ 4194304 ∷ []

-- The bytes from an address on contain no multiple of the size past the first of them: the next one
-- is not before their end.
unfoldable pub lies_within : ℕ → ℕ → ℕ → Bool
lies_within addr len size = nat_le (addr + len) ((addr / size + 1) * size)

-- a node that lies within one block of this size; what is no node may lie anywhere
abbrev pub node_lies_within : ℕ → Extent → Bool
node_lies_within size s = not (is_node_tile s.kind) || lies_within s.addr s.len size

abbrev pub is_marker_tile : ExtentKind → Bool
is_marker_tile (Tiled seen.Marker) = true
is_marker_tile _ = false

-- a clean marker at the front of a block of this size
unfoldable pub is_multiple : ℕ → ℕ → Bool
is_multiple addr size = addr % size == 0

abbrev pub marker_begins : ℕ → Extent → Bool
marker_begins size s = not (is_marker_tile s.kind) || is_multiple s.addr size

-- The blocks of an image may have this size: it is a block's, all nodes lie within blocks of it,
-- and all clean markers stand at the front of one.
abbrev pub size_fits : List Extent → ℕ → Bool
size_fits walk size =
    is_block_size size && list_all (node_lies_within size) walk
    && list_all (marker_begins size) walk

-- ---- what rules a size out

-- a node that is no longer than this size; what is no node may be
abbrev pub node_has_room : ℕ → Extent → Bool
node_has_room size s = not (is_node_tile s.kind) || nat_le s.len size

-- how many of the powers of two, from the least up, are too small for some node
abbrev pub too_small : List Extent → ℕ
too_small walk = position_or_len (λ size. list_all (node_lies_within size) walk) block_sizes

-- so many of them, from the least up, have this one among them
abbrev pub is_among : ℕ → ℕ → Bool
is_among count size = list_any (λ power. power == size) (take count block_sizes)

-- A size that nothing rules out: all clean markers stand at multiples of it, no node is longer, and
-- it is none of the powers of two that are too small for some node.
abbrev pub may_be_size : List Extent → ℕ → Bool
may_be_size walk size =
    list_all (marker_begins size) walk && list_all (node_has_room size) walk
    && not (is_among (too_small walk) size)

-- ---- the sizes from MIN to MAX

-- the first that passes of so many sizes, each 4 more than the one before
unfoldable pub first_upwards : (ℕ → Bool) → ℕ → ℕ → Option ℕ
first_upwards test zero size = None
first_upwards test (suc n) size =
    if test size then Some size else first_upwards test n (size + 4)

-- the same with each 4 less than the one before
unfoldable pub first_downwards : (ℕ → Bool) → ℕ → ℕ → Option ℕ
first_downwards test zero size = None
first_downwards test (suc n) size =
    if test size then Some size else first_downwards test n (size - 4)

-- how many sizes a block may have
abbrev pub size_count : ℕ
size_count = 1047553

-- the least and the greatest size of a block that pass
abbrev pub least_passing : (ℕ → Bool) → Option ℕ
least_passing test = first_upwards test size_count 4096

abbrev pub greatest_passing : (ℕ → Bool) → Option ℕ
greatest_passing test = first_downwards test size_count 4194304

-- the clean markers, and those past address 0
abbrev pub marker_count : List Extent → ℕ
marker_count walk = count_in is_marker_tile walk

abbrev pub is_later_marker : Extent → Bool
is_later_marker s = is_marker_tile s.kind && nat_lt 0 s.addr

abbrev pub range_between : Option ℕ → Option ℕ → Option SizeRange
range_between (Some least) (Some greatest) =
    Some (record { least = least; greatest = greatest })
range_between _ _ = None

-- rule: What is printed: The sizes that its blocks may have.
--   definitions: jinfo.BlockSizes.size_range_of, jinfo.BlockSizes.may_be_size,
--   jinfo.BlockSizes.size_fits
--   code: jinfo::marks::range
--   laws: jinfo::laws::fitting_are_told, jinfo::laws::told_are_left, jinfo::laws::left_powers_fit,
--   jinfo::examples::known_sizes, jinfo::examples::known_places
-- MIN and MAX are the least and the greatest size that nothing rules out. They are known where a
-- marker stands past address 0, and some size is left.
abbrev pub size_range_of : List Extent → Option SizeRange
size_range_of walk =
    if list_any is_later_marker walk
    then range_between (least_passing (may_be_size walk)) (greatest_passing (may_be_size walk))
    else None

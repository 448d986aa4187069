-- What extents say of the size of blocks, one extent after the other.
use Rattle.std.specs.Prelude.{◌≡◌, ℕ, ◌+◌, ◌&&◌, ◌||◌, not, max, Bool, false, List, nat_le, Option, None, if◌then◌else◌}
use Rattle.std.specs.List.{list_all, list_any, position_or_len}
use Rattle.jscan.specs.Counts.{one_if}
use Rattle.jscan.specs.declared.extent.Extent.{Extent}
use Rattle.jinfo.specs.BlockSizes.{block_sizes, is_marker_tile, is_later_marker, is_multiple, node_lies_within, node_has_room, marker_begins, marker_count, too_small, is_among, least_passing, greatest_passing, range_between}
use Rattle.jinfo.specs.declared.marks.Marks.{Marks}
use Rattle.jinfo.specs.declared.sizes.SizeRange.{SizeRange}

abbrev pub no_marks : Marks
no_marks = record { markers = 0; is_later = false; too_small = 0; longest = 0; common = 0 }

-- One extent more. What has room for the longest node has room for each, and the multiples of the
-- common divisor are those of each marker's address.
pub record MarksWith (m : Marks) (s : Extent) (now : Marks) : Type 0 where
  pub markers : now.markers ≡ m.markers + one_if (is_marker_tile s.kind)
  pub is_later : now.is_later ≡ (m.is_later || is_later_marker s)
  pub too_small : now.too_small
      ≡ max m.too_small (position_or_len (λ size. node_lies_within size s) block_sizes)
  pub longest : (size : ℕ) → nat_le now.longest size
      ≡ (nat_le m.longest size && node_has_room size s)
  pub common : (size : ℕ) → is_multiple now.common size
      ≡ (is_multiple m.common size && marker_begins size s)

-- all of a walk
pub record MarksOf (walk : List Extent) (m : Marks) : Type 0 where
  pub markers : m.markers ≡ marker_count walk
  pub is_later : m.is_later ≡ list_any is_later_marker walk
  pub too_small : m.too_small ≡ too_small walk
  pub longest : (size : ℕ) → nat_le m.longest size ≡ list_all (node_has_room size) walk
  pub common : (size : ℕ) → is_multiple m.common size ≡ list_all (marker_begins size) walk

-- a size that nothing rules out
abbrev pub may_be_by : Marks → ℕ → Bool
may_be_by m size =
    is_multiple m.common size && nat_le m.longest size && not (is_among m.too_small size)

-- the sizes that are left
abbrev pub range_of_marks : Marks → Option SizeRange
range_of_marks m =
    if m.is_later then range_between (least_passing (may_be_by m)) (greatest_passing (may_be_by m))
    else None

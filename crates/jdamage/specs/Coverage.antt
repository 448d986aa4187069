-- Whether a damaged inode node is missed (Woodhouse 2001, JFFS: the node of highest version holds a
-- range's current data).
use Rattle.std.specs.Prelude.{ℕ, ◌==◌, ◌&&◌, ◌||◌, Bool, nat_lt, nat_le, min, List}
use Rattle.std.specs.List.{list_any, list_all}
use Rattle.flashbase.specs.Lists.{below}
use Rattle.jgaps.specs.Gaps.{has_place}
use Rattle.jgaps.specs.declared.fields.Stretch.{Stretch}

-- a version of the same object that is as high or higher
abbrev pub is_not_older : Stretch → Stretch → Bool
is_not_older lost other = (other.ino == lost.ino) && nat_le lost.version other.version

-- another version gives the place, in front of or instead of the lost one
unfoldable pub is_replaced : List Stretch → Stretch → ℕ → Bool
is_replaced others lost place = list_any (λ s. is_not_older lost s && has_place place s) others

-- each place of the lost range below an end
unfoldable pub is_replaced_below : List Stretch → Stretch → ℕ → Bool
is_replaced_below others lost end =
    list_all (λ place. nat_lt place lost.from || is_replaced others lost place) (below end)

-- rule: What is printed: Whether a damaged node hides anything.
--   definitions: jdamage.Coverage.hides_nothing, jgaps.Fields.stretches
--   code: jdamage::coverage::hides_nothing, jdamage::hidden::hidden_of,
--   jdamage::nodes::stretches_beside
--   laws: jdamage::laws::same_without, jdamage::laws::would_change
-- The attributes and the size of the object are of another version, and so is each byte of the lost
-- range that is within the size: whatever the lost node said, the object is the same.
unfoldable pub hides_nothing : List Stretch → ℕ → Stretch → Bool
hides_nothing others size lost =
    list_any (is_not_older lost) others && is_replaced_below others lost (min lost.to size)

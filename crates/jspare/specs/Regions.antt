-- The part of a file that is the image.
use Rattle.std.specs.Prelude.{ℕ, ◌+◌, min, nat_le, Bool, List, length, take, drop, Option, Some, None, unwrap_or}
use Rattle.jspare.specs.Paging.{pages_by}
use Rattle.jspare.specs.declared.region.Region.{Region}

-- the bytes from an offset on: as many as are asked for, or all
abbrev pub cut_out : ℕ → Option ℕ → List ℕ → List ℕ
cut_out offset None bytes = drop offset bytes
cut_out offset (Some count) bytes = take count (drop offset bytes)

-- rule: Blocks and images: A part of a dump is read as the image.
--   definitions: jspare.Regions.region_of, jspare.Regions.cut_out
--   code: jspare::part::RegionSource::new
--   laws: jspare::examples::known_cuts, jspare::examples::known_regions
-- Offset and length count the bytes of the dump without the spare ones.
abbrev pub region_of : Region → List ℕ → List ℕ
region_of region dump = cut_out region.offset region.length (pages_by region.layout dump)

-- How many bytes an image has at least: its length, if that is given, and otherwise one behind an
-- offset. A whole file may be empty.
abbrev pub least_length : ℕ → Option ℕ → ℕ
least_length offset told = unwrap_or told (min offset 1)

-- rule: Blocks and images: A part that the dump does not have is refused.
--   definitions: jspare.Regions.has_region, jspare.Regions.least_length
--   code: jspare::part::RegionSource::new, jspare::part::RegionSource::fill_region
--   laws: jspare::examples::known_ends
-- the dump has all bytes of the region
abbrev pub has_region : Region → List ℕ → Bool
has_region region dump = nat_le (region.offset + least_length region.offset region.length)
    (length (pages_by region.layout dump))

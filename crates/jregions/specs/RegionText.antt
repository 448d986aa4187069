-- The lines of regions.
use Rattle.std.specs.Prelude.{ℕ, Bool, true, false, List, [], ◌++◌, codes, decimal, Option, Some, None}
use Rattle.std.specs.List.{flat_map}
use Rattle.jline.specs.Words.{hex}
use Rattle.jinfo.specs.InfoText.{order_name}
use Rattle.jinfo.specs.declared.sizes.SizeRange.{SizeRange}
use Rattle.jregions.specs.declared.region.Region.{Region}
use Rattle.jregions.specs.declared.region.Regions.{Regions}

unfoldable pub sizes_words : Option SizeRange → List ℕ
sizes_words None = codes "unknown"
sizes_words (Some range) =
    codes "from " ++ decimal range.least ++ codes " to " ++ decimal range.greatest

unfoldable pub region_line : Region → List ℕ
region_line region =
    codes "region from 0x" ++ hex 8 region.from ++ codes " to 0x" ++ hex 8 region.to
    ++ codes " order " ++ order_name region.order ++ codes " block " ++ sizes_words region.sizes
    ++ codes "\n"

abbrev pub more_regions_line : Bool → List ℕ
more_regions_line true = codes "more regions than these 16\n"
more_regions_line false = []

unfoldable pub region_lines : Regions → List ℕ
region_lines regions = flat_map region_line regions.first.items ++ more_regions_line regions.more

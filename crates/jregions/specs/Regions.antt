-- The regions of a file that have nodes.
use Rattle.std.specs.Prelude.{◌≡◌, ℕ, ◌-◌, ◌*◌, ◌==◌, min, nat_lt, List, [], ◌∷◌, length, map, take, drop, if◌then◌else◌}
use Rattle.jinfo.specs.Infos.{info_of}
use Rattle.jregions.specs.Spans.{spans_from}
use Rattle.jregions.specs.Units.{units_of}
use Rattle.jregions.specs.declared.region.Region.{Region}
use Rattle.jregions.specs.declared.region.Regions.{Regions}
use Rattle.jregions.specs.declared.span.Span.{Span}

-- where a unit begins; the last one may be short
abbrev pub unit_place : List ℕ → ℕ → ℕ
unit_place file unit = min (unit * 4096) (length file)

abbrev pub bytes_between : List ℕ → ℕ → ℕ → List ℕ
bytes_between file from to = take (to - from) (drop from file)

-- a span in bytes, with the block sizes that `info` of these bytes alone prints
abbrev pub region_between : List ℕ → Span → ℕ → ℕ → Region
region_between file span from to = record {
  from = from;
  to = to;
  order = span.order;
  sizes = (info_of (bytes_between file from to)).census.sizes;
}

unfoldable pub region_of_span : List ℕ → Span → Region
region_of_span file span =
    region_between file span (unit_place file span.from) (unit_place file span.to)

-- Nothing is told of one region alone, if it begins where the file does.
abbrev pub spans_told : List Span → List Span
spans_told [] = []
spans_told (s ∷ []) = if s.from == 0 then [] else s ∷ []
spans_told (s ∷ t ∷ ss) = s ∷ t ∷ ss

abbrev pub spans_in : List ℕ → List Span
spans_in file = spans_told (spans_from 0 (units_of file))

-- the first 16 regions of a file, and whether it has more
pub record AreRegions (file : List ℕ) (regions : Regions) : Type 0 where
  pub first : regions.first.items ≡ map (region_of_span file) (take 16 (spans_in file))
  pub more : regions.more ≡ nat_lt 16 (length (spans_in file))

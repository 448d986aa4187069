-- Which units lie together.
use Rattle.std.specs.Prelude.{ℕ, suc, ◌+◌, ◌&&◌, Bool, true, false, nat_lt, List, [], ◌∷◌, if◌then◌else◌}
use Rattle.jnode.specs.declared.order.Endian.{Endian}
use Rattle.jnode.specs.declared.order.Endian.TheVariants.{Little, Big}
use Rattle.jregions.specs.declared.unit.UnitKind.{UnitKind}
use Rattle.jregions.specs.declared.unit.UnitKind.TheVariants.{Nodes, Erased, Foreign}
use Rattle.jregions.specs.declared.span.Span.{Span}

abbrev pub is_of_order : Endian → Endian → Bool
is_of_order Little Little = true
is_of_order Big Big = true
is_of_order _ _ = false

-- how many foreign units come before the next one that has nodes
abbrev pub foreign_ahead : List UnitKind → ℕ
foreign_ahead [] = 0
foreign_ahead (Nodes e ∷ us) = 0
foreign_ahead (Erased ∷ us) = foreign_ahead us
foreign_ahead (Foreign ∷ us) = suc (foreign_ahead us)

-- Fewer than 16 foreign units, 64 KiB, are dirt within a file system.
abbrev pub goes_on : ℕ → Endian → Span → Bool
goes_on gap e next = is_of_order e next.order && nat_lt gap 16

-- a unit of nodes in front of spans: it belongs to the first of them, if that goes on from it
abbrev pub unit_before : ℕ → Endian → ℕ → List Span → List Span
unit_before gap e at [] = record { order = e; from = at; to = at + 1 } ∷ []
unit_before gap e at (s ∷ ss) =
    if goes_on gap e s then record { order = e; from = at; to = s.to } ∷ ss
    else record { order = e; from = at; to = at + 1 } ∷ s ∷ ss

-- rule: What is printed: The regions of a dump.
--   definitions: jregions.Spans.spans_from, jregions.Regions.AreRegions,
--   jregions.RegionText.region_lines
--   code: jregions::spans::spans_of, jregions::regions::regions_of, jregions::lines::put_regions
--   laws: jregions::laws::spans_are_apart, jregions::laws::nodes_are_in_spans,
--   jregions::examples::known_spans
-- The spans of units of which the first has this number. One unit of nodes lies in a span with the
-- next one if both are of one order, and fewer than 16 foreign units lie between them.
abbrev pub spans_from : ℕ → List UnitKind → List Span
spans_from at [] = []
spans_from at (Nodes e ∷ us) = unit_before (foreign_ahead us) e at (spans_from (at + 1) us)
spans_from at (Erased ∷ us) = spans_from (at + 1) us
spans_from at (Foreign ∷ us) = spans_from (at + 1) us

-- The bytes of a file that no node has. Those who write an image leave none: a hole is in the range
-- of a node of zeros (Linux, fs/jffs2/file.c: `jffs2_write_begin` writes one of JFFS2_COMPR_ZERO).
-- So a gap is left where nodes were lost, also where nothing of them can be read.
use Rattle.std.specs.Prelude.{ℕ, zero, suc, ◌-◌, ◌==◌, ◌&&◌, Bool, true, not, nat_lt, nat_le, if◌then◌else◌, List, [], ◌∷◌, map, filter, Option, None, Some, option_map}
use Rattle.std.specs.List.{list_any, flat_map}
use Rattle.jnode.specs.declared.order.Endian.{Endian}
use Rattle.jmount.specs.Mount.{Mount}
use Rattle.jmount.specs.Shown.{objects_in, shown}
use Rattle.jmount.specs.Tree.{object}
use Rattle.jmount.specs.declared.object.Object.{Object}
use Rattle.jmount.specs.declared.object.Kind.{Kind}
use Rattle.jmount.specs.declared.object.Kind.TheVariants.{Regular}
use Rattle.jgaps.specs.Fields.{stretches}
use Rattle.jgaps.specs.declared.fields.Stretch.{Stretch}
use Rattle.jgaps.specs.declared.gap.Gap.{Gap}

-- ---- bytes that are covered

-- the place is in the range
abbrev pub has_place : ℕ → Stretch → Bool
has_place place s = nat_le s.from place && nat_lt place s.to

-- a node of the object has the place in its range
abbrev pub is_covered : List Stretch → ℕ → ℕ → Bool
is_covered sound ino place = list_any (λ s. (s.ino == ino) && has_place place s) sound

-- ---- maximal ranges that are not

-- so many places, from one on
abbrev pub places_from : ℕ → ℕ → List ℕ
places_from from zero = []
places_from from (suc count) = from ∷ places_from (suc from) count

-- the first place of all, or one behind a place that is covered
abbrev pub is_first : (ℕ → Bool) → ℕ → Bool
is_first covered zero = true
is_first covered (suc before) = covered before

abbrev pub begins_gap : (ℕ → Bool) → ℕ → Bool
begins_gap covered place = not (covered place) && is_first covered place

-- the first place that is covered, of so many from one on, or the place behind them
abbrev pub gap_end : (ℕ → Bool) → ℕ → ℕ → ℕ
gap_end covered place zero = place
gap_end covered place (suc left) =
    if covered place then place else gap_end covered (suc place) left

-- where each gap begins that begins from a place on and below the size, and where it ends
unfoldable pub gaps_from : (ℕ → Bool) → ℕ → ℕ → List (ℕ × ℕ)
gaps_from covered size from = map (λ begin. (begin, gap_end covered begin (size - begin)))
    (filter (begins_gap covered) (places_from from (size - from)))

-- all below the size
abbrev pub gaps_below : (ℕ → Bool) → ℕ → List (ℕ × ℕ)
gaps_below covered size = gaps_from covered size 0

-- ---- those of objects

abbrev pub gap_of : ℕ → ℕ × ℕ → Gap
gap_of ino gap = record { ino = ino; from = gap.0; to = gap.1 }

abbrev pub gaps_of_size : List Stretch → ℕ → ℕ → List Gap
gaps_of_size sound ino size = map (gap_of ino) (gaps_below (is_covered sound ino) size)

abbrev pub gaps_by_kind : List Stretch → ℕ → ℕ → Kind → List Gap
gaps_by_kind sound ino size Regular = gaps_of_size sound ino size
gaps_by_kind sound ino size _ = []

-- of a regular file, and none of anything else
abbrev pub gaps_of_object : List Stretch → ℕ × Object → List Gap
gaps_of_object sound (ino, o) = gaps_by_kind sound ino o.size o.kind

abbrev pub gaps_if_there : List Stretch → ℕ → Option Object → List Gap
gaps_if_there sound ino None = []
gaps_if_there sound ino (Some o) = gaps_of_object sound (ino, o)

-- rule: What is printed: Bytes of a file that no node has.
--   definitions: jgaps.Gaps.gaps_of, jgaps.Gaps.gaps_of_file, jgaps.Gaps.gaps_below,
--   jgaps.Gaps.is_covered
--   code: jgaps::finding::gaps_of, jgaps::finding::gaps_of_file
--   laws: jgaps::laws::no_gap_where_covered, jgaps::laws::gaps_are_maximal
-- those of the object of a number in a mounted image
unfoldable pub gaps_of_file : Endian → ℕ → Mount → ℕ → List Gap
gaps_of_file e size m ino =
    gaps_if_there (stretches e size m.image) ino (option_map shown (object m.state ino))

-- all gaps of a mounted image, in order of the object's number and then of the place
unfoldable pub gaps_of : Endian → ℕ → Mount → List Gap
gaps_of e size m = flat_map (gaps_of_object (stretches e size m.image)) (objects_in m.state)

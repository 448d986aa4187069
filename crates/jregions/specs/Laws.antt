-- Laws of spans. Each is a statement: it holds where a function's contract names it.
use Rattle.std.specs.Prelude.{◌≡◌, ℕ, ◌+◌, ◌<◌, ◌≤◌, List, [], ◌∷◌, Contains, Some, slice_get}
use Rattle.jnode.specs.declared.order.Endian.{Endian}
use Rattle.jregions.specs.Spans.{spans_from}
use Rattle.jregions.specs.declared.span.Span.{Span}
use Rattle.jregions.specs.declared.unit.UnitKind.{UnitKind}
use Rattle.jregions.specs.declared.unit.UnitKind.TheVariants.{Nodes}

-- spans from a unit on, each of some units, and each behind the one before it
abbrev pub AreSpansFrom : ℕ → List Span → Type 0
AreSpansFrom at [] = Unit {0}
AreSpansFrom at (s ∷ ss) = (at ≤ s.from) × (s.from < s.to) × AreSpansFrom s.to ss

abbrev pub SpansAreApart : Type 0
SpansAreApart = (at : ℕ) (units : List UnitKind) → AreSpansFrom at (spans_from at units)

-- a unit lies in a span of this order
pub record IsInSpan (spans : List Span) (e : Endian) (unit : ℕ) : Type 0 where
  pub span : Span
  pub listed : Contains spans span
  pub order : span.order ≡ e
  pub from : span.from ≤ unit
  pub to : unit < span.to

-- each unit that has nodes lies in a span of their order
abbrev pub NodesAreInSpans : Type 0
NodesAreInSpans = (at i : ℕ) (units : List UnitKind) (e : Endian)
    → slice_get units i ≡ Some (Nodes e) → IsInSpan (spans_from at units) e (at + i)

-- Where the bytes of files stand, by their names.
use Rattle.std.specs.Prelude.{◌≡◌, ℕ, List, bytes_eq, Option, Some, if◌then◌else◌}
use Rattle.std.specs.BTreeMap.{get_by_text}
use Rattle.jbuild.specs.declared.span.Span.{Span}
use Rattle.jbuild.specs.declared.named_spans.NamedSpans.{NamedSpans}

-- the span of the file of a name, if it is there
abbrev pub span_of : NamedSpans → List ℕ → Option Span
span_of files name = get_by_text files.by_name name

-- one file has a new span, and each other one has its own
abbrev pub SetsSpan : NamedSpans → NamedSpans → List ℕ → Span → Type 0
SetsSpan old new name span =
    (n : List ℕ) → span_of new n ≡ (if bytes_eq name n then Some span else span_of old n)

-- each file has its span
abbrev pub AreSameSpans : NamedSpans → NamedSpans → Type 0
AreSameSpans old new = (name : List ℕ) → span_of new name ≡ span_of old name

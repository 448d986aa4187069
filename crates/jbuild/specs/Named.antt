-- A file in the order in which files were added.
use Rattle.std.specs.Prelude.{◌≡◌, ◌+◌, ◌≤◌, ℕ, List, length, Some, String}
use Rattle.std.specs.BTreeMap.{BTreeMap, get_by_text}
use Rattle.jbuild.specs.Spans.{bytes_of_span}
use Rattle.jbuild.specs.declared.span.Span.{Span}
use Rattle.jbuild.specs.declared.named_spans.Named.{Named}

-- it stands in a map by its name, which stands among all names
abbrev pub StandsByName : {Y : Type 0} → BTreeMap (String Y) Span → List ℕ → Named → Type 0
StandsByName by_name names named = (named.name.from + named.name.length ≤ length names)
    × (get_by_text by_name (bytes_of_span names named.name) ≡ Some named.span)

-- Where the bytes of a file stand among those of all files.
use Rattle.std.specs.Prelude.{ℕ, ◌+◌, List, take, drop, Option}
use Rattle.std.specs.Option.{option_map_or}
use Rattle.jbuild.specs.declared.span.Span.{Span}

-- the bytes that stand there
abbrev pub bytes_of_span : List ℕ → Span → List ℕ
bytes_of_span bytes span = take span.length (drop span.from bytes)

-- where they end, if the file is there
abbrev pub end_of_span : Option Span → ℕ
end_of_span span = option_map_or (λ at. at.from + at.length) span 0

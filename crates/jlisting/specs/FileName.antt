-- The name of a file of the host, wherever it lies.
use Rattle.std.specs.Prelude.{ℕ, List, string_bytes}
use Rattle.jlisting.specs.declared.line.Name.{Name}
use Rattle.jlisting.specs.declared.line.Name.TheVariants.{Lent, Own}

abbrev pub name_bytes : Name → List ℕ
name_bytes (Lent name) = name.now
name_bytes (Own name) = string_bytes name

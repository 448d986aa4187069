-- The names of a path, by what it has after its first slash.
use Rattle.std.specs.Prelude.{ℕ, List, [], ◌∷◌}
use Rattle.jmount.specs.Find.{parts}

-- a slash alone has no names
abbrev pub names_after : List ℕ → List (List ℕ)
names_after [] = []
names_after (b ∷ bytes) = parts (b ∷ bytes)

-- Paths as they are printed.
use Rattle.std.specs.Prelude.{ℕ, List, [], ◌∷◌}
use Rattle.std.specs.List.{flat_map}
use Rattle.jline.specs.Words.{escaped}

-- a name, as it is in a path
abbrev pub name_shown : List ℕ → List ℕ
name_shown name = 47 ∷ escaped name

-- rule: What is printed: Paths that are printed.
--   definitions: jline.Paths.path_shown
--   code: jline::paths::put_path
-- a path, from its names: a slash before each; of no names a slash alone
abbrev pub path_shown : List (List ℕ) → List ℕ
path_shown [] = 47 ∷ []
path_shown (name ∷ names) = flat_map name_shown (name ∷ names)

-- Paths of the host below a folder.
use Rattle.std.specs.Prelude.{ℕ, List, [], ◌∷◌, ◌++◌}

-- The path of the host for one below a folder: that of the folder, a slash, and the path. The empty
-- path is the folder itself.
abbrev pub joined_path : List ℕ → List ℕ → List ℕ
joined_path root [] = root
joined_path root (b ∷ path) = root ++ 47 ∷ b ∷ path

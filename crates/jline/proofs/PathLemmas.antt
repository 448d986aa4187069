-- Paths as they are printed.
use Rattle.std.proofs.Common.{◌≡◌, ℕ, ◌<◌, List, [], ◌∷◌, length, arith, map, Bor, sym}
use Rattle.std.specs.List.{flat_map}
use Rattle.std.proofs.lemmas.List.Folds.{flat_map-map}
use Rattle.jline.specs.Paths.{name_shown, path_shown}

pub path_of_names : (path : List (Bor (List ℕ))) → 0 < length path → flat_map (λ name. name_shown name.now) path ≡ path_shown (map (λ name. name.now) path)
path_of_names [] some = absurd (omega (arith, some))
path_of_names (name ∷ path) some = sym (flat_map-map name_shown (λ (n : Bor (List ℕ)). n.now) (name ∷ path))

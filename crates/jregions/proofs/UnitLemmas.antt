-- The units of a file, one after another.
use Rattle.std.proofs.Common.{◌≡◌, ℕ, ◌+◌, ◌<◌, ◌≤◌, List, [], ◌∷◌, ◌++◌, length, add-one, arith, ap, ◌∙◌}
use Rattle.std.proofs.lemmas.Grind.{div_ceil_times}
use Rattle.std.proofs.lemmas.List.{map-append}
use Rattle.flashbase.specs.Lists.{below, each_below}
use Rattle.flashbase.proofs.ListLemmas.{length-each_below}
use Rattle.jscan.specs.Image.{greatest_image}
use Rattle.jregions.specs.Units.{unit_count, unit_kind_at, units_of}

pub each_next : {X : Type 0} (n : ℕ) (f : ℕ → X) → each_below (n + 1) f ≡ each_below n f ++ f n ∷ []
each_next n f = ap (λ (k : ℕ). each_below k f) (add-one n) ∙ map-append f (below n) (n ∷ [])

pub units_are_few : (file : List ℕ) → length file ≤ greatest_image → length (units_of file) < 2147483648
unfolding units_of
units_are_few file image =
    omega (arith, length-each_below (unit_count file) (unit_kind_at file), div_ceil_times (length file) 4096 (omega arith), image)

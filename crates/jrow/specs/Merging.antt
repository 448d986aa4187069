-- Lists that are merged into one.
use Rattle.std.specs.Prelude.{◌≡◌, ◌⊎◌, List, [], ◌∷◌}

-- The third list has the elements of both, those of each in their order.
abbrev pub Interleaves : {X : Type 0} → List X → List X → List X → Type 0
Interleaves xs ys [] = (xs ≡ []) × (ys ≡ [])
Interleaves {X} xs ys (z ∷ zs) =
    ((rest : List X) × (xs ≡ z ∷ rest) × Interleaves rest ys zs)
    ⊎ ((rest : List X) × (ys ≡ z ∷ rest) × Interleaves xs rest zs)

-- What is told of operations that were all accepted on a device's image.
use Rattle.std.specs.Prelude.{ℕ, List, [], ◌∷◌, ◌++◌, codes, decimal}

-- so many operations were accepted, they have so many nodes, and so many bytes went out to the
-- openings that were taken: the line of `append`, for bytes that need not lie side by side
abbrev pub updated_line : ℕ → ℕ → ℕ → List ℕ
updated_line ops nodes bytes =
    codes "accepted " ++ decimal ops ++ codes " nodes " ++ decimal nodes
    ++ codes " bytes " ++ decimal bytes ++ 10 ∷ []

-- What is told of an image whose data were decompressed, or compressed.
use Rattle.std.specs.Prelude.{ℕ, List, [], ◌∷◌, ◌++◌, codes, decimal}

-- so many of its nodes were compressed, and so many nodes and bytes went out
abbrev pub decompressed_line : ℕ → ℕ → ℕ → List ℕ
decompressed_line changed nodes bytes = codes "decompressed " ++ decimal changed ++ codes " nodes "
    ++ decimal nodes ++ codes " bytes " ++ decimal bytes ++ 10 ∷ []

-- so many of its nodes are compressed now, and so many nodes and bytes went out
abbrev pub compression_line : ℕ → ℕ → ℕ → List ℕ
compression_line changed nodes bytes = codes "compressed " ++ decimal changed ++ codes " nodes "
    ++ decimal nodes ++ codes " bytes " ++ decimal bytes ++ 10 ∷ []

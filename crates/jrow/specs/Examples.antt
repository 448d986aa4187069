-- The worked example of a row.
use Rattle.std.specs.Prelude.{ℕ, List, [], ◌∷◌, ◌++◌}
use Rattle.flashbase.specs.Bytes.{erased}
use Rattle.jnode.specs.Vectors.{little_marker, entry_a}

-- two blank blocks of 8,192 bytes, and one that holds an entry; a flash of four blocks has one more
abbrev pub third_is_taken : List ℕ
third_is_taken = erased 16384 ++ little_marker ++ entry_a

-- its blank blocks
abbrev pub three_blocks : List ℕ
three_blocks = 0 ∷ 1 ∷ 3 ∷ []

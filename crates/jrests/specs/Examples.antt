-- Worked blocks and rows.
use Rattle.std.specs.Prelude.{ℕ, List, [], ◌∷◌, ◌++◌, take}
use Rattle.flashbase.specs.Bytes.{erased}
use Rattle.jnode.specs.Vectors.{little_marker, entry_a, obsolete_a, no_length, hidden_entry}
use Rattle.jrests.specs.declared.opening.Opening.{Opening}

-- blocks of 128 bytes, which hold these and are erased after them
abbrev pub small_block : List ℕ → List ℕ
small_block front = take 128 (front ++ erased 128)

-- a marker and an entry, which ends at 56
abbrev pub begun_block : List ℕ
begun_block = small_block (little_marker ++ entry_a)

-- an entry alone, made obsolete
abbrev pub unmarked_block : List ℕ
unmarked_block = small_block obsolete_a

-- an entry of which the last byte, its name, did not go out
abbrev pub torn_block : List ℕ
torn_block = small_block (little_marker ++ take 40 entry_a)

-- an entry whose header is cut
abbrev pub cut_block : List ℕ
cut_block = small_block (little_marker ++ take 11 entry_a)

-- an entry, erased flash, and then a word that is no node
abbrev pub dirty_block : List ℕ
dirty_block = small_block (little_marker ++ entry_a ++ erased 15 ++ no_length)

-- a node with damage, which hides an entry
abbrev pub damaged_block : List ℕ
damaged_block = small_block hidden_entry

-- begun, erased, with a node that is cut, and begun again; a flash of five blocks has one more
abbrev pub five_blocks : List ℕ
five_blocks = begun_block ++ erased 128 ++ torn_block ++ begun_block

-- ---- rows

abbrev pub opening : ℕ → ℕ → Opening
opening b at = record { block = b; place = at }

-- three blank blocks, between which one is full
abbrev pub blank_row : List Opening
blank_row = opening 0 0 ∷ opening 1 0 ∷ opening 3 0 ∷ []

-- the rest of a begun block before a blank one, and two more behind it, of which the first is too
-- small
abbrev pub mixed_row : List Opening
mixed_row = opening 0 4000 ∷ opening 1 0 ∷ opening 2 8000 ∷ opening 3 100 ∷ []

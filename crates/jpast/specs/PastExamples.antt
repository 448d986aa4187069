-- Worked lines.
use Rattle.std.specs.Prelude.{ℕ, List, [], ◌∷◌, Some, None}
use Rattle.jpast.specs.declared.past.Past.{Past}

-- of 32 bytes, as any digest
abbrev pub some_digest : List ℕ
some_digest =
    0 ∷ 1 ∷ 2 ∷ 3 ∷ 4 ∷ 5 ∷ 6 ∷ 7 ∷ 8 ∷ 9 ∷ 10 ∷ 11 ∷ 12 ∷ 13 ∷ 14 ∷ 15
    ∷ 16 ∷ 17 ∷ 18 ∷ 19 ∷ 20 ∷ 21 ∷ 22 ∷ 23 ∷ 24 ∷ 25 ∷ 26 ∷ 27 ∷ 28 ∷ 29 ∷ 30 ∷ 255 ∷ []

-- of a name without nodes, of a directory, and of a file
abbrev pub three_pasts : List Past
three_pasts =
    record { ino = 3; span = None; content = None }
    ∷ record { ino = 4; span = Some (record { lowest = 1; highest = 1 }); content = None }
    ∷ record {
      ino = 5;
      span = Some (record { lowest = 2; highest = 7 });
      content = Some (record { size = 9; digest = some_digest });
    }
    ∷ []

-- Files in memory of the caller, that a listing names.
use Rattle.std.specs.Prelude.{◌≡◌, ℕ, ◌+◌, ◌&&◌, Bool, nat_le, IsTrue, IsFalse, All, List, [], ◌∷◌, length, take, drop, slice_get, bytes_eq, Option, Some, None, option_map, if◌then◌else◌}
use Rattle.std.specs.Borrow.{Bor}
use Rattle.std.specs.BTreeMap.{BTreeMap, get_by}
use Rattle.std.specs.Cmp.Lexicographic.{slice_cmp}
use Rattle.std.specs.Option.{option_map_or}
use Rattle.std.specs.Ordering.{nat_cmp}
use Rattle.jcalls.specs.Told.{told_at, told_number}
use Rattle.jcalls.specs.declared.given.FileRow.{FileRow}
use Rattle.jcalls.specs.declared.told.Told.{Told}

-- its name and its bytes lie within the bytes of all, which are so many
abbrev pub is_row_within : ℕ → FileRow → Bool
is_row_within len row =
    nat_le (row.name_at + row.name_len) len && nat_le (row.at + row.length) len

abbrev pub AreWithin : ℕ → List FileRow → Type 0
AreWithin len rows = All (λ row. IsTrue (is_row_within len row)) rows

abbrev pub name_in : List ℕ → FileRow → List ℕ
name_in bytes row = take row.name_len (drop row.name_at bytes)

abbrev pub bytes_in_row : List ℕ → FileRow → List ℕ
bytes_in_row bytes row = take row.length (drop row.at bytes)

-- the bytes of the first file of a name, if there is one
abbrev pub file_in : List ℕ → List FileRow → List ℕ → Option (List ℕ)
file_in bytes [] name = None
file_in bytes (row ∷ rows) name =
    if bytes_eq (name_in bytes row) name then Some (bytes_in_row bytes row)
    else file_in bytes rows name

-- the same; one that is not there has none
abbrev pub bytes_named : List ℕ → List FileRow → List ℕ → List ℕ
bytes_named bytes rows name = option_map_or (λ content. content) (file_in bytes rows name) []

-- under the name of each file the bytes of the first one of that name are held
abbrev pub HoldsFiles : List ℕ → List FileRow → BTreeMap (Bor (List ℕ)) (Bor (List ℕ)) → Type 0
HoldsFiles bytes rows held = (name : List ℕ)
    → option_map (λ content. content.now) (get_by (λ k. slice_cmp nat_cmp name k.now) held)
    ≡ file_in bytes rows name

-- the first row that is not within is told by its index
pub record RowsRefused (len : ℕ) (rows : List FileRow) (told : Told) : Type 0 where
  pub at : ℕ
  pub row : FileRow
  pub is : slice_get rows at ≡ Some row
  pub not_within : IsFalse (is_row_within len row)
  pub before : AreWithin len (take at rows)
  pub says : told ≡ told_at 32 (told_number at) 0

-- A few names in a row.
use Rattle.std.specs.Prelude.{ℕ, suc, List, [], ◌∷◌, Result, Ok, Err}
use Rattle.std.specs.Ordering.{nat_cmp, match_ordering}
use Rattle.std.specs.Cmp.Lexicographic.{slice_cmp}
use Rattle.std.specs.Cow.{cow_slice_items}
use Rattle.jname.specs.declared.versions.Versions.{Versions}
use Rattle.jname.specs.ContentsByName.{Name}

-- the place itself, whether a name stands there or would stand
abbrev pub place_or_gap : Result ℕ ℕ → ℕ
place_or_gap (Ok place) = place
place_or_gap (Err place) = place

-- one place further
abbrev pub one_further : Result ℕ ℕ → Result ℕ ℕ
one_further (Ok place) = Ok (suc place)
one_further (Err place) = Err (suc place)

-- where a name stands in a row in byte order, or else would stand: before the first that is not
-- below it
abbrev pub place_in : List (Name × Versions) → List ℕ → Result ℕ ℕ
place_in [] name = Err 0
place_in (e ∷ es) name = match_ordering (slice_cmp nat_cmp name (cow_slice_items e.0)) (Err 0)
    (Ok 0) (one_further (place_in es name))

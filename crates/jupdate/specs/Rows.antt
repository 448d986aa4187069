-- A row of openings that is written to: where it goes on, where the next node goes, and how much it
-- has left.
use Rattle.std.specs.Prelude.{◌≡◌, ℕ, ◌+◌, ◌%◌, ◌<◌, ◌≤◌, nat_le, List, [], ◌∷◌, map, drop, sum_by, Option, Some, None, if◌then◌else◌}
use Rattle.jlog.specs.Places.{place_after, free}
use Rattle.jrests.specs.declared.opening.Opening.{Opening}
use Rattle.jopenings.specs.declared.placing.Stretch.{Stretch}
use Rattle.jupdate.specs.declared.row.Cursor.{Cursor}
use Rattle.jupdate.specs.declared.row.Spot.{Spot}

-- an opening of a flash of so many blocks: it lies in one of them, at a word of it or at its end
pub record IsOpen (size blocks : ℕ) (o : Opening) : Type 0 where
  pub within : o.block < blocks
  pub word : o.place % 4 ≡ 0
  pub inside : o.place ≤ size

-- ---- what went out to a row, and what is left of it

-- where an opening began, to which these bytes went out, and where it goes on
abbrev pub opened : Stretch → Opening
opened s = record { block = s.block; place = s.place }

abbrev pub ended : Stretch → Opening
ended s = record { block = s.block; place = s.place + s.len }

abbrev pub begins_of : List Stretch → List Opening
begins_of stretches = map opened stretches

abbrev pub ends_of : List Stretch → List Opening
ends_of stretches = map ended stretches

-- what is left of a row where so many openings were passed
abbrev pub left_in : ℕ → List Stretch → List Opening
left_in passed stretches = drop passed (ends_of stretches)

-- an opening to which nothing went out
abbrev pub unwritten : Opening → Stretch
unwritten o = record { block = o.block; place = o.place; len = 0 }

-- a row whose first opening goes on at a place
abbrev pub gone_on : List Opening → ℕ → List Opening
gone_on [] place = []
gone_on (o ∷ row) place = record { block = o.block; place = place } ∷ row

-- the same of one whose next opening goes on at a place
abbrev pub left_at : List Opening → Cursor → List Opening
left_at row cursor = gone_on (drop cursor.passed row) cursor.place

-- rule: The log: What a refusal for want of room tells of a row of openings.
--   definitions: jupdate.Rows.free_in
--   code: jupdate::row::free_in
-- the bytes that are left, less a marker for each block that is not begun
abbrev pub free_in : ℕ → List Opening → ℕ
free_in size row = sum_by (λ o. free size 1 o.place) row

-- ---- where the next node goes

-- the openings from the first one on whose block takes a node of so many bytes
abbrev pub reached : ℕ → List Opening → ℕ → List Opening
reached size [] len = []
reached size (o ∷ row) len =
    if nat_le (place_after size o.place len + len) size then o ∷ row else reached size row len

-- A node of so many bytes goes to this spot of a row: into the first opening that takes it. Where
-- the row went on at the front of an opening of its own, so it does there.
pub record IsSpot (size : ℕ) (row : List Opening) (from : Cursor) (len : ℕ) (spot : Spot) : Type
    0 where
  pub opening : Opening
  pub rest : List Opening
  pub first : reached size (left_at row from) len ≡ opening ∷ rest
  pub left : left_at row spot.cursor ≡ opening ∷ rest
  pub begins : left_at row from ≡ drop from.passed row
      → left_at row spot.cursor ≡ drop spot.cursor.passed row
  pub block : spot.block ≡ opening.block
  pub at : spot.at ≡ place_after size opening.place len
  pub inside : spot.at + len ≤ size

-- or into none
abbrev pub FindsSpot : ℕ → List Opening → Cursor → ℕ → Option Spot → Type 0
FindsSpot size row from len None = reached size (left_at row from) len ≡ []
FindsSpot size row from len (Some spot) = IsSpot size row from len spot

-- A row of openings that all begin with their blocks is a row of blank blocks.
use Rattle.std.specs.Prelude.{◌≡◌, ℕ, ◌%◌, ◌<◌, IsTrue, List, length, map}
use Rattle.std.specs.List.{AllByRecursion}
use Rattle.jlog.specs.Laws.{FitsBlock}
use Rattle.jlog.specs.Places.{places, fit}
use Rattle.jrow.specs.Row.{address_in}
use Rattle.jrests.specs.Shares.{shares, fit_in, places_in}
use Rattle.jopenings.specs.After.{fronts}

-- It has room for the same forms,
abbrev pub FrontsHoldSame : Type 0
FrontsHoldSame = (size : ℕ) (blocks : List ℕ) (forms : List (List ℕ)) → 0 < size → size % 4 ≡ 0
    → AllByRecursion (FitsBlock size) forms
    → fit_in size (fronts blocks) forms ≡ fit size (length blocks) 0 forms

-- and these lie at the same addresses.
abbrev pub FrontsPlaceSame : Type 0
FrontsPlaceSame = (size : ℕ) (blocks : List ℕ) (forms : List (List ℕ)) → 0 < size
    → size % 4 ≡ 0 → AllByRecursion (FitsBlock size) forms
    → IsTrue (fit size (length blocks) 0 forms)
    → places_in size (shares size (fronts blocks) forms)
    ≡ map (λ place. (address_in size blocks place.0, place.1)) (places size 0 forms)

-- A walk through the openings of a row, along what went out to them.
use Rattle.std.specs.Prelude.{◌≡◌, ℕ, ◌==◌, IsTrue, List, [], ◌∷◌, drop, map, if◌then◌else◌}
use Rattle.std.specs.List.{AllByRecursion}
use Rattle.jnode.specs.Weak.{IsWrittenForm}
use Rattle.jnode.specs.declared.order.Endian.{Endian}
use Rattle.jlog.specs.Laws.{FitsBlock}
use Rattle.jlog.specs.Places.{is_writable_flash}
use Rattle.jlog.specs.Running.{shown_place}
use Rattle.jlog.specs.declared.report.Place.{Place}
use Rattle.jlog.specs.declared.writing.Blocks.{Blocks}
use Rattle.jcuts.specs.declared.standing.Standing.{Standing}
use Rattle.jrests.specs.Openings.{AreUpwards}
use Rattle.jrests.specs.Shares.{shares, fit_in, places_in}
use Rattle.jrests.specs.declared.opening.Opening.{Opening}
use Rattle.jopenings.specs.After.{row_after_all, output_to_all}
use Rattle.jopenings.specs.declared.placing.Stretch.{Stretch}
use Rattle.jupdate.specs.Rows.{IsOpen, begins_of, gone_on}
use Rattle.jhalts.specs.InShares.{standings_in_shares}
use Rattle.jhalts.specs.declared.walking.Walk.{Walk}

-- what is left of the openings of these stretches where a walk through them is
abbrev pub row_of_walk : List Stretch → Walk → List Opening
row_of_walk stretches walk = gone_on (drop walk.passed (begins_of stretches)) walk.place

-- the openings from the first one of a block on
abbrev pub from_block : ℕ → List Opening → List Opening
from_block b [] = []
from_block b (o ∷ row) = if o.block == b then o ∷ row else from_block b row

-- an address on the flash is one of a row's openings
pub record IsRowOpen (flash : Blocks) (row : List Opening) : Type 0 where
  pub writable : IsTrue (is_writable_flash flash.size flash.count)
  pub each : AllByRecursion (IsOpen flash.size flash.count) row

-- These bytes are what goes out for forms to a row of openings, and these are their places.
pub record ArePutIn (e : Endian) (flash : Blocks) (row : List Opening) (forms : List (List ℕ))
    (out : List ℕ) (places : List Place) : Type 0 where
  pub writable : IsTrue (is_writable_flash flash.size flash.count)
  pub upwards : AreUpwards 0 flash.count row
  pub each : AllByRecursion (IsOpen flash.size flash.count) row
  pub room : AllByRecursion (FitsBlock flash.size) forms
  pub written : AllByRecursion (IsWrittenForm e) forms
  pub fits : IsTrue (fit_in flash.size row forms)
  pub bytes : out ≡ output_to_all e flash.size (shares flash.size row forms)
  pub placed : places ≡ map shown_place (places_in flash.size (shares flash.size row forms))

-- some forms were put so
abbrev pub SomePutIn : Endian → Blocks → List Opening → List ℕ → List Place → Type 0
SomePutIn e flash row out places =
    (forms : List (List ℕ)) × ArePutIn e flash row forms out places

-- whatever forms they are, they stand so,
abbrev pub AreTheirStandings : Endian → Blocks → List Opening → List ℕ → List Place
    → List Standing → Type 0
AreTheirStandings e flash row out places told = (forms : List (List ℕ))
    → ArePutIn e flash row forms out places
    → told ≡ standings_in_shares e flash.size (shares flash.size row forms)

-- and this is left of the row behind them
abbrev pub IsLeftBehind : Endian → Blocks → List Opening → List ℕ → List Place → List Opening
    → Type 0
IsLeftBehind e flash row out places left = (forms : List (List ℕ))
    → ArePutIn e flash row forms out places → left ≡ row_after_all flash.size row forms

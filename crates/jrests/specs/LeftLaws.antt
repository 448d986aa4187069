-- Laws of a write to a row of openings. Each is a statement: it holds since a public function's
-- contract names it.
use Rattle.std.specs.Prelude.{◌≡◌, ℕ, ◌*◌, ◌≤◌, IsTrue, List, length, take, flat_map}
use Rattle.std.specs.List.{AllByRecursion}
use Rattle.jnode.specs.declared.order.Endian.{Endian}
use Rattle.jscan.specs.Image.{is_block_size}
use Rattle.jlog.specs.Places.{fit}
use Rattle.jlog.specs.Forms.{IsStorableForm, IsLoggableForm, NoFormWeak}
use Rattle.jlog.specs.Through.{IsReadForm}
use Rattle.jrow.specs.RowLeft.{ExpandsInRow}
use Rattle.jrests.specs.Left.{IsLeftOfShares, whole_in_shares, all_bytes}
use Rattle.jrests.specs.Openings.{AreOpeningsOf}
use Rattle.jrests.specs.Shares.{Share, shares, fit_in}
use Rattle.jrests.specs.declared.opening.Opening.{Opening}

-- ---- what goes where

-- no form of a share crosses the end of its block
abbrev pub FitsItsBlock : ℕ → Share → Type 0
FitsItsBlock size share = IsTrue (fit size 1 share.0.place share.1)

-- Where all have their places, the shares hold them in their order,
abbrev pub SharesHoldAll : Type 0
SharesHoldAll = (size : ℕ) (row : List Opening) (forms : List (List ℕ))
    → IsTrue (fit_in size row forms)
    → flat_map (λ share. share.1) (shares size row forms) ≡ forms

-- and none crosses from one block into the next.
abbrev pub SharesFit : Type 0
SharesFit = (size : ℕ) (row : List Opening) (forms : List (List ℕ))
    → AllByRecursion (FitsItsBlock size) (shares size row forms)

-- ---- what stands

-- Forms for a row of openings of a base, which has room for them.
pub record AreStoredInOpenings (e : Endian) (size blocks : ℕ) (base : List ℕ)
    (row : List Opening) (forms : List (List ℕ)) : Type 0 where
  pub size_is : IsTrue (is_block_size size)
  pub no_longer : length base ≤ blocks * size
  pub openings : AreOpeningsOf e size blocks base row
  pub each : AllByRecursion (IsStorableForm e size) forms
  pub read : AllByRecursion (IsReadForm e size) forms
  pub room : IsTrue (fit_in size row forms)

-- After a cut there stands what was in the base, and the first forms, those that are whole,
abbrev pub LeftInOpenings : Type 0
LeftInOpenings = (e : Endian) (size blocks k : ℕ) (base image : List ℕ) (row : List Opening)
    (forms : List (List ℕ))
    → AreStoredInOpenings e size blocks base row forms
    → AllByRecursion (IsLoggableForm e size) forms → NoFormWeak e forms
    → IsLeftOfShares e size blocks base (shares size row forms) k image
    → ExpandsInRow e size base image (take (whole_in_shares e size (shares size row forms) k) forms)

-- and without a cut all of them, of any length, and whether a cut of them would be seen or not.
abbrev pub WholeInOpenings : Type 0
WholeInOpenings = (e : Endian) (size blocks k : ℕ) (base image : List ℕ) (row : List Opening)
    (forms : List (List ℕ))
    → AreStoredInOpenings e size blocks base row forms
    → all_bytes e size (shares size row forms) ≤ k
    → IsLeftOfShares e size blocks base (shares size row forms) k image
    → ExpandsInRow e size base image forms

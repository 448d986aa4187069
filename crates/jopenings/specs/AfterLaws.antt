-- Laws of a row of openings that is written to again and again. Each is a statement: it holds since
-- a public function's contract names it.
use Rattle.std.specs.Prelude.{◌≡◌, ℕ, ◌+◌, ◌%◌, ◌&&◌, IsTrue, List, ◌++◌, length}
use Rattle.std.specs.List.{AllByRecursion}
use Rattle.jnode.specs.declared.order.Endian.{Endian}
use Rattle.jlog.specs.Laws.{FitsBlock}
use Rattle.jrests.specs.Left.{whole_in_shares, all_bytes}
use Rattle.jrests.specs.Shares.{shares, fit_in, places_in}
use Rattle.jrests.specs.declared.opening.Opening.{Opening}
use Rattle.jopenings.specs.After.{row_after_all, output_to_all}

-- More forms go on in what is left of the row after the first ones: their places come after those
-- of the first ones, and so do the bytes that go out for them.
pub record RowGoesOn (e : Endian) (size : ℕ) (row : List Opening) (forms more : List (List ℕ)) :
    Type 0 where
  pub room : fit_in size row (forms ++ more)
      ≡ fit_in size row forms && fit_in size (row_after_all size row forms) more
  pub places : places_in size (shares size row (forms ++ more))
      ≡ places_in size (shares size row forms)
      ++ places_in size (shares size (row_after_all size row forms) more)
  pub output : output_to_all e size (shares size row (forms ++ more))
      ≡ output_to_all e size (shares size row forms)
      ++ output_to_all e size (shares size (row_after_all size row forms) more)

abbrev pub AllRowsGoOn : Type 0
AllRowsGoOn = (e : Endian) (size : ℕ) (row : List Opening) (forms more : List (List ℕ))
    → RowGoesOn e size row forms more

-- so many bytes go out
abbrev pub BytesAreCounted : Type 0
BytesAreCounted = (e : Endian) (size : ℕ) (row : List Opening) (forms : List (List ℕ))
    → all_bytes e size (shares size row forms)
    ≡ length (output_to_all e size (shares size row forms))

-- After all bytes of the first forms and k more all of the first ones stand whole, and of the
-- others those that do after k bytes.
abbrev pub EarlierAreWhole : Type 0
EarlierAreWhole = (e : Endian) (size k : ℕ) (row : List Opening) (forms more : List (List ℕ))
    → size % 4 ≡ 0 → AllByRecursion (FitsBlock size) (forms ++ more)
    → IsTrue (fit_in size row forms)
    → whole_in_shares e size (shares size row (forms ++ more))
    (all_bytes e size (shares size row forms) + k)
    ≡ length forms + whole_in_shares e size (shares size (row_after_all size row forms) more) k

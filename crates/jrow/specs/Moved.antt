-- A log that begins so many blocks further on.
use Rattle.std.specs.Prelude.{◌≡◌, ℕ, ◌+◌, ◌*◌, ◌%◌, ◌<◌, List, map}
use Rattle.jnode.specs.declared.order.Endian.{Endian}
use Rattle.jlog.specs.Places.{places, end_of_all, fit}
use Rattle.jlog.specs.Output.{output}
use Rattle.jlog.specs.Left.{count_whole}

-- The same bytes go out, each form stands so many blocks further on, and the same ones stand whole
-- after a cut; they fit a flash of so many blocks more just where they fitted.
pub record IsMoved (e : Endian) (size from n : ℕ) (forms : List (List ℕ)) : Type 0 where
  pub goes_out : output e size (n * size + from) forms ≡ output e size from forms
  pub placed_at : places size (n * size + from) forms
      ≡ map (λ place. (n * size + place.0, place.1)) (places size from forms)
  pub ends : end_of_all size (n * size + from) forms ≡ n * size + end_of_all size from forms
  pub whole : (out : List ℕ) (k : ℕ)
      → count_whole (n * size + from) out k (places size (n * size + from) forms)
      ≡ count_whole from out k (places size from forms)
  pub fits : (blocks : ℕ) → fit size (n + blocks) (n * size + from) forms
      ≡ fit size blocks from forms

abbrev pub LogIsMoved : Type 0
LogIsMoved = (e : Endian) (size from n : ℕ) (forms : List (List ℕ)) → 0 < size → size % 4 ≡ 0
    → IsMoved e size from n forms

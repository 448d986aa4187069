-- What survives in an image that is put with what went out to its openings.
use Rattle.std.specs.Prelude.{ℕ, ◌+◌, ◌≤◌, List, take}
use Rattle.std.specs.List.{AllByRecursion}
use Rattle.flashbase.specs.Ranges.{AreBytes}
use Rattle.jnode.specs.Header.{header_len}
use Rattle.jnode.specs.Reading.{inode_len}
use Rattle.jnode.specs.declared.order.Endian.{Endian}
use Rattle.jscan.specs.Pages.{IsPage}
use Rattle.jsteps.specs.Steps.{bytes, after}
use Rattle.jsteps.specs.Refusals.{steps_of_first}
use Rattle.jsteps.specs.Laws.{OpFits}
use Rattle.jsteps.specs.declared.op.Op.{Op}
use Rattle.jsteps.specs.declared.step.Step.{Step}
use Rattle.jview.specs.Through.{MountsThroughAs}
use Rattle.jlog.specs.Forms.{NoFormWeak}
use Rattle.jlog.specs.HeadlineThrough.{state_through, IsBaseThrough, index_through}
use Rattle.jrests.specs.Left.{whole_in_shares, all_bytes}
use Rattle.jrests.specs.Openings.{AreOpeningsOf}
use Rattle.jrests.specs.Shares.{shares}
use Rattle.jrests.specs.Survives.{AreAcceptedInOpenings}
use Rattle.jrests.specs.declared.opening.Opening.{Opening}
use Rattle.jopenings.specs.After.{output_to_all}
use Rattle.jopenings.specs.Stretches.{stretches_of, image_with}

-- an image with the first k bytes that go out for forms in its openings
abbrev pub placed_image : Endian → ℕ → ℕ → List ℕ → List Opening → List (List ℕ) → ℕ → List ℕ
placed_image e size blocks base row forms k =
    let ss = shares size row forms in
    image_with size blocks base (stretches_of e size ss) (take k (output_to_all e size ss))

-- For any k it mounts through as the file system after the steps whose forms stand whole; and with
-- all bytes, whatever the forms, as the one after all steps.
pub record PlacedSurvives (e : Endian) (size blocks : ℕ) (base : List ℕ) (row : List Opening)
    (steps : List Step) (forms : List (List ℕ)) : Type 0 where
  pub cuts : NoFormWeak e forms → (k : ℕ) → MountsThroughAs e size
      (placed_image e size blocks base row forms k) (after bytes (state_through e size base)
      (take (whole_in_shares e size (shares size row forms) k) steps))
  pub whole : MountsThroughAs e size
      (placed_image e size blocks base row forms (all_bytes e size (shares size row forms)))
      (after bytes (state_through e size base) steps)

-- The steps of accepted operations survive there, in any openings of any base that mounts through.
abbrev pub FormsSurvivePlaced : Type 0
FormsSurvivePlaced = (page : ℕ) (e : Endian) (size blocks n : ℕ) (base : List ℕ)
    (row : List Opening) (ops : List Op) (forms : List (List ℕ))
    → IsPage page → page + (header_len + inode_len) ≤ size → IsBaseThrough e size blocks base
    → AreBytes base → AllByRecursion OpFits ops → AreOpeningsOf e size blocks base row
    → AreAcceptedInOpenings page e size base row ops n forms
    → PlacedSurvives e size blocks base row
    (steps_of_first page (index_through e size base) ops n) forms

-- A flash with its blocks in another order: the blank blocks of a base last. What is written to
-- them is then written to a tail, so that all that is known of a log there holds of it.
use Rattle.std.specs.Prelude.{◌≡◌, ◌↔◌, ℕ, ◌*◌, ◌+◌, ◌<◌, ◌≤◌, not, IsTrue, List, [], ◌++◌, length, take, filter, Some, Ok}
use Rattle.flashbase.specs.Lists.{below}
use Rattle.flashbase.specs.Ranges.{AreBytes}
use Rattle.jnode.specs.declared.order.Endian.{Endian}
use Rattle.jscan.specs.Blank.{is_blank}
use Rattle.jscan.specs.Image.{is_block_size, greatest_image, block_of}
use Rattle.jmount.specs.Clash.{NoneClash}
use Rattle.jmount.specs.Mount.{Mount}
use Rattle.jmount.specs.Tree.{State}
use Rattle.jsteps.specs.Nodes.{indexed}
use Rattle.jsteps.specs.Steps.{bytes, after}
use Rattle.jsteps.specs.declared.step.Step.{Step}
use Rattle.jexpand.specs.Expanded.{expanded_nodes}
use Rattle.jview.specs.Through.{MountsThroughAs, IsMountThroughOf}
use Rattle.jlog.specs.Places.{places, end_of_all}
use Rattle.jlog.specs.Output.{output}
use Rattle.jlog.specs.Left.{flash_byte, IsLeft, count_whole}
use Rattle.jlog.specs.Forms.{NoFormWeak}
use Rattle.jlog.specs.Headline.{is_flash_of, resume_address}
use Rattle.jlog.specs.HeadlineThrough.{state_through, IsBaseThrough, index_through, SurvivesAs}
use Rattle.jlog.specs.DoneThrough.{GoesOnAs, EarlierStandAs}
use Rattle.jlog.specs.Resuming.{resumes_at}
use Rattle.jlog.specs.Session.{Flash, IsGoing}
use Rattle.jrow.specs.Row.{blank_blocks, side_by_side, start_of_row, address_of}
use Rattle.jrow.specs.RowLeft.{IsLeftInRow}

-- the blocks that are not blank, in ascending order
abbrev pub taken_blocks : Endian → ℕ → ℕ → List ℕ → List ℕ
taken_blocks e size blocks image =
    filter (λ b. not (is_blank e size (block_of size image b))) (below blocks)

-- all blocks, those last that are blank in a base
abbrev pub blank_last : Endian → ℕ → ℕ → List ℕ → List ℕ
blank_last e size blocks base = taken_blocks e size blocks base ++ blank_blocks e size blocks base

-- an image with its blocks in that order
abbrev pub arranged : Endian → ℕ → ℕ → List ℕ → List ℕ → List ℕ
arranged e size blocks base image = side_by_side size (blank_last e size blocks base) image

-- where its row begins
abbrev pub row_start : Endian → ℕ → ℕ → List ℕ → ℕ
row_start e size blocks base = length (taken_blocks e size blocks base) * size

-- ---- the base

-- It fits the flash as it did, writing goes on where its row begins, and it leads to the same.
pub record IsArranged (e : Endian) (size blocks : ℕ) (base : List ℕ) : Type 0 where
  pub flash : IsTrue (is_flash_of size blocks (arranged e size blocks base base))
  pub resumes : resume_address e size blocks (arranged e size blocks base base)
      ≡ row_start e size blocks base
  pub leads : NoneClash (expanded_nodes e size base)
      → index_through e size (arranged e size blocks base base) ≡ index_through e size base
  pub are_bytes : AreBytes base → AreBytes (arranged e size blocks base base)

abbrev pub BaseIsArranged : Type 0
BaseIsArranged = (e : Endian) (size blocks : ℕ) (base : List ℕ)
    → IsTrue (is_flash_of size blocks base) → IsArranged e size blocks base

-- ---- any image of the flash

-- It mounts through as what it did.
abbrev pub ArrangedMounts : Type 0
ArrangedMounts = (e : Endian) (size blocks : ℕ) (base image : List ℕ) (s : State)
    → IsTrue (is_block_size size) → blocks * size ≤ greatest_image → length image ≤ blocks * size
    → MountsThroughAs e size image s
    ↔ MountsThroughAs e size (arranged e size blocks base image) s

-- What a stop leaves in the row, it leaves in the tail that the row then is.
abbrev pub RowIsTail : Type 0
RowIsTail = (e : Endian) (size blocks k : ℕ) (base out image : List ℕ) → 0 < size
    → IsLeftInRow e size blocks base (blank_blocks e size blocks base) out k image
    → IsLeft e size blocks (arranged e size blocks base base) (row_start e size blocks base) out k
    (arranged e size blocks base image)

-- An address of its row is one of the image, where it holds the same byte,
abbrev pub RowAddressHolds : Type 0
RowAddressHolds = (e : Endian) (size blocks at address : ℕ) (base image : List ℕ) → 0 < size
    → address_of size blocks (blank_blocks e size blocks base) at ≡ Some address
    → flash_byte (arranged e size blocks base image) at ≡ flash_byte image address

-- and the row begins where the number of its blocks says.
abbrev pub RowStarts : Type 0
RowStarts = (e : Endian) (size blocks : ℕ) (base : List ℕ)
    → row_start e size blocks base ≡ start_of_row size blocks (blank_blocks e size blocks base)

-- ---- a log

-- A log that is begun on a mount through goes on from the arranged base where its row begins.
pub record BeginsArranged (flash : Flash) (m : Mount) (from : ℕ) (base : List ℕ) : Type 0 where
  pub going : IsGoing flash.size flash.blocks from (indexed m)
  pub done : GoesOnAs flash base [] [] from (indexed m)

abbrev pub ArrangedBegins : Type 0
ArrangedBegins = (flash : Flash) (at : ℕ) (m : Mount) → IsMountThroughOf flash.order flash.size m
    → AreBytes m.image → resumes_at flash.order flash.size flash.blocks m ≡ Ok at
    → BeginsArranged flash m (row_start flash.order flash.size flash.blocks m.image)
    (arranged flash.order flash.size flash.blocks m.image m.image)

-- What survives on the arranged base survives in the row: a stop leaves an image that mounts
-- through as the file system after the steps whose forms stand whole.
abbrev pub ArrangedSurvives : Type 0
ArrangedSurvives = (e : Endian) (size blocks : ℕ) (base : List ℕ) (steps : List Step)
    (forms : List (List ℕ)) → IsBaseThrough e size blocks base
    → SurvivesAs e size blocks (arranged e size blocks base base) steps forms → NoFormWeak e forms
    → let from = row_start e size blocks base in
    let out = output e size from forms in
    (k : ℕ) (image : List ℕ) → k ≤ length out
    → IsLeftInRow e size blocks base (blank_blocks e size blocks base) out k image
    → MountsThroughAs e size image (after bytes (state_through e size base)
    (take (count_whole from out k (places size from forms)) steps))

-- A stop while more forms were being written to the row, after all bytes of the earlier ones and k
-- more, leaves an image that mounts through as the file system after all earlier steps, and after
-- those of the others whose forms stand whole. Of the earlier forms some may be weak.
abbrev pub EarlierStandInRow : Endian → ℕ → ℕ → List ℕ → List Step → List Step → List (List ℕ)
    → List (List ℕ) → Type 0
EarlierStandInRow e size blocks base earlier steps before forms =
    let start = row_start e size blocks base in
    let from = end_of_all size start before in
    let out = output e size from forms in
    NoFormWeak e forms
    → (k : ℕ) (image : List ℕ) → k ≤ length out
    → IsLeftInRow e size blocks base (blank_blocks e size blocks base)
    (output e size start before ++ out) (length (output e size start before) + k) image
    → MountsThroughAs e size image (after bytes (after bytes (state_through e size base) earlier)
    (take (count_whole from out k (places size from forms)) steps))

-- While more is written to the tail of the arranged base the earlier steps stand, and so they do
-- while it is written to the row.
abbrev pub ArrangedEarlierStand : Type 0
ArrangedEarlierStand = (e : Endian) (size blocks : ℕ) (base : List ℕ) (earlier steps : List Step)
    (before forms : List (List ℕ)) → IsBaseThrough e size blocks base
    → EarlierStandAs e size blocks (arranged e size blocks base base) earlier steps before forms
    → EarlierStandInRow e size blocks base earlier steps before forms

-- What stays of a file system when power fails while operations are written to the blank blocks of
-- its image, wherever they lie.
use Rattle.std.specs.Prelude.{ℕ, ◌+◌, ◌≤◌, IsTrue, List, length, take}
use Rattle.std.specs.List.{AllByRecursion, flat_map}
use Rattle.flashbase.specs.Ranges.{AreBytes}
use Rattle.jnode.specs.Header.{header_len}
use Rattle.jnode.specs.Reading.{inode_len}
use Rattle.jnode.specs.declared.order.Endian.{Endian}
use Rattle.jscan.specs.Pages.{IsPage}
use Rattle.jsteps.specs.Steps.{bytes, after}
use Rattle.jsteps.specs.Refusals.{plans_of, steps_of_first}
use Rattle.jsteps.specs.Laws.{OpFits}
use Rattle.jsteps.specs.declared.op.Op.{Op}
use Rattle.jsteps.specs.declared.step.Step.{Step}
use Rattle.jexpand.specs.Expanded.{unpacked_bytes}
use Rattle.jview.specs.Through.{greatest_contents, MountsThroughAs}
use Rattle.jlog.specs.Places.{places, fit}
use Rattle.jlog.specs.Output.{output}
use Rattle.jlog.specs.Left.{count_whole}
use Rattle.jlog.specs.Forms.{NoFormWeak}
use Rattle.jlog.specs.Packed.{AreNodeForms}
use Rattle.jlog.specs.Through.{form_content}
use Rattle.jlog.specs.HeadlineThrough.{state_through, IsBaseThrough, index_through, nodes_through}
use Rattle.jrow.specs.Row.{blank_blocks}
use Rattle.jrow.specs.RowLeft.{IsLeftOfForms}

-- These forms of the nodes of steps on a base fit its blank blocks, and the view has room for their
-- contents.
pub record AreFormsInRow (e : Endian) (size blocks : ℕ) (base : List ℕ) (steps : List Step)
    (forms : List (List ℕ)) : Type 0 where
  pub are : AreNodeForms e (nodes_through e size base steps) forms
  pub fits : IsTrue (fit size (length (blank_blocks e size blocks base)) 0 forms)
  pub contents : length (unpacked_bytes e size base) + length (flat_map (form_content e) forms)
      ≤ greatest_contents

-- so many operations have steps on a base, and these forms of their nodes go out to its blank
-- blocks
pub record AreAcceptedInRow (page : ℕ) (e : Endian) (size blocks : ℕ) (base : List ℕ)
    (ops : List Op) (n : ℕ) (forms : List (List ℕ)) : Type 0 where
  pub planned : n ≤ length (plans_of page (index_through e size base) ops)
  pub forms_in : AreFormsInRow e size blocks base
      (steps_of_first page (index_through e size base) ops n) forms

-- ---- what survives

-- A stop after any number of bytes leaves an image that mounts through as the file system after the
-- steps whose forms stand whole: the first ones, none skipped and none in part.
abbrev pub SurvivesCutsInRow : Endian → ℕ → ℕ → List ℕ → List Step → List (List ℕ) → Type 0
SurvivesCutsInRow e size blocks base steps forms =
    let out = output e size 0 forms in
    NoFormWeak e forms
    → (k : ℕ) (image : List ℕ) → k ≤ length out → IsLeftOfForms e size blocks base forms k image
    → MountsThroughAs e size image (after bytes (state_through e size base)
    (take (count_whole 0 out k (places size 0 forms)) steps))

-- Without a cut it mounts through as the file system after all steps, whatever the forms.
abbrev pub SurvivesWholeInRow : Endian → ℕ → ℕ → List ℕ → List Step → List (List ℕ) → Type 0
SurvivesWholeInRow e size blocks base steps forms =
    (image : List ℕ)
    → IsLeftOfForms e size blocks base forms (length (output e size 0 forms)) image
    → MountsThroughAs e size image (after bytes (state_through e size base) steps)

pub record SurvivesInRow (e : Endian) (size blocks : ℕ) (base : List ℕ) (steps : List Step)
    (forms : List (List ℕ)) : Type 0 where
  pub cuts : SurvivesCutsInRow e size blocks base steps forms
  pub whole : SurvivesWholeInRow e size blocks base steps forms

-- The steps of accepted operations survive in the blank blocks, whatever the base that mounts
-- through, and whatever forms their nodes are put in.
abbrev pub FormsSurviveInRow : Type 0
FormsSurviveInRow = (page : ℕ) (e : Endian) (size blocks n : ℕ) (base : List ℕ) (ops : List Op)
    (forms : List (List ℕ))
    → IsPage page → page + (header_len + inode_len) ≤ size → IsBaseThrough e size blocks base
    → AreBytes base → AllByRecursion OpFits ops
    → AreAcceptedInRow page e size blocks base ops n forms
    → SurvivesInRow e size blocks base (steps_of_first page (index_through e size base) ops n) forms

-- What stays of a file system when power fails while operations are written to blank blocks of its
-- image and to the rests of begun ones.
use Rattle.std.specs.Prelude.{ℕ, ◌+◌, ◌≤◌, IsTrue, List, length, take}
use Rattle.std.specs.List.{AllByRecursion, flat_map}
use Rattle.flashbase.specs.Ranges.{AreBytes}
use Rattle.jnode.specs.Header.{header_len}
use Rattle.jnode.specs.Reading.{inode_len}
use Rattle.jnode.specs.declared.order.Endian.{Endian}
use Rattle.jscan.specs.Pages.{IsPage}
use Rattle.jsteps.specs.Steps.{bytes, after}
use Rattle.jsteps.specs.Refusals.{plans_of, steps_of_first}
use Rattle.jsteps.specs.Laws.{OpFits}
use Rattle.jsteps.specs.declared.op.Op.{Op}
use Rattle.jsteps.specs.declared.step.Step.{Step}
use Rattle.jexpand.specs.Expanded.{unpacked_bytes}
use Rattle.jview.specs.Through.{greatest_contents, MountsThroughAs}
use Rattle.jlog.specs.Forms.{NoFormWeak}
use Rattle.jlog.specs.Packed.{AreNodeForms}
use Rattle.jlog.specs.Through.{form_content}
use Rattle.jlog.specs.HeadlineThrough.{state_through, IsBaseThrough, index_through, nodes_through}
use Rattle.jrests.specs.Left.{IsLeftOfShares, whole_in_shares, all_bytes}
use Rattle.jrests.specs.Openings.{AreOpeningsOf}
use Rattle.jrests.specs.Shares.{shares, fit_in}
use Rattle.jrests.specs.declared.opening.Opening.{Opening}

-- These forms of the nodes of steps on a base fit some of its openings, and the view has room for
-- their contents.
pub record AreFormsInOpenings (e : Endian) (size : ℕ) (base : List ℕ) (row : List Opening)
    (steps : List Step) (forms : List (List ℕ)) : Type 0 where
  pub are : AreNodeForms e (nodes_through e size base steps) forms
  pub fits : IsTrue (fit_in size row forms)
  pub contents : length (unpacked_bytes e size base) + length (flat_map (form_content e) forms)
      ≤ greatest_contents

-- so many operations have steps on a base, and these forms of their nodes go out to its openings
pub record AreAcceptedInOpenings (page : ℕ) (e : Endian) (size : ℕ) (base : List ℕ)
    (row : List Opening) (ops : List Op) (n : ℕ) (forms : List (List ℕ)) : Type 0 where
  pub planned : n ≤ length (plans_of page (index_through e size base) ops)
  pub forms_in : AreFormsInOpenings e size base row
      (steps_of_first page (index_through e size base) ops n) forms

-- ---- what survives

-- A stop after any number of bytes leaves an image that mounts through as the file system after the
-- steps whose forms stand whole: the first ones, none skipped and none in part.
abbrev pub SurvivesCutsInOpenings : Endian → ℕ → ℕ → List ℕ → List Opening → List Step
    → List (List ℕ) → Type 0
SurvivesCutsInOpenings e size blocks base row steps forms =
    NoFormWeak e forms
    → (k : ℕ) (image : List ℕ)
    → IsLeftOfShares e size blocks base (shares size row forms) k image
    → MountsThroughAs e size image (after bytes (state_through e size base)
    (take (whole_in_shares e size (shares size row forms) k) steps))

-- Without a cut it mounts through as the file system after all steps, whatever the forms.
abbrev pub SurvivesWholeInOpenings : Endian → ℕ → ℕ → List ℕ → List Opening → List Step
    → List (List ℕ) → Type 0
SurvivesWholeInOpenings e size blocks base row steps forms =
    (image : List ℕ)
    → IsLeftOfShares e size blocks base (shares size row forms)
    (all_bytes e size (shares size row forms)) image
    → MountsThroughAs e size image (after bytes (state_through e size base) steps)

pub record SurvivesInOpenings (e : Endian) (size blocks : ℕ) (base : List ℕ) (row : List Opening)
    (steps : List Step) (forms : List (List ℕ)) : Type 0 where
  pub cuts : SurvivesCutsInOpenings e size blocks base row steps forms
  pub whole : SurvivesWholeInOpenings e size blocks base row steps forms

-- The steps of accepted operations survive in any openings of any base that mounts through, and
-- whatever forms their nodes are put in.
abbrev pub FormsSurviveInOpenings : Type 0
FormsSurviveInOpenings = (page : ℕ) (e : Endian) (size blocks n : ℕ) (base : List ℕ)
    (row : List Opening) (ops : List Op) (forms : List (List ℕ))
    → IsPage page → page + (header_len + inode_len) ≤ size → IsBaseThrough e size blocks base
    → AreBytes base → AllByRecursion OpFits ops → AreOpeningsOf e size blocks base row
    → AreAcceptedInOpenings page e size base row ops n forms
    → SurvivesInOpenings e size blocks base row
    (steps_of_first page (index_through e size base) ops n) forms

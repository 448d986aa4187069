-- What stays of a compressed file system when power fails while operations are written to it,
-- packed or not.
use Rattle.std.specs.Prelude.{ℕ, ◌+◌, ◌≤◌, IsTrue, List, length, take}
use Rattle.std.specs.List.{AllByRecursion, flat_map}
use Rattle.flashbase.specs.Ranges.{AreBytes}
use Rattle.jnode.specs.Header.{header_len}
use Rattle.jnode.specs.Reading.{inode_len}
use Rattle.jnode.specs.declared.node.NodeRef.{NodeRef}
use Rattle.jnode.specs.declared.order.Endian.{Endian}
use Rattle.jscan.specs.Pages.{IsPage}
use Rattle.jmount.specs.Tree.{State}
use Rattle.jmount.specs.StateOf.{state_of}
use Rattle.jsteps.specs.Steps.{bytes, after}
use Rattle.jsteps.specs.Nodes.{Indexed, index_of, nodes_of}
use Rattle.jsteps.specs.Refusals.{plans_of, steps_of_first}
use Rattle.jsteps.specs.Laws.{OpFits}
use Rattle.jsteps.specs.declared.op.Op.{Op}
use Rattle.jsteps.specs.declared.step.Step.{Step}
use Rattle.jexpand.specs.Expanded.{expanded_nodes, unpacked_bytes}
use Rattle.jlog.specs.Places.{places, fit}
use Rattle.jlog.specs.Output.{output}
use Rattle.jlog.specs.Left.{IsLeft, count_whole}
use Rattle.jlog.specs.Forms.{NoFormWeak}
use Rattle.jlog.specs.Headline.{is_flash_of, resume_address}
use Rattle.jlog.specs.Packed.{AreNodeForms}
use Rattle.jview.specs.Through.{greatest_contents, MountsThroughAs}
use Rattle.jlog.specs.Through.{form_content}

-- the file system of an image, through its compression
abbrev pub state_through : Endian → ℕ → List ℕ → State
state_through e size image = state_of (expanded_nodes e size image)

-- The base mounts through and fits the flash.
pub record IsBaseThrough (e : Endian) (size blocks : ℕ) (base : List ℕ) : Type 0 where
  pub flash : IsTrue (is_flash_of size blocks base)
  pub mounts : MountsThroughAs e size base (state_through e size base)

-- what an image leads to
abbrev pub index_through : Endian → ℕ → List ℕ → Indexed
index_through e size image = index_of (expanded_nodes e size image)

-- the nodes of steps on a base
abbrev pub nodes_through : Endian → ℕ → List ℕ → List Step → List NodeRef
nodes_through e size base steps = nodes_of (index_through e size base) steps

-- These forms of the nodes of steps on a base fit, and the view has room for their contents.
pub record AreFormsOn (e : Endian) (size blocks : ℕ) (base : List ℕ) (steps : List Step)
    (forms : List (List ℕ)) : Type 0 where
  pub are : AreNodeForms e (nodes_through e size base steps) forms
  pub fits : IsTrue (fit size blocks (resume_address e size blocks base) forms)
  pub contents : length (unpacked_bytes e size base) + length (flat_map (form_content e) forms)
      ≤ greatest_contents

-- so many operations have steps on a base, and these forms of their nodes go out
pub record AreAcceptedAs (page : ℕ) (e : Endian) (size blocks : ℕ) (base : List ℕ) (ops : List Op)
    (n : ℕ) (forms : List (List ℕ)) : Type 0 where
  pub planned : n ≤ length (plans_of page (index_through e size base) ops)
  pub forms_on : AreFormsOn e size blocks base
      (steps_of_first page (index_through e size base) ops n) forms

-- ---- what survives

-- A stop after any number of bytes leaves an image that mounts through as the file system after the
-- steps whose forms stand whole: the first ones, none skipped and none in part.
abbrev pub SurvivesCutsAs : Endian → ℕ → ℕ → List ℕ → List Step → List (List ℕ) → Type 0
SurvivesCutsAs e size blocks base steps forms =
    let from = resume_address e size blocks base in
    let out = output e size from forms in
    NoFormWeak e forms
    → (k : ℕ) (image : List ℕ) → k ≤ length out → IsLeft e size blocks base from out k image
    → MountsThroughAs e size image (after bytes (state_through e size base)
    (take (count_whole from out k (places size from forms)) steps))

-- Without a cut it mounts through as the file system after all steps, whatever the forms.
abbrev pub SurvivesWholeAs : Endian → ℕ → ℕ → List ℕ → List Step → List (List ℕ) → Type 0
SurvivesWholeAs e size blocks base steps forms =
    let from = resume_address e size blocks base in
    let out = output e size from forms in
    (image : List ℕ) → IsLeft e size blocks base from out (length out) image
    → MountsThroughAs e size image (after bytes (state_through e size base) steps)

pub record SurvivesAs (e : Endian) (size blocks : ℕ) (base : List ℕ) (steps : List Step)
    (forms : List (List ℕ)) : Type 0 where
  pub cuts : SurvivesCutsAs e size blocks base steps forms
  pub whole : SurvivesWholeAs e size blocks base steps forms

-- The steps of accepted operations survive, whatever the base that mounts through, and whatever
-- forms their nodes are put in.
abbrev pub FormsSurvive : Type 0
FormsSurvive = (page : ℕ) (e : Endian) (size blocks n : ℕ) (base : List ℕ) (ops : List Op)
    (forms : List (List ℕ))
    → IsPage page → page + (header_len + inode_len) ≤ size → IsBaseThrough e size blocks base
    → AreBytes base → AllByRecursion OpFits ops
    → AreAcceptedAs page e size blocks base ops n forms
    → SurvivesAs e size blocks base (steps_of_first page (index_through e size base) ops n) forms

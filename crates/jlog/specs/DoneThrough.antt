-- What a log has done on a base that is seen through its compression, in whatever forms, and what
-- survives of that and of what is done next.
use Rattle.std.specs.Prelude.{◌≡◌, ℕ, ◌+◌, ◌≤◌, IsTrue, List, [], ◌++◌, length, take, Ok}
use Rattle.std.specs.List.{AllByRecursion, flat_map}
use Rattle.flashbase.specs.Ranges.{AreBytes}
use Rattle.jnode.specs.Header.{header_len}
use Rattle.jnode.specs.Reading.{inode_len}
use Rattle.jnode.specs.declared.order.Endian.{Endian}
use Rattle.jmount.specs.Mount.{Mount}
use Rattle.jscan.specs.Pages.{IsPage}
use Rattle.jsteps.specs.Steps.{bytes, after}
use Rattle.jsteps.specs.Nodes.{Indexed, indexed, nodes_of, advanced_all}
use Rattle.jsteps.specs.Refusals.{plans_of, steps_of_first}
use Rattle.jsteps.specs.Laws.{OpFits}
use Rattle.jsteps.specs.declared.op.Op.{Op}
use Rattle.jsteps.specs.declared.step.Step.{Step}
use Rattle.jexpand.specs.Expanded.{unpacked_bytes}
use Rattle.jlog.specs.Places.{places, end_of_all, fit}
use Rattle.jlog.specs.Output.{output}
use Rattle.jlog.specs.Left.{IsLeft, count_whole}
use Rattle.jlog.specs.Forms.{NoFormWeak}
use Rattle.jlog.specs.Headline.{resume_address}
use Rattle.jlog.specs.Packed.{AreNodeForms}
use Rattle.jlog.specs.Resuming.{resumes_at}
use Rattle.jlog.specs.Session.{Flash, IsGoing}
use Rattle.jview.specs.Through.{greatest_contents, MountsThroughAs, IsMountThroughOf}
use Rattle.jlog.specs.Through.{form_content}
use Rattle.jlog.specs.HeadlineThrough.{state_through, IsBaseThrough, index_through, AreAcceptedAs, SurvivesAs}

-- the steps of all these operations on a base
abbrev pub steps_through : ℕ → Endian → ℕ → List ℕ → List Op → List Step
steps_through page e size base done =
    steps_of_first page (index_through e size base) done (length done)

-- A log goes on from a base by way of operations: they were accepted one after the other, these
-- forms went out for their nodes, and their steps lead to this address and this index.
pub record GoesOnAs (flash : Flash) (base : List ℕ) (done : List Op) (forms : List (List ℕ))
    (from : ℕ) (x : Indexed) : Type 0 where
  pub is_base : IsBaseThrough flash.order flash.size flash.blocks base
  pub widths : AllByRecursion OpFits done
  pub accepted : AreAcceptedAs flash.page flash.order flash.size flash.blocks base done
      (length done) forms
  pub cursor_is : from
      ≡ end_of_all flash.size (resume_address flash.order flash.size flash.blocks base) forms
  pub index_is : x ≡ advanced_all (index_through flash.order flash.size base)
      (steps_through flash.page flash.order flash.size base done)

-- So many operations have steps, and these forms of their nodes fit, after earlier ones.
pub record FitAs (flash : Flash) (base : List ℕ) (before : List (List ℕ)) (from : ℕ)
    (x : Indexed) (ops : List Op) (n : ℕ) (forms : List (List ℕ)) : Type 0 where
  pub planned : n ≤ length (plans_of flash.page x ops)
  pub are : AreNodeForms flash.order (nodes_of x (steps_of_first flash.page x ops n)) forms
  pub fits : IsTrue (fit flash.size flash.blocks from forms)
  pub contents : length (unpacked_bytes flash.order flash.size base)
      + length (flat_map (form_content flash.order) (before ++ forms)) ≤ greatest_contents

-- A stop while more forms were being written, after all bytes of the earlier ones and k more,
-- leaves an image that mounts through as the file system after all earlier steps, and after those
-- of the others whose forms stand whole.
abbrev pub EarlierStandAs : Endian → ℕ → ℕ → List ℕ → List Step → List Step → List (List ℕ)
    → List (List ℕ) → Type 0
EarlierStandAs e size blocks base earlier steps before forms =
    let start = resume_address e size blocks base in
    let from = end_of_all size start before in
    let out = output e size from forms in
    NoFormWeak e forms
    → (k : ℕ) (image : List ℕ) → k ≤ length out → IsLeft e size blocks base start
    (output e size start before ++ out) (length (output e size start before) + k) image
    → MountsThroughAs e size image (after bytes (after bytes (state_through e size base) earlier)
    (take (count_whole from out k (places size from forms)) steps))

-- All steps survive, the earlier ones and those after them; and while those after them are written
-- the earlier ones stand.
pub record SurvivesAfterAs (e : Endian) (size blocks : ℕ) (base : List ℕ)
    (earlier steps : List Step) (before forms : List (List ℕ)) : Type 0 where
  pub all : SurvivesAs e size blocks base (earlier ++ steps) (before ++ forms)
  pub stand : EarlierStandAs e size blocks base earlier steps before forms

-- ---- the laws

-- A log that goes on from a mount through goes on soundly, and has done nothing yet.
pub record BeginsOn (flash : Flash) (m : Mount) (at : ℕ) : Type 0 where
  pub going : IsGoing flash.size flash.blocks at (indexed m)
  pub done : GoesOnAs flash m.image [] [] at (indexed m)

abbrev pub ThroughBegins : Type 0
ThroughBegins = (flash : Flash) (at : ℕ) (m : Mount)
    → IsMountThroughOf flash.order flash.size m → AreBytes m.image
    → resumes_at flash.order flash.size flash.blocks m ≡ Ok at → BeginsOn flash m at

-- What was done survives, and so do the operations that are accepted next, in whatever forms,
abbrev pub DoneSurvives : Type 0
DoneSurvives = (flash : Flash) (from n : ℕ) (base : List ℕ) (done ops : List Op)
    (before forms : List (List ℕ)) (x : Indexed)
    → IsPage flash.page → flash.page + (header_len + inode_len) ≤ flash.size
    → GoesOnAs flash base done before from x
    → AreBytes base → AllByRecursion OpFits (take n ops)
    → FitAs flash base before from x ops n forms
    → SurvivesAfterAs flash.order flash.size flash.blocks base
    (steps_through flash.page flash.order flash.size base done)
    (steps_of_first flash.page x ops n) before forms

-- and the log goes on after them.
abbrev pub DoneGoesOn : Type 0
DoneGoesOn = (flash : Flash) (from n : ℕ) (base : List ℕ) (done ops : List Op)
    (before forms : List (List ℕ)) (x : Indexed)
    → GoesOnAs flash base done before from x → AllByRecursion OpFits (take n ops)
    → FitAs flash base before from x ops n forms
    → GoesOnAs flash base (done ++ take n ops) (before ++ forms)
    (end_of_all flash.size from forms) (advanced_all x (steps_of_first flash.page x ops n))

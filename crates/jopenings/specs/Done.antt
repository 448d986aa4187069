-- What a log has done in openings of a base, in whatever forms, and what survives of that and of
-- what is done next.
use Rattle.std.specs.Prelude.{◌≡◌, ℕ, ◌+◌, ◌≤◌, IsTrue, List, [], ◌++◌, length, take}
use Rattle.std.specs.List.{AllByRecursion, flat_map}
use Rattle.flashbase.specs.Ranges.{AreBytes}
use Rattle.jnode.specs.Header.{header_len}
use Rattle.jnode.specs.Reading.{inode_len}
use Rattle.jscan.specs.Pages.{IsPage}
use Rattle.jsteps.specs.Steps.{bytes, after}
use Rattle.jsteps.specs.Nodes.{Indexed, nodes_of, advanced_all}
use Rattle.jsteps.specs.Refusals.{plans_of, steps_of_first}
use Rattle.jsteps.specs.Laws.{OpFits}
use Rattle.jsteps.specs.declared.op.Op.{Op}
use Rattle.jsteps.specs.declared.step.Step.{Step}
use Rattle.jexpand.specs.Expanded.{unpacked_bytes}
use Rattle.jview.specs.Through.{greatest_contents, MountsThroughAs}
use Rattle.jlog.specs.DoneThrough.{steps_through}
use Rattle.jlog.specs.Forms.{NoFormWeak}
use Rattle.jlog.specs.HeadlineThrough.{state_through, IsBaseThrough, index_through}
use Rattle.jlog.specs.Packed.{AreNodeForms}
use Rattle.jlog.specs.Session.{Flash}
use Rattle.jlog.specs.Through.{form_content}
use Rattle.jrests.specs.Left.{IsLeftOfShares, whole_in_shares, all_bytes}
use Rattle.jrests.specs.Openings.{AreOpeningsOf}
use Rattle.jrests.specs.Shares.{shares, fit_in}
use Rattle.jrests.specs.Survives.{AreAcceptedInOpenings, SurvivesInOpenings}
use Rattle.jrests.specs.declared.opening.Opening.{Opening}
use Rattle.jopenings.specs.After.{row_after_all}

-- rule: The log: What survives of a log that goes on in blank blocks and the rests of begun ones.
--   definitions: jopenings.Done.GoesOnInOpenings, jopenings.Done.EarlierStandInOpenings
--   laws: jopenings::laws::log_goes_on_in_openings, jopenings::laws::earlier_are_whole,
--   jopenings::laws::some_are_left_in_openings
-- A log goes on in a row of openings of a base by way of operations: they were accepted one after
-- the other, these forms went out for their nodes, and their steps lead to this index. The row that
-- is left is where it goes on.
pub record GoesOnInOpenings (flash : Flash) (base : List ℕ) (row : List Opening)
    (done : List Op) (forms : List (List ℕ)) (left : List Opening) (x : Indexed) : Type 0 where
  pub is_base : IsBaseThrough flash.order flash.size flash.blocks base
  pub openings : AreOpeningsOf flash.order flash.size flash.blocks base row
  pub widths : AllByRecursion OpFits done
  pub accepted : AreAcceptedInOpenings flash.page flash.order flash.size base row done
      (length done) forms
  pub left_is : left ≡ row_after_all flash.size row forms
  pub index_is : x ≡ advanced_all (index_through flash.order flash.size base)
      (steps_through flash.page flash.order flash.size base done)

-- So many operations have steps, and these forms of their nodes fit the row that is left after
-- earlier ones.
pub record FitInOpenings (flash : Flash) (base : List ℕ) (before : List (List ℕ))
    (left : List Opening) (x : Indexed) (ops : List Op) (n : ℕ) (forms : List (List ℕ)) :
    Type 0 where
  pub planned : n ≤ length (plans_of flash.page x ops)
  pub are : AreNodeForms flash.order (nodes_of x (steps_of_first flash.page x ops n)) forms
  pub fits : IsTrue (fit_in flash.size left forms)
  pub contents : length (unpacked_bytes flash.order flash.size base)
      + length (flat_map (form_content flash.order) (before ++ forms)) ≤ greatest_contents

-- A stop while more forms were being written, after all bytes of the earlier ones and k more,
-- leaves an image that mounts through as the file system after all earlier steps, and after those
-- of the others whose forms stand whole. Of the earlier forms some may be weak.
abbrev pub EarlierStandInOpenings : Flash → List ℕ → List Opening → List Step → List Step
    → List (List ℕ) → List (List ℕ) → Type 0
EarlierStandInOpenings flash base row earlier steps before forms =
    let e = flash.order in
    let size = flash.size in
    let left = row_after_all size row before in
    NoFormWeak e forms
    → (k : ℕ) (image : List ℕ)
    → IsLeftOfShares e size flash.blocks base (shares size row (before ++ forms))
    (all_bytes e size (shares size row before) + k) image
    → MountsThroughAs e size image (after bytes (after bytes (state_through e size base) earlier)
    (take (whole_in_shares e size (shares size left forms) k) steps))

-- All steps survive, the earlier ones and those after them; and while those after them are written
-- the earlier ones stand.
pub record SurvivesAfterInOpenings (flash : Flash) (base : List ℕ) (row : List Opening)
    (earlier steps : List Step) (before forms : List (List ℕ)) : Type 0 where
  pub all : SurvivesInOpenings flash.order flash.size flash.blocks base row (earlier ++ steps)
      (before ++ forms)
  pub stand : EarlierStandInOpenings flash base row earlier steps before forms

-- ---- the laws

-- In any openings of a base that mounts through a log may begin, and has done nothing yet.
abbrev pub OpeningsBegin : Type 0
OpeningsBegin = (flash : Flash) (base : List ℕ) (row : List Opening)
    → IsBaseThrough flash.order flash.size flash.blocks base
    → AreOpeningsOf flash.order flash.size flash.blocks base row
    → GoesOnInOpenings flash base row [] [] row (index_through flash.order flash.size base)

-- What was done survives, and so do the operations that are accepted next, in whatever forms,
abbrev pub DoneSurvivesInOpenings : Type 0
DoneSurvivesInOpenings = (flash : Flash) (n : ℕ) (base : List ℕ) (row left : List Opening)
    (done ops : List Op) (before forms : List (List ℕ)) (x : Indexed)
    → IsPage flash.page → flash.page + (header_len + inode_len) ≤ flash.size
    → GoesOnInOpenings flash base row done before left x
    → AreBytes base → AllByRecursion OpFits (take n ops)
    → FitInOpenings flash base before left x ops n forms
    → SurvivesAfterInOpenings flash base row
    (steps_through flash.page flash.order flash.size base done)
    (steps_of_first flash.page x ops n) before forms

-- and the log goes on after them in the row that is then left.
abbrev pub DoneGoesOnInOpenings : Type 0
DoneGoesOnInOpenings = (flash : Flash) (n : ℕ) (base : List ℕ) (row left : List Opening)
    (done ops : List Op) (before forms : List (List ℕ)) (x : Indexed)
    → GoesOnInOpenings flash base row done before left x → AllByRecursion OpFits (take n ops)
    → FitInOpenings flash base before left x ops n forms
    → GoesOnInOpenings flash base row (done ++ take n ops) (before ++ forms)
    (row_after_all flash.size left forms) (advanced_all x (steps_of_first flash.page x ops n))

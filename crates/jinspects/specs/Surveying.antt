-- What `map` finds out of an image before it prints: which of its nodes matter.
use Rattle.std.specs.Prelude.{◌≡◌, ℕ, Bool, true, List, Option, Result, Ok, Err}
use Rattle.jnode.specs.declared.order.Endian.{Endian}
use Rattle.jmount.specs.Mount.{Mount}
use Rattle.jthrough.specs.MountsThrough.{AnswersThrough}
use Rattle.jedge.specs.Commands.{read_told}
use Rattle.jedge.specs.Images.{IsViewRefused}
use Rattle.jedge.specs.Told.{Told, found_told}
use Rattle.jedge.specs.declared.fault.Fault.{Fault}
use Rattle.jedge.specs.declared.fault.Fault.TheVariants as fault
use Rattle.jmap.specs.Places.{Paths}
use Rattle.jinspects.specs.Live.{AreLive}
use Rattle.jinspects.specs.ShownPaths.{AreShownPaths}
use Rattle.jinspects.specs.declared.survey.Survey.{Survey}

-- where the nodes of an image lie that matter, the paths of its objects, and what is told beside
-- its map
pub record Surveyed : Type 0 where
  pub live : List ℕ
  pub paths : Paths
  pub told : Told

abbrev pub surveyed : Survey → Surveyed
surveyed survey = record {
  live = survey.live.items;
  paths = survey.paths;
  told = found_told survey.found;
}

-- an image mounts through its compression, these of its nodes matter, for a picture these are the
-- paths of its objects, and this is told of it
pub record IsSurveyOf (svg : Bool) (e : Endian) (size : ℕ) (image : List ℕ) (others : Option ℕ)
    (s : Surveyed) : Type 0 where
  pub mount : Mount
  pub mounts : AnswersThrough e size image (Ok mount)
  pub live : AreLive e size image s.live
  pub paths : svg ≡ true → AreShownPaths mount.state s.paths
  pub told : s.told ≡ read_told e size others mount

-- Such a survey; or this says why the image does not mount so. Memory may run out behind the mount.
abbrev pub Surveys : Bool → Endian → ℕ → List ℕ → Option ℕ → Result Surveyed Fault → Type 0
Surveys svg e size image others (Ok s) = IsSurveyOf svg e size image others s
Surveys svg e size image others (Err (fault.File file)) = ⊥
Surveys svg e size image others (Err (fault.NotRead file)) = ⊥
Surveys svg e size image others (Err (fault.NoNodes told count)) = ⊥
Surveys svg e size image others (Err (fault.NoSpace folder)) = ⊥
Surveys svg e size image others (Err (fault.Findings told findings)) = ⊥
Surveys svg e size image others (Err (fault.Refused why)) = IsViewRefused e size image why
Surveys svg e size image others (Err fault.Output) = ⊥
Surveys svg e size image others (Err fault.OutOfMemory) =
    (m : Mount) × AnswersThrough e size image (Ok m)

-- What compacting an image through its compression answers, and what goes out shows.
use Rattle.std.specs.Prelude.{ℕ, List, Result, Ok, Err}
use Rattle.flashbase.specs.Sinks.{SinkChange}
use Rattle.jnode.specs.declared.order.Endian.{Endian}
use Rattle.jexpand.specs.Expanded.{unpacked_bytes}
use Rattle.jmount.specs.Mount.{Mount}
use Rattle.jview.specs.Through.{IsMountThroughOf, MountsThroughAs}
use Rattle.jthrough.specs.Addressed.{addressed_nodes}
use Rattle.jthrough.specs.MountsThrough.{AnswersThrough}
use Rattle.jthrough.specs.View.{BeginWith}
use Rattle.jlog.specs.HeadlineThrough.{state_through}
use Rattle.jcompact.specs.Matters.{Placed, AreWhatMatters}
use Rattle.jcollect.specs.Planning.{IsPlan, IsNoPlan, IsSinkUntouched, CompactsNodes}
use Rattle.jcollect.specs.Through.{IsCompactThrough}
use Rattle.jcollect.specs.declared.collecting.Collected.{Collected}
use Rattle.jcollect.specs.declared.collecting.Plan.{Plan}
use Rattle.jcollect.specs.declared.fault.CollectFault.{CollectFault}
use Rattle.jcollect.specs.declared.fault.ThroughFault.{ThroughFault}
use Rattle.jcollect.specs.declared.fault.ThroughFault.TheVariants as through

-- ---- an image that is mounted through its compression

-- with the contents of its compressed nodes, one after another
pub record IsHeldThrough (e : Endian) (size : ℕ) (held : List ℕ) (m : Mount) : Type 0 where
  pub mount : IsMountThroughOf e size m
  pub contents : BeginWith (unpacked_bytes e size m.image) held

-- which of its nodes go out, or why none do
abbrev pub IsPlanThrough : Endian → ℕ → ℕ → Mount → Plan → Type 0
IsPlanThrough e size blocks m plan = IsPlan (addressed_nodes e size m.image) e size blocks m plan

abbrev pub IsUnplannedThrough : Endian → ℕ → ℕ → Mount → CollectFault → Type 0
IsUnplannedThrough e size blocks m f = IsNoPlan (addressed_nodes e size m.image) e size blocks m f

abbrev pub CompactsMount : Endian → ℕ → ℕ → Mount → SinkChange
    → Result Collected CollectFault → Type 0
CompactsMount e size blocks m sink answer =
    CompactsNodes (addressed_nodes e size m.image) e size blocks m sink answer

-- ---- an image

-- the image mounts through as this
abbrev pub MountsAsThis : Endian → ℕ → List ℕ → Mount → Type 0
MountsAsThis e size image m = AnswersThrough e size image (Ok m)

-- rule: The file system that nodes make: The image of the nodes that matter, compressed or not.
--   definitions: jcollect.PlanningThrough.CompactsThrough, jcollect.PlanningThrough.ShowsCompact,
--   jcollect.Planning.Compacts
--   code: jcollect::through::compact_through, jcollect::collecting::compact_into
--   laws: jcollect::laws::collected_is_compact, jcollect::laws::collected_through_is_compact
-- What compacting an image into a sink answers: it does not mount through, and nothing goes out; or
-- it does, and its nodes go out or are refused.
abbrev pub CompactsThrough : Endian → ℕ → ℕ → List ℕ → SinkChange
    → Result Collected ThroughFault → Type 0
CompactsThrough e size blocks image sink (Ok told) =
    (m : Mount) × MountsAsThis e size image m × CompactsMount e size blocks m sink (Ok told)
CompactsThrough e size blocks image sink (Err (through.Unmounted why)) =
    AnswersThrough e size image (Err why) × IsSinkUntouched sink
CompactsThrough e size blocks image sink (Err (through.Uncollected fault)) =
    (m : Mount) × MountsAsThis e size image m × CompactsMount e size blocks m sink (Err fault)

-- An image has just the nodes of another one that matter and no findings, shows the same tree, and
-- mounts, all through its compression.
pub record ShowsCompact (e : Endian) (size : ℕ) (image out : List ℕ) : Type 0 where
  pub kept : List Placed
  pub matter : AreWhatMatters (addressed_nodes e size image) kept
  pub compact : IsCompactThrough e size image out kept
  pub mounts : MountsThroughAs e size out (state_through e size out)

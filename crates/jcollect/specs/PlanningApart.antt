-- What compacting an image of which nodes clash answers, and what goes out shows: the nodes that
-- matter among those that stay.
use Rattle.std.specs.Prelude.{◌≡◌, ℕ, List, [], length, Result, Ok, Err}
use Rattle.std.specs.Io.KnownBytes.{Appends}
use Rattle.flashbase.specs.Device.{PutsPart, next_count}
use Rattle.flashbase.specs.Sinks.{SinkChange}
use Rattle.jnode.specs.declared.order.Endian.{Endian}
use Rattle.jscan.specs.Scans.{findings}
use Rattle.jclash.specs.declared.parting.LeftOut.{LeftOut}
use Rattle.jexpand.specs.Expanded.{expanded_nodes}
use Rattle.jmount.specs.Collected.{without_addresses}
use Rattle.jmount.specs.Find.{find}
use Rattle.jmount.specs.Mount.{Mount}
use Rattle.jmount.specs.StateOf.{state_of}
use Rattle.jmount.specs.Tree.{object}
use Rattle.jview.specs.Through.{MountsThroughAs}
use Rattle.jthrough.specs.Addressed.{addressed_nodes}
use Rattle.jlog.specs.HeadlineThrough.{state_through}
use Rattle.jcompact.specs.Matters.{Placed, AreWhatMatters, NamesLeadTo}
use Rattle.jcollect.specs.Planning.{ArePlanned, IsNoPlan, IsSinkUntouched}
use Rattle.jcollect.specs.PlanningThrough.{MountsAsThis}
use Rattle.jcollect.specs.Staying.{AnswersStaying, MountsStaying, StayOfImage}
use Rattle.jcollect.specs.Tiles.{copied_image}
use Rattle.jcollect.specs.declared.apart.CollectedApart.{CollectedApart}
use Rattle.jcollect.specs.declared.fault.CollectFault.TheVariants as fault
use Rattle.jcollect.specs.declared.fault.ThroughFault.{ThroughFault}
use Rattle.jcollect.specs.declared.fault.ThroughFault.TheVariants as through

-- ---- which nodes go out

-- Of the nodes of an image those stay that none of a higher address clashes with. Of these the ones
-- that matter go out to so many blocks, in so many bytes, of so many nodes in all.
pub record ArePlannedApart (e : Endian) (size blocks : ℕ) (image : List ℕ) (left : List LeftOut)
    (addresses : List ℕ) (count bytes : ℕ) : Type 0 where
  pub stay : List Placed
  pub mount : Mount
  pub mounts : MountsStaying e size image stay left mount
  pub planned : ArePlanned stay e size blocks mount addresses (length stay) bytes
  pub count_is : count ≡ length (addressed_nodes e size image)

-- or why none do: those that stay are not mounted, or they are, and do not go out
abbrev pub IsUnplannedApart : Endian → ℕ → ℕ → List ℕ → ThroughFault → Type 0
IsUnplannedApart e size blocks image (through.Unmounted why) =
    AnswersStaying e size image (Err why)
IsUnplannedApart e size blocks image (through.Uncollected f) =
    (stay : List Placed) × (left : List LeftOut) × (m : Mount)
    × MountsStaying e size image stay left m × IsNoPlan stay e size blocks m f

-- Where no nodes clash, what goes out is what goes out of the image without that.
abbrev pub PlannedApartIsPlanned : Type 0
PlannedApartIsPlanned = (e : Endian) (size blocks : ℕ) (image : List ℕ) (left : List LeftOut)
    (addresses : List ℕ) (count bytes : ℕ) (m : Mount)
    → ArePlannedApart e size blocks image left addresses count bytes → MountsAsThis e size image m
    → (left ≡ [])
    × ArePlanned (addressed_nodes e size m.image) e size blocks m addresses count bytes

-- ---- what goes out

-- rule: The file system that nodes make: The image of the nodes that matter among those that stay.
--   definitions: jcollect.PlanningApart.CompactsApart, jcollect.PlanningApart.ShowsApart
--   code: jcollect::apart::compact_apart, jcollect::apart::plan_apart
--   laws: jcollect::laws::planned_apart_shows, jcollect::laws::planned_apart_is_planned
-- What compacting an image without its clashing nodes into a sink answers: the image of those that
-- matter goes out; or a beginning, where the sink failed once; or nothing does.
abbrev pub CompactsApart : Endian → ℕ → ℕ → List ℕ → SinkChange
    → Result CollectedApart ThroughFault → Type 0
CompactsApart e size blocks image sink (Ok done) =
    (addresses : List ℕ)
    × ArePlannedApart e size blocks image done.left.items addresses done.told.nodes done.told.bytes
    × (done.told.kept ≡ length addresses)
    × Appends sink.old sink.new (copied_image e size image addresses)
    × (sink.now ≡ sink.before)
CompactsApart e size blocks image sink (Err (through.Unmounted why)) =
    IsUnplannedApart e size blocks image (through.Unmounted why) × IsSinkUntouched sink
CompactsApart e size blocks image sink (Err (through.Uncollected fault.Sink)) =
    (left : List LeftOut) × (addresses : List ℕ) × (count : ℕ) × (bytes : ℕ)
    × ArePlannedApart e size blocks image left addresses count bytes
    × PutsPart sink.old sink.new (copied_image e size image addresses)
    × (sink.now ≡ next_count sink.before)
CompactsApart e size blocks image sink (Err (through.Uncollected fault.ReadOnly)) =
    IsUnplannedApart e size blocks image (through.Uncollected fault.ReadOnly)
    × IsSinkUntouched sink
CompactsApart e size blocks image sink (Err (through.Uncollected fault.Geometry)) =
    IsUnplannedApart e size blocks image (through.Uncollected fault.Geometry)
    × IsSinkUntouched sink
CompactsApart e size blocks image sink (Err (through.Uncollected (fault.TooLong addr))) =
    IsUnplannedApart e size blocks image (through.Uncollected (fault.TooLong addr))
    × IsSinkUntouched sink
CompactsApart e size blocks image sink (Err (through.Uncollected (fault.Full needed free))) =
    IsUnplannedApart e size blocks image (through.Uncollected (fault.Full needed free))
    × IsSinkUntouched sink
CompactsApart e size blocks image sink (Err (through.Uncollected fault.OutOfMemory)) =
    IsSinkUntouched sink

-- ---- what it shows

-- An image has just those nodes of another one that matter among the ones that stay, and no
-- findings. It shows the tree that those that stay make, and mounts, so that no two of its nodes
-- clash.
pub record ShowsApart (e : Endian) (size : ℕ) (image : List ℕ) (left : List LeftOut)
    (out : List ℕ) : Type 0 where
  pub stay : List Placed
  pub parted : StayOfImage e size image stay left
  pub kept : List Placed
  pub matter : AreWhatMatters stay kept
  pub same : expanded_nodes e size out ≡ without_addresses kept
  pub clean : findings e size out ≡ []
  pub paths : (text : List ℕ)
      → find (state_through e size out) text ≡ find (state_of (without_addresses stay)) text
  pub objects : (i : ℕ) → NamesLeadTo (state_of (without_addresses stay)) i
      → object (state_through e size out) i ≡ object (state_of (without_addresses stay)) i
  pub mounts : MountsThroughAs e size out (state_through e size out)

abbrev pub PlannedApartShows : Type 0
PlannedApartShows = (e : Endian) (size blocks : ℕ) (image : List ℕ) (left : List LeftOut)
    (addresses : List ℕ) (count bytes : ℕ)
    → ArePlannedApart e size blocks image left addresses count bytes
    → ShowsApart e size image left (copied_image e size image addresses)

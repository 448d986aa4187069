-- An image of the nodes that matter, as `compact` writes it.
use Rattle.std.specs.Prelude.{◌≡◌, ℕ, List, length, Err}
use Rattle.jnode.specs.declared.order.Endian.{Endian}
use Rattle.jmount.specs.Mount.{Mount}
use Rattle.jthrough.specs.Addressed.{addressed_nodes}
use Rattle.jthrough.specs.MountsThrough.{AnswersThrough}
use Rattle.jcollect.specs.Planning.{ArePlanned}
use Rattle.jcollect.specs.PlanningThrough.{IsUnplannedThrough, MountsAsThis, ShowsCompact}
use Rattle.jcollect.specs.Tiles.{copied_image}
use Rattle.jcollect.specs.declared.fault.ThroughFault.{ThroughFault}
use Rattle.jcollect.specs.declared.fault.ThroughFault.TheVariants as through
use Rattle.jcalls.specs.Told.{through_told}
use Rattle.jcalls.specs.declared.told.Told.{Told}

-- The image mounts through its compression, and these are the nodes of it that matter, each with
-- the bytes that it has there, from the start of an erased flash of so many blocks on. So it shows
-- the same tree, and has no findings.
pub record IsCompacted (e : Endian) (size blocks : ℕ) (image made : List ℕ) : Type 0 where
  pub mount : Mount
  pub mounts : MountsAsThis e size image mount
  pub addresses : List ℕ
  pub count : ℕ
  pub planned : ArePlanned (addressed_nodes e size mount.image) e size blocks mount addresses count
      (length made)
  pub made_is : made ≡ copied_image e size mount.image addresses
  pub shows : ShowsCompact e size image made

-- why it has no such image: it does not mount through; or it does, and its nodes do not go out to
-- so many blocks. Memory may be wanting at any time.
abbrev pub IsUncompacted : Endian → ℕ → ℕ → List ℕ → ThroughFault → Type 0
IsUncompacted e size blocks image (through.Unmounted why) = AnswersThrough e size image (Err why)
IsUncompacted e size blocks image (through.Uncollected fault) =
    (m : Mount) × MountsAsThis e size image m × IsUnplannedThrough e size blocks m fault

abbrev pub CompactRefused : Endian → ℕ → ℕ → List ℕ → Told → Type 0
CompactRefused e size blocks image told = (why : ThroughFault)
    × IsUncompacted e size blocks image why × (told ≡ through_told why)

-- What mounting the deleted files of an image answers.
use Rattle.std.specs.Prelude.{◌≡◌, ℕ, IsTrue, List, Result, Ok, Err}
use Rattle.jnode.specs.declared.order.Endian.{Endian}
use Rattle.jscan.specs.Scans.{findings, is_read_only}
use Rattle.jexpand.specs.Expanded.{expanded_nodes}
use Rattle.jmount.specs.Mount.{Mount}
use Rattle.jmount.specs.StateOf.{state_of, tops_of}
use Rattle.jmount.specs.Tree.{is_directory}
use Rattle.jview.specs.Through.{IsSoundThrough}
use Rattle.jthrough.specs.MountsThrough.{AnswersThrough}
use Rattle.jthrough.specs.declared.fault.ViewFault.{ViewFault}
use Rattle.jdeleted.specs.Deleted.{AreDeleted, flat_nodes}

-- The image mounts through its compression, and this mount shows its deleted files alone, with its
-- own findings.
pub record IsMountOfDeleted (e : Endian) (size : ℕ) (mount : Mount) : Type 0 where
  pub sound : IsSoundThrough e size mount.image
  pub root : IsTrue (is_directory (state_of (expanded_nodes e size mount.image)) 1)
  pub numbers : List ℕ
  pub are : AreDeleted (state_of (expanded_nodes e size mount.image)) numbers
  pub state : mount.state ≡ state_of (flat_nodes (expanded_nodes e size mount.image) numbers)
  pub tops : mount.tops ≡ tops_of (flat_nodes (expanded_nodes e size mount.image) numbers)
  pub findings : mount.findings ≡ findings e size mount.image
  pub read_only : mount.read_only ≡ is_read_only e size mount.image

-- the answer: it refuses just what a mount through the compression does
abbrev pub AnswersDeleted : Endian → ℕ → List ℕ → Result Mount ViewFault → Type 0
AnswersDeleted e size image (Ok mount) = (mount.image ≡ image) × IsMountOfDeleted e size mount
AnswersDeleted e size image (Err why) = AnswersThrough e size image (Err why)

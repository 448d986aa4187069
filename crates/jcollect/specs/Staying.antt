-- An image of which nodes may clash, seen through its compression: which of its nodes stay, and the
-- file system that they make.
use Rattle.std.specs.Prelude.{◌≡◌, ℕ, ◌<◌, ◌≤◌, ◌==◌, Bool, not, IsTrue, IsFalse, List, [], filter, length, None, Result, Ok, Err}
use Rattle.std.specs.List.{list_any}
use Rattle.jnode.specs.declared.node.NodeRef.{NodeRef}
use Rattle.jnode.specs.declared.order.Endian.{Endian}
use Rattle.jscan.specs.Image.{is_block_size, greatest_image}
use Rattle.jscan.specs.Scans.{IsScannable, findings, is_read_only}
use Rattle.jclash.specs.Parting.{AreByAddress, Parts}
use Rattle.jclash.specs.declared.parting.LeftOut.{LeftOut}
use Rattle.jexpand.specs.Expanded.{unpacked_bytes}
use Rattle.jmount.specs.Collected.{without_addresses}
use Rattle.jmount.specs.Mount.{Mount}
use Rattle.jmount.specs.StateOf.{state_of}
use Rattle.jmount.specs.Tree.{is_directory}
use Rattle.jview.specs.Through.{first_fault, greatest_contents}
use Rattle.jthrough.specs.Addressed.{addressed_nodes}
use Rattle.jthrough.specs.MountsThrough.{AnswersAlone}
use Rattle.jthrough.specs.declared.fault.ViewFault.{ViewFault}
use Rattle.jthrough.specs.declared.fault.ViewFault.TheVariants as fault
use Rattle.jcompact.specs.Matters.{Placed}
use Rattle.jcollect.specs.declared.staying.Stayed.{Stayed}

-- ---- which nodes stay

abbrev pub is_left_out : List LeftOut → ℕ → Bool
is_left_out left addr = list_any (λ l. l.addr == addr) left

-- those of some nodes that are not left out
abbrev pub not_left_out : List LeftOut → List Placed → List Placed
not_left_out left ns = filter (λ n. not (is_left_out left n.0)) ns

-- Of these nodes those stay, at their addresses, that none of a higher address clashes with.
pub record StayPlaced (ns stay : List Placed) (left : List LeftOut) : Type 0 where
  pub parts : Parts ns (without_addresses stay) left
  pub placed : stay ≡ not_left_out left ns

-- However nodes are parted, those that are not left out are those that stay.
abbrev pub StayingArePlaced : Type 0
StayingArePlaced = (ns : List Placed) (stay : List NodeRef) (left : List LeftOut)
    → AreByAddress ns → Parts ns stay left → StayPlaced ns (not_left_out left ns) left

-- ---- the file system that they make

-- Nothing but a clash refuses the image.
pub record IsReadThrough (e : Endian) (size : ℕ) (image : List ℕ) : Type 0 where
  pub scannable : IsScannable size image
  pub none : first_fault e size image ≡ None
  pub contents : length (unpacked_bytes e size image) ≤ greatest_contents

-- so that its nodes are parted
pub record StayOfImage (e : Endian) (size : ℕ) (image : List ℕ) (stay : List Placed)
    (left : List LeftOut) : Type 0 where
  pub read : IsReadThrough e size image
  pub parted : StayPlaced (addressed_nodes e size image) stay left

-- the mount shows what these make
pub record IsMountOfStaying (e : Endian) (size : ℕ) (stay : List Placed) (m : Mount) : Type 0 where
  pub root : IsTrue (is_directory (state_of (without_addresses stay)) 1)
  pub state : m.state ≡ state_of (without_addresses stay)
  pub findings : m.findings ≡ findings e size m.image
  pub read_only : m.read_only ≡ is_read_only e size m.image

-- an image, its nodes that stay, and their mount
pub record MountsStaying (e : Endian) (size : ℕ) (image : List ℕ) (stay : List Placed)
    (left : List LeftOut) (m : Mount) : Type 0 where
  pub image_is : m.image ≡ image
  pub stays : StayOfImage e size image stay left
  pub mount : IsMountOfStaying e size stay m

-- and how many nodes there are with those that are left out
pub record IsStayed (e : Endian) (size : ℕ) (image : List ℕ) (stayed : Stayed) : Type 0 where
  pub mounts : MountsStaying e size image stayed.nodes.items stayed.left.items stayed.mounted
  pub count : stayed.count ≡ length (addressed_nodes e size image)

-- those that stay make no root directory
abbrev pub HasNoRootStaying : Endian → ℕ → List ℕ → Type 0
HasNoRootStaying e size image = (stay : List Placed) × (left : List LeftOut)
    × StayOfImage e size image stay left
    × IsFalse (is_directory (state_of (without_addresses stay)) 1)

-- rule: Compressed data: The mount of the nodes that stay, and why there is none: no clash refuses
--   it.
--   definitions: jcollect.Staying.AnswersStaying, jcollect.Staying.StayPlaced,
--   jthrough.MountsThrough.AnswersAlone
--   code: jcollect::staying::mount_staying
--   laws: jcollect::laws::staying_are_placed
-- the answer of a mount of the nodes that stay
abbrev pub AnswersStaying : Endian → ℕ → List ℕ → Result Stayed ViewFault → Type 0
AnswersStaying e size image (Ok stayed) = IsStayed e size image stayed
AnswersStaying e size image (Err fault.BlockSize) = IsFalse (is_block_size size)
AnswersStaying e size image (Err fault.TooLarge) =
    IsTrue (is_block_size size) × (greatest_image < length image)
AnswersStaying e size image (Err (fault.Incompatible addr nodetype)) =
    AnswersAlone e size image (fault.Incompatible addr nodetype)
AnswersStaying e size image (Err (fault.Compressed addr compr)) =
    AnswersAlone e size image (fault.Compressed addr compr)
AnswersStaying e size image (Err (fault.Data addr)) = AnswersAlone e size image (fault.Data addr)
AnswersStaying e size image (Err (fault.TooLong addr)) =
    AnswersAlone e size image (fault.TooLong addr)
AnswersStaying e size image (Err (fault.Clash addr)) = ⊥
AnswersStaying e size image (Err fault.RootKind) = HasNoRootStaying e size image
AnswersStaying e size image (Err fault.OutOfMemory) = IsScannable size image

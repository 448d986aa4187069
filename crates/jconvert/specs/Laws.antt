-- Laws of what goes out. Each is a statement: it holds since a public function's contract names it.
use Rattle.std.specs.Prelude.{◌≡◌, ◌↔◌, ℕ, IsTrue, IsFalse, List, None, Err}
use Rattle.flashbase.specs.Ranges.{AreBytes}
use Rattle.jnode.specs.declared.order.Endian.{Endian}
use Rattle.jmount.specs.Clash.{IsClashAt, NoneClash}
use Rattle.jmount.specs.Mounts.{IsFaultAt, MountsAs, Answers}
use Rattle.jmount.specs.StateOf.{state_of}
use Rattle.jmount.specs.Tree.{State, is_directory}
use Rattle.jmount.specs.declared.fault.MountFault.TheVariants as fault
use Rattle.jlog.specs.LeftLaws.{IsImageOfNodes, placed}
use Rattle.jview.specs.Through.{MountsThroughAs}
use Rattle.jexpand.specs.Expanded.{expanded_nodes}
use Rattle.jconvert.specs.Converting.{greatest_blocks, converted_image, convert_fault}

-- What goes out is an image of exactly the expanded nodes, in order at their places, weak or not
-- and of any length; nothing in it refuses a scan, or forbids to write after it.
abbrev pub ConvertedIsImage : Type 0
ConvertedIsImage =
    (e : Endian) (size : ℕ) (image : List ℕ) → AreBytes image → convert_fault e size image ≡ None
    → IsImageOfNodes e size (greatest_blocks size) (expanded_nodes e size image)
    (converted_image e size image)

-- Where no two of these clash and they make the root a directory, it mounts as the file system that
-- they make.
abbrev pub ConvertedMounts : Type 0
ConvertedMounts =
    (e : Endian) (size : ℕ) (image : List ℕ) → AreBytes image → convert_fault e size image ≡ None
    → NoneClash (expanded_nodes e size image)
    → IsTrue (is_directory (state_of (expanded_nodes e size image)) 1)
    → MountsAs e size (converted_image e size image) (state_of (expanded_nodes e size image))

-- Where they do not make the root a directory, a mount answers that,
abbrev pub ConvertedHasNoRoot : Type 0
ConvertedHasNoRoot =
    (e : Endian) (size : ℕ) (image : List ℕ) → AreBytes image → convert_fault e size image ≡ None
    → NoneClash (expanded_nodes e size image)
    → IsFalse (is_directory (state_of (expanded_nodes e size image)) 1)
    → Answers e size (converted_image e size image) (Err fault.RootKind)

-- and a clash exactly at the places of nodes that clash with one below.
abbrev pub ConvertedClashes : Type 0
ConvertedClashes =
    (e : Endian) (size at : ℕ) (image : List ℕ) → AreBytes image → convert_fault e size image ≡ None
    → IsFaultAt e size (converted_image e size image) at (fault.Clash at)
    ↔ IsClashAt (placed e size 0 (expanded_nodes e size image)) at

-- Where an image is not refused, mounting it through and mounting what goes out are one.
abbrev pub ThroughIsConverted : Type 0
ThroughIsConverted = (e : Endian) (size : ℕ) (image : List ℕ) (s : State) → AreBytes image
    → convert_fault e size image ≡ None
    → MountsThroughAs e size image s ↔ MountsAs e size (converted_image e size image) s

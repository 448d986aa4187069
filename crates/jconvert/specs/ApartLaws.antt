-- Laws of what goes out without nodes that clash. Each is a statement: it holds since a public
-- function's contract names it.
use Rattle.std.specs.Prelude.{◌≡◌, ℕ, IsTrue, IsFalse, List, map, None, Err}
use Rattle.flashbase.specs.Ranges.{AreBytes}
use Rattle.jnode.specs.declared.node.NodeRef.{NodeRef}
use Rattle.jnode.specs.declared.order.Endian.{Endian}
use Rattle.jmount.specs.Mounts.{MountsAs, Answers}
use Rattle.jmount.specs.StateOf.{state_of}
use Rattle.jmount.specs.Tree.{is_directory}
use Rattle.jmount.specs.declared.fault.MountFault.TheVariants as fault
use Rattle.jclash.specs.Parting.{AreByAddress, Parts}
use Rattle.jclash.specs.declared.parting.LeftOut.{LeftOut}
use Rattle.jlog.specs.LeftLaws.{IsImageOfNodes}
use Rattle.jexpand.specs.Expanded.{expanded_nodes}
use Rattle.jconvert.specs.Apart.{HaveRoom, image_of_nodes, located_nodes}
use Rattle.jconvert.specs.Converting.{convert_fault, greatest_blocks}

-- The expanded nodes stand in the order of their addresses.
abbrev pub LocatedAreByAddress : Type 0
LocatedAreByAddress =
    (e : Endian) (size : ℕ) (image : List ℕ) → AreByAddress (located_nodes e size image)

abbrev pub LocatedAreExpanded : Type 0
LocatedAreExpanded = (e : Endian) (size : ℕ) (image : List ℕ)
    → map (λ n. n.1) (located_nodes e size image) ≡ expanded_nodes e size image

-- Of an image that is not refused there is room for those that stay.
abbrev pub StayHaveRoom : Type 0
StayHaveRoom = (e : Endian) (size : ℕ) (image : List ℕ) (stay : List NodeRef) (left : List LeftOut)
    → convert_fault e size image ≡ None → Parts (located_nodes e size image) stay left
    → HaveRoom e size stay

-- An image that is not refused, and its nodes: those that stay, and those that are left out.
pub record IsParted (e : Endian) (size : ℕ) (image : List ℕ) (stay : List NodeRef)
    (left : List LeftOut) : Type 0 where
  pub bytes : AreBytes image
  pub accepted : convert_fault e size image ≡ None
  pub parts : Parts (located_nodes e size image) stay left

-- What goes out for those that stay is an image of just these, in order,
abbrev pub ApartIsImage : Type 0
ApartIsImage = (e : Endian) (size : ℕ) (image : List ℕ) (stay : List NodeRef) (left : List LeftOut)
    → IsParted e size image stay left
    → IsImageOfNodes e size (greatest_blocks size) stay (image_of_nodes e size stay)

-- and it mounts as the file system that they make, where they make the root a directory:
abbrev pub ApartMounts : Type 0
ApartMounts = (e : Endian) (size : ℕ) (image : List ℕ) (stay : List NodeRef) (left : List LeftOut)
    → IsParted e size image stay left → IsTrue (is_directory (state_of stay) 1)
    → MountsAs e size (image_of_nodes e size stay) (state_of stay)

-- where they do not, a mount answers that. So no two of them clash.
abbrev pub ApartHasNoRoot : Type 0
ApartHasNoRoot = (e : Endian) (size : ℕ) (image : List ℕ) (stay : List NodeRef)
    (left : List LeftOut) → IsParted e size image stay left
    → IsFalse (is_directory (state_of stay) 1)
    → Answers e size (image_of_nodes e size stay) (Err fault.RootKind)

-- The numbers of a tree's devices. No object of a file system has one: it is the data of a node.
use Rattle.std.specs.Prelude.{◌≡◌, ℕ, List, Contains, Option, Some, option_map, Ok}
use Rattle.std.specs.String.{string_bytes}
use Rattle.jnode.specs.declared.node.Fill.{Fill}
use Rattle.jnode.specs.declared.node.Fill.TheVariants.{Data}
use Rattle.jnode.specs.declared.node.NodeRef.{NodeRef}
use Rattle.jnode.specs.declared.order.Endian.{Endian}
use Rattle.jmount.specs.Find.{find}
use Rattle.jmount.specs.StateOf.{inodes, latest, versions_of}
use Rattle.jmount.specs.Tree.{State}
use Rattle.jsteps.specs.Device.{device_number}
use Rattle.jfolder.specs.declared.tree.Item.{Item}
use Rattle.jfolder.specs.declared.tree.What.{What}
use Rattle.jfolder.specs.declared.tree.What.TheVariants as what

-- the data of the newest inode node of a number
abbrev pub newest_fill : List NodeRef → ℕ → Option Fill
newest_fill ns i = option_map (λ node. node.fill) (latest (versions_of (inodes ns) i))

-- The path of a device leads to an object whose newest node has the device's number as its data.
abbrev pub HasDeviceNumber : Endian → List NodeRef → State → List ℕ → What → Type 0
HasDeviceNumber e ns s path (what.Device device major minor) = (number : ℕ)
    × (find s path ≡ Ok number)
    × (newest_fill ns number ≡ Some (Data (device_number e major minor)))
HasDeviceNumber e ns s path what.Directory = Unit {0}
HasDeviceNumber e ns s path (what.Regular file) = Unit {0}
HasDeviceNumber e ns s path what.Fifo = Unit {0}
HasDeviceNumber e ns s path what.Socket = Unit {0}
HasDeviceNumber e ns s path (what.Symlink target) = Unit {0}
HasDeviceNumber e ns s path (what.Link first) = Unit {0}

-- so it is of each item, in the nodes of a byte order that make a file system
abbrev pub HaveDeviceNumbers : Endian → List NodeRef → State → List Item → Type 0
HaveDeviceNumbers e ns s items =
    (i : Item) → Contains items i → HasDeviceNumber e ns s (string_bytes i.path) i.what

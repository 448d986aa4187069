-- A file system that holds a tree, and nothing else.
use Rattle.std.specs.Prelude.{◌≡◌, ◌<◌, ◌+◌, ◌⊎◌, ℕ, List, [], ◌∷◌, Contains, Option, Some, None, Ok, true}
use Rattle.std.specs.String.{string_bytes}
use Rattle.jnode.specs.declared.order.Endian.{Endian}
use Rattle.jmount.specs.Device.{number_held}
use Rattle.jmount.specs.Find.{find}
use Rattle.jmount.specs.Tree.{ObjectOf, State, object, is_there}
use Rattle.jmount.specs.declared.object.DeviceBytes.{DeviceBytes}
use Rattle.jsteps.specs.Device.{device_mode, device_number}
use Rattle.jfolder.specs.declared.tree.Attributes.{Attributes}
use Rattle.jfolder.specs.declared.tree.Item.{Item}
use Rattle.jfolder.specs.declared.tree.What.{What}
use Rattle.jfolder.specs.declared.tree.What.TheVariants as what
use Rattle.jtree.specs.Making.{Files, bytes_of_what}

-- the mode of an object: its kind's bits with its permissions, and a symlink has all permissions
abbrev pub mode_of_what : ℕ → What → ℕ
mode_of_what permissions what.Directory = 0o040000 + permissions
mode_of_what permissions (what.Device device major minor) = device_mode device + permissions
mode_of_what permissions what.Fifo = 0o010000 + permissions
mode_of_what permissions what.Socket = 0o140000 + permissions
mode_of_what permissions (what.Symlink target) = 0o120777
mode_of_what permissions _ = 0o100000 + permissions

-- the number of a device, as it lies in this byte order
abbrev pub number_of_what : Endian → What → Option DeviceBytes
number_of_what e (what.Device device major minor) = number_held (device_number e major minor)
number_of_what e _ = None

-- the object with these attributes and bytes, which is no device
abbrev pub object_with : ℕ → Attributes → List ℕ → ObjectOf (List ℕ)
object_with mode a bytes = record {
  mode = mode;
  uid = a.uid;
  gid = a.gid;
  atime = a.time;
  mtime = a.time;
  ctime = a.time;
  device = None;
  body = bytes;
}

abbrev pub root_object : Attributes → ObjectOf (List ℕ)
root_object a = object_with (0o040000 + a.mode) a []

abbrev pub object_of_what : Endian → Files → Attributes → What → ObjectOf (List ℕ)
object_of_what e files a w = record (object_with (mode_of_what a.mode w) a (bytes_of_what files w))
    { device = number_of_what e w }

-- the first path of an item's object: a link's is the one that it names
abbrev pub first_path : List ℕ → What → List ℕ
first_path path (what.Link first) = string_bytes first
first_path path _ = path

abbrev pub first_path_of : Item → List ℕ
first_path_of i = first_path (string_bytes i.path) i.what

-- a path leads to this object, which is not the root
pub record LeadsTo (s : State) (path : List ℕ) (o : ObjectOf (List ℕ)) : Type 0 where
  pub number : ℕ
  pub found : find s path ≡ Ok number
  pub below_root : 1 < number
  pub object : object s number ≡ Some o

-- an item's path leads to its object, and a link's to where its first path leads
abbrev pub HoldsObject : Endian → Files → State → List ℕ → Attributes → What → Type 0
HoldsObject e files s path a (what.Link first) = find s path ≡ find s (string_bytes first)
HoldsObject e files s path a w = LeadsTo s path (object_of_what e files a w)

abbrev pub HoldsItem : Endian → Files → State → Item → Type 0
HoldsItem e files s i = HoldsObject e files s (string_bytes i.path) i.attributes i.what

-- rule: Listings: The listing of a tree makes that tree.
--   definitions: jtree.Holding.HoldsTree, jtree.Numbers.HasDeviceNumber, jtree.Making.ops_with
--   code: jfolder::text::put_listing
--   laws: jtree::laws::listing_makes_tree, jtree::laws::image_holds_tree,
--   jtree::laws::put_out_holds_tree
-- The root has its attributes, each item is there, items share an object only by links, and nothing
-- else is there: no other path leads anywhere, and each object but the root's is an item's.
pub record HoldsTree (e : Endian) (files : Files) (root : Attributes) (items : List Item)
    (s : State) : Type 0 where
  pub root_is : object s 1 ≡ Some (root_object root)
  pub items_are : (i : Item) → Contains items i → HoldsItem e files s i
  pub apart : (i j : Item) → Contains items i → Contains items j
      → find s (string_bytes i.path) ≡ find s (string_bytes j.path)
      → first_path_of i ≡ first_path_of j
  pub nothing_else : (path : List ℕ) (number : ℕ) → find s path ≡ Ok number
      → (path ≡ 47 ∷ []) ⊎ ((i : Item) × Contains items i × (string_bytes i.path ≡ path))
  pub no_more_objects : (number : ℕ) → is_there s number ≡ true → (number ≡ 1)
      ⊎ ((i : Item) × Contains items i × (find s (string_bytes i.path) ≡ Ok number))

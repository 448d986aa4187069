-- Where in the tree the object of a node is: what the picture says behind the words for the node.
use Rattle.std.specs.Prelude.{ℕ, ◌==◌, if◌then◌else◌, Vec, List, [], ◌++◌, length, codes, Option, Some, None, option_map}
use Rattle.std.specs.BTreeMap.{BTreeMap, get}
use Rattle.std.specs.List.{flat_map}
use Rattle.std.specs.Ordering.{nat_cmp}
use Rattle.std.specs.declared.alloc.Global.{Global}
use Rattle.jnode.specs.Order.{number_at}
use Rattle.jnode.specs.declared.node.Seen.TheVariants as seen
use Rattle.jnode.specs.declared.order.Endian.{Endian}
use Rattle.jscan.specs.declared.extent.ExtentKind.{ExtentKind}
use Rattle.jscan.specs.declared.extent.ExtentKind.TheVariants.{Tiled}
use Rattle.jmap.specs.NodeTexts.{first_fields, markup_name}

-- ---- paths

abbrev pub slash_name : List ℕ → List ℕ
slash_name name = codes "/" ++ markup_name name

-- the names on the way from the root, each behind a slash; the root has none
abbrev pub names_text : List (List ℕ) → List ℕ
names_text names = flat_map slash_name names

-- texts of paths by the numbers of their objects
abbrev pub Paths : Type 0
Paths = BTreeMap ℕ (Vec ℕ Global)

abbrev pub path_in : Paths → ℕ → Option (List ℕ)
path_in paths ino = option_map (λ path. path.items) (get nat_cmp paths ino)

-- ---- nodes

abbrev pub path_or_slash : List ℕ → List ℕ
path_or_slash path = if length path == 0 then codes "/" else path

-- an object of which this is known is there
unfoldable pub object_place : Option (List ℕ) → List ℕ
object_place None = []
object_place (Some path) = codes ", " ++ path_or_slash path

-- a name in a directory of which this is known is there
unfoldable pub name_place : Option (List ℕ) → List ℕ → List ℕ
name_place None name = []
name_place (Some path) name = (codes ", " ++ path) ++ slash_name name

abbrev pub place_text : Endian → List ℕ → Paths → ℕ → ExtentKind → List ℕ
place_text e image paths addr (Tiled (seen.Entry d)) = name_place (path_in paths d.pino) d.name
place_text e image paths addr (Tiled (seen.Inode i)) = object_place (path_in paths i.ino)
place_text e image paths addr (Tiled (seen.Compressed compr)) =
    object_place (path_in paths (number_at e 4 12 (first_fields image addr)))
place_text e image paths addr _ = []

-- What the picture of an image says of each stretch: in text that is plain in XML.
use Rattle.std.specs.Prelude.{ℕ, ◌+◌, ◌==◌, if◌then◌else◌, List, [], ◌++◌, take, drop, codes, decimal}
use Rattle.std.specs.List.{flat_map}
use Rattle.flashbase.specs.Bytes.{erased}
use Rattle.jnode.specs.Order.{number_at}
use Rattle.jnode.specs.declared.node.Dirent.{Dirent}
use Rattle.jnode.specs.declared.node.InodeNode.{InodeNode}
use Rattle.jnode.specs.declared.node.Seen.{Seen}
use Rattle.jnode.specs.declared.node.Seen.TheVariants as seen
use Rattle.jnode.specs.declared.order.Endian.{Endian}
use Rattle.jscan.specs.declared.extent.ExtentKind.{ExtentKind}
use Rattle.jscan.specs.declared.extent.ExtentKind.TheVariants.{Tiled, Erased, OtherOrder, Dirt}
use Rattle.jline.specs.Damages.{damage_name}
use Rattle.jline.specs.Words.{hex, escaped_byte}

-- ---- names

-- The bytes of a name as a line shows them, and `&`, `<` and `>`, which mean something in XML, as
-- escapes too.
abbrev pub markup_byte : ℕ → List ℕ
markup_byte b =
    if b == 38 then codes "\\x26" else
    if b == 60 then codes "\\x3c" else
    if b == 62 then codes "\\x3e" else escaped_byte b

abbrev pub markup_name : List ℕ → List ℕ
markup_name name = flat_map markup_byte name

-- ---- nodes

unfoldable pub version_text : ℕ → ℕ → List ℕ
version_text ino version = codes "inode " ++ decimal ino ++ codes ", version " ++ decimal version

unfoldable pub entry_numbers : Dirent → List ℕ
entry_numbers d =
    codes " in directory " ++ decimal d.pino ++ codes ", " ++ version_text d.ino d.version

unfoldable pub entry_text : Dirent → List ℕ
entry_text d = codes "entry " ++ markup_name d.name ++ entry_numbers d

unfoldable pub inode_text : InodeNode → List ℕ
inode_text i = version_text i.ino i.version ++ codes ", bytes " ++ decimal i.offset ++ codes " to "
    ++ decimal (i.offset + i.dsize)

-- the first 20 bytes of the node at an address; what the image lacks is erased
unfoldable pub first_fields : List ℕ → ℕ → List ℕ
first_fields image addr = take 20 (drop addr image ++ erased 20)

-- the number and the version of the inode node at an address, whose data are compressed
unfoldable pub compressed_text : Endian → List ℕ → ℕ → List ℕ
compressed_text e image addr =
    let node = first_fields image addr in
    version_text (number_at e 4 12 node) (number_at e 4 16 node) ++ codes ", compressed"

abbrev pub type_text : ℕ → List ℕ
type_text nodetype = codes "node of type " ++ hex 4 nodetype

abbrev pub node_title : Endian → List ℕ → ℕ → Seen → List ℕ
node_title e image addr (seen.Entry d) = entry_text d
node_title e image addr (seen.Inode i) = inode_text i
node_title e image addr seen.Marker = codes "clean marker"
node_title e image addr seen.Padding = codes "padding"
node_title e image addr seen.Obsolete = codes "node that is marked obsolete"
node_title e image addr seen.Attribute = codes "extended attribute"
node_title e image addr (seen.Skippable nodetype) = type_text nodetype
node_title e image addr (seen.ReadOnly nodetype) = type_text nodetype
node_title e image addr (seen.Incompatible nodetype) = type_text nodetype
node_title e image addr (seen.Compressed compr) = compressed_text e image addr
node_title e image addr (seen.Damaged which) = codes "damaged node: " ++ damage_name which

-- ---- any stretch

abbrev pub what_text : Endian → List ℕ → ℕ → ExtentKind → List ℕ
what_text e image addr (Tiled what) = node_title e image addr what
what_text e image addr Erased = codes "erased"
what_text e image addr OtherOrder = codes "words of the other byte order"
what_text e image addr Dirt = codes "dirt"

-- ---- what a line holds

-- the name that an extent's title shows, if it shows one
abbrev pub titled_name : ExtentKind → List ℕ
titled_name (Tiled (seen.Entry d)) = d.name
titled_name _ = []

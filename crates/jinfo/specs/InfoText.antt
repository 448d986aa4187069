-- The lines of `info`.
use Rattle.std.specs.Prelude.{◌≡◌, ℕ, ◌<◌, ◌≤◌, List, length, ◌++◌, codes, decimal, Option, Some, None, Result, Ok, Err}
use Rattle.std.specs.Io.KnownBytes.{Appends}
use Rattle.flashbase.specs.Device.{PutsPart, next_count}
use Rattle.jnode.specs.declared.order.Endian.{Endian}
use Rattle.jnode.specs.declared.order.Endian.TheVariants.{Little, Big}
use Rattle.jscan.specs.Image.{greatest_image}
use Rattle.jinfo.specs.Infos.{info_of, order_of}
use Rattle.jinfo.specs.declared.nodes.NodeCounts.{NodeCounts}
use Rattle.jinfo.specs.declared.storage.DataCounts.{DataCounts}
use Rattle.jinfo.specs.declared.highest.Highest.{Highest}
use Rattle.jinfo.specs.declared.sizes.SizeRange.{SizeRange}
use Rattle.jinfo.specs.declared.info.Info.{Info}
use Rattle.jinfo.specs.declared.lines.InfoFault.{InfoFault}
use Rattle.jinfo.specs.declared.lines.InfoFault.TheVariants.{TooLarge, Output}

unfoldable pub bytes_line : ℕ → List ℕ
bytes_line bytes = codes "bytes " ++ decimal bytes ++ codes "\n"

abbrev pub order_name : Endian → List ℕ
order_name Little = codes "little"
order_name Big = codes "big"

-- the image's order, how many nodes there are in it, and how many in the other one
unfoldable pub order_line : Option Endian → ℕ → ℕ → List ℕ
order_line None nodes other = codes "order none\n"
order_line (Some order) nodes other =
    codes "order " ++ order_name order ++ codes " nodes " ++ decimal nodes ++ codes " other "
    ++ decimal other ++ codes "\n"

unfoldable pub sizes_line : Option SizeRange → ℕ → List ℕ
sizes_line None markers = codes "block unknown\n"
sizes_line (Some range) markers =
    codes "block from " ++ decimal range.least ++ codes " to " ++ decimal range.greatest
    ++ codes " markers " ++ decimal markers ++ codes "\n"

unfoldable pub nodes_line : NodeCounts → List ℕ
nodes_line counts =
    codes "nodes" ++ codes " entries " ++ decimal counts.entries ++ codes " inodes "
    ++ decimal counts.inodes
    ++ codes " obsolete " ++ decimal counts.obsolete ++ codes " damaged " ++ decimal counts.damaged
    ++ codes " other " ++ decimal counts.other ++ codes "\n"

unfoldable pub data_line : DataCounts → List ℕ
data_line counts =
    codes "data none " ++ decimal counts.none ++ codes " zero " ++ decimal counts.zero
    ++ codes " rtime " ++ decimal counts.rtime
    ++ codes " zlib " ++ decimal counts.zlib ++ codes " lzo " ++ decimal counts.lzo
    ++ codes " lzma " ++ decimal counts.lzma ++ codes " other " ++ decimal counts.other
    ++ codes "\n"

unfoldable pub highest_line : Highest → List ℕ
highest_line numbers = codes "highest" ++ codes " inode " ++ decimal numbers.ino
    ++ codes " version " ++ decimal numbers.version ++ codes "\n"

-- rule: What is printed: The lines of `info`.
--   definitions: jinfo.InfoText.info_lines
--   code: jinfo::lines::put_info
-- what is told of an image, a line each
unfoldable pub info_lines : Info → List ℕ
info_lines info =
    bytes_line info.bytes ++ (order_line info.order info.census.nodes.all info.other
    ++ (sizes_line info.census.sizes info.census.markers ++ (nodes_line info.census.nodes
    ++ (data_line info.census.storage ++ highest_line info.census.highest))))

abbrev pub info_text : List ℕ → List ℕ
info_text image = info_lines (info_of image)

-- ---- what a call puts

-- All lines of an image that is not too long; the answer is its byte order. Where the sink fails, a
-- beginning of them went out.
abbrev pub PutsInfo : List ℕ → Option (List ℕ) → Option (List ℕ) → ℕ → ℕ
    → Result (Option Endian) InfoFault → Type 0
PutsInfo image old new before now (Ok order) =
    (length image ≤ greatest_image) × (order ≡ order_of image) × Appends old new (info_text image)
    × (now ≡ before)
PutsInfo image old new before now (Err Output) =
    (length image ≤ greatest_image) × PutsPart old new (info_text image) × (now ≡ next_count before)
PutsInfo image old new before now (Err TooLarge) =
    (greatest_image < length image) × (new ≡ old) × (now ≡ before)

-- The shapes of the lines of each command, as jffs2_image.5 has them. The first one that a line has
-- counts.
use Rattle.std.specs.Prelude.{List, [], ◌∷◌, ◌++◌, codes}
use Rattle.jjson.specs.Shapes.{Shape}
use Rattle.jjson.specs.declared.lines.Lines.{Lines}
use Rattle.jjson.specs.declared.lines.Lines.TheVariants as lines
use Rattle.jjson.specs.declared.table.Shape.{Shape as Row}

-- a row of the table, as a shape
abbrev pub row_of : Row → Shape
row_of row = (row.0.now, row.1.now)

-- the tree of `ls`
unfoldable pub tree_shapes : List Shape
tree_shapes =
    (codes "object", codes "=kind =mode #uid #gid #size #mtime #ino /path")
    ∷ (codes "object", codes "=kind =mode #uid #gid #size #mtime #ino /path ?again")
    ∷ (codes "object", codes "=kind =mode #uid #gid ^size #mtime #ino /path -> ?long")
    ∷ (codes "object", codes "=kind =mode #uid #gid #size #mtime #ino /path >target")
    ∷ (codes "object", codes "=kind =mode #uid #gid #size #mtime #ino /path -> %target")
    ∷ []

-- the report and the verdict of `check`
unfoldable pub report_shapes : List Shape
report_shapes =
    (codes "block", codes "block #number")
    ∷ (codes "marker", codes "@address marker #length")
    ∷ (codes "padding", codes "@address padding #length")
    ∷ (
      codes "entry",
      codes "@address entry #length pino #pino version #version ino #ino type #type name %name",
    )
    ∷ (
      codes "inode",
      codes "@address inode #length ino #ino version #version mode =mode size #size "
          ++ codes "offset #offset data #data =fill",
    )
    ∷ (codes "compressed", codes "@address compressed #length compr #compr")
    ∷ (codes "obsolete", codes "@address obsolete #length")
    ∷ (codes "attribute", codes "@address attribute #length")
    ∷ (codes "skipped", codes "@address skipped #length type =type")
    ∷ (codes "read-only", codes "@address read-only #length type =type")
    ∷ (codes "incompatible", codes "@address incompatible #length type =type")
    ∷ (codes "damaged", codes "@address damaged #length =which")
    ∷ (codes "erased", codes "@address erased #length")
    ∷ (codes "other-order", codes "@address other-order #length")
    ∷ (codes "dirt", codes "@address dirt #length")
    ∷ (
      codes "total",
      codes "total blocks #blocks entries #entries inodes #inodes findings #findings",
    )
    ∷ (codes "mount", codes "mount =verdict")
    ∷ (codes "mount", codes "mount =verdict =access")
    ∷ (codes "mount", codes "mount =verdict =code =error")
    ∷ (codes "mount", codes "mount =verdict =code =error at @address")
    ∷ (codes "mount", codes "mount =verdict =code =error at @address type =type")
    ∷ (codes "mount", codes "mount =verdict =code =error at @address compr #compr")
    ∷ (codes "dangling", codes "dangling pino #pino ino #ino name %name")
    ∷ (codes "shape", codes "shape =verdict")
    ∷ []

-- the parameters of `info`
unfoldable pub parameters_shapes : List Shape
parameters_shapes =
    (codes "bytes", codes "bytes #bytes")
    ∷ (codes "order", codes "order =order nodes #nodes other #other")
    ∷ (codes "order", codes "order =order")
    ∷ (codes "block", codes "block from #from to #to markers #markers")
    ∷ (codes "block", codes "block =block")
    ∷ (
      codes "nodes",
      codes "nodes entries #entries inodes #inodes obsolete #obsolete damaged #damaged "
          ++ codes "other #other",
    )
    ∷ (
      codes "data",
      codes "data none #none zero #zero rtime #rtime zlib #zlib lzo #lzo lzma #lzma other #other",
    )
    ∷ (codes "highest", codes "highest inode #inode version #version")
    ∷ (codes "spare", codes "spare #spare after each #page")
    ∷ (
      codes "region",
      codes "region from =from to =to order =order block from #block_from to #block_to",
    )
    ∷ (codes "region", codes "region from =from to =to order =order block =block")
    ∷ (codes "more", codes "more regions than these #regions")
    ∷ []

-- the differences of `diff` and `verify`
unfoldable pub differences_shapes : List Shape
differences_shapes =
    (codes "bytes", codes "* /path at #offset")
    ∷ (codes "device", codes "* /path device =from to =to")
    ∷ (codes "object", codes "=sign =kind =mode #uid #gid #size /path")
    ∷ (codes "object", codes "=sign =kind =mode #uid #gid #size /path ?again")
    ∷ (codes "object", codes "=sign =kind =mode #uid #gid ^size /path -> ?long")
    ∷ (codes "object", codes "=sign =kind =mode #uid #gid #size /path >target")
    ∷ (codes "object", codes "=sign =kind =mode #uid #gid #size /path -> %target")
    ∷ (codes "object", codes "=sign =kind =mode #uid #gid #size #mtime /path")
    ∷ (codes "object", codes "=sign =kind =mode #uid #gid #size #mtime /path ?again")
    ∷ (codes "object", codes "=sign =kind =mode #uid #gid ^size #mtime /path -> ?long")
    ∷ (codes "object", codes "=sign =kind =mode #uid #gid #size #mtime /path >target")
    ∷ (codes "object", codes "=sign =kind =mode #uid #gid #size #mtime /path -> %target")
    ∷ []

-- what `damage` prints
unfoldable pub damage_shapes : List Shape
damage_shapes = (
  codes "data-crc",
  codes "@address data-crc ino #ino version #version bytes #from to #to hides /path",
)
    ∷ (
      codes "data-crc",
      codes "@address data-crc ino #ino version #version bytes #from to #to hides =hides",
    )
    ∷ (
      codes "data-crc",
      codes "@address data-crc ino #ino version #version bytes #from to #to and #more more paths",
    )
    ∷ (
      codes "data-crc",
      codes "@address data-crc ino #ino version #version bytes #from to #to has =paths path",
    )
    ∷ (
      codes "name-crc",
      codes "@address name-crc pino #pino version #version ino #ino lost in /path",
    )
    ∷ (codes "name-crc", codes "@address name-crc pino #pino version #version ino #ino lost")
    ∷ (codes "unknown", codes "@address =which unknown")
    ∷ (codes "gap", codes "gap ino #ino bytes #from to #to in /path")
    ∷ (codes "gap", codes "gap ino #ino bytes #from to #to and #more more paths")
    ∷ (codes "missing", codes "missing /path ino #ino")
    ∷ (codes "missing", codes "missing pino #pino name %name ino #ino")
    ∷ (codes "total", codes "total damaged #damaged paths #paths missing #missing gaps #gaps")
    ∷ []

-- what `history` prints
unfoldable pub history_shapes : List Shape
history_shapes = (
  codes "entry",
  codes "@address =word entry pino #pino version #version ino #ino mctime #mctime "
      ++ codes "type #type name %name",
)
    ∷ (
      codes "inode",
      codes "@address =word inode ino #ino version #version mode =mode uid #uid gid #gid "
          ++ codes "isize #isize atime #atime mtime #mtime ctime #ctime offset #offset dsize "
          ++ codes "#dsize compr #compr",
    )
    ∷ (codes "obsolete", codes "@address =word length #length")
    ∷ (
      codes "total",
      codes "total live #live superseded #superseded deleted #deleted deletion #deletion "
          ++ codes "unreached #unreached obsolete #obsolete",
    )
    ∷ (codes "was", codes "was ino #ino")
    ∷ (codes "was", codes "was ino #ino versions #lowest to #highest")
    ∷ (
      codes "was",
      codes "was ino #ino versions #lowest to #highest size #size sha256 =sha256",
    )
    ∷ []

-- what `map` prints
unfoldable pub map_shapes : List Shape
map_shapes =
    (codes "block", codes "#number @address #live #superseded #obsolete #damaged #free =bar")
    ∷ (codes "total", codes "total #live #superseded #obsolete #damaged #free")
    ∷ ([], codes "=live live =superseded superseded =obsolete obsolete =damaged damaged =free free")
    ∷ ([], codes "block address live superseded obsolete damaged free")
    ∷ []

-- what `cuts` prints
unfoldable pub cuts_shapes : List Shape
cuts_shapes =
    (codes "step", codes "@address #length line #listing_line step #step of #of stands from @from")
    ∷ (codes "weak", codes "weak @address at #at")
    ∷ (
      codes "total",
      codes "total operations #operations steps #steps from @from to @to weak #weak",
    )
    ∷ []

-- the shapes of a command's lines
abbrev pub shapes : Lines → List Shape
shapes lines.Tree = tree_shapes
shapes lines.Report = report_shapes
shapes lines.Parameters = parameters_shapes
shapes lines.Differences = differences_shapes
shapes lines.Damage = damage_shapes
shapes lines.History = history_shapes
shapes lines.Map = map_shapes
shapes lines.Cuts = cuts_shapes

-- What standard error is told of what is taken.
use Rattle.std.specs.Prelude.{ℕ, List, ◌++◌, codes, decimal, Option, Some, None}
use Rattle.jnode.specs.declared.order.Endian.{Endian}
use Rattle.jinfo.specs.InfoText.{order_name}
use Rattle.jinfo.specs.declared.sizes.SizeRange.{SizeRange}
use Rattle.jspare.specs.declared.layout.PageLayout.{PageLayout}
use Rattle.jcommand.specs.declared.parsed.Options.{Options}

-- the byte order and the size of blocks
unfoldable pub taken_line : Options → List ℕ
taken_line options = codes "jffs2_image: note: " ++ order_name options.endian
    ++ codes "-endian, blocks of " ++ decimal options.geometry.block ++ codes "\n"

-- the layout of a dump whose spare bytes are left out
unfoldable pub left_line : PageLayout → List ℕ
left_line layout = codes "jffs2_image: note: left out: " ++ decimal layout.spare
    ++ codes " spare bytes after each " ++ decimal layout.page ++ codes "\n"

-- the byte order, the sizes that blocks may have, and what helps
unfoldable pub unclear_line : Endian → Option SizeRange → List ℕ
unclear_line order None = codes "jffs2_image: note: " ++ order_name order
    ++ codes "-endian, block size unknown; give --block\n"
unclear_line order (Some range) = codes "jffs2_image: note: " ++ order_name order
    ++ codes "-endian, blocks of " ++ decimal range.least ++ codes " to " ++ decimal range.greatest
    ++ codes " fit; give --block\n"

-- The picture that `map --svg` prints of an image: SVG, a row for each block.
use Rattle.std.specs.Prelude.{ℕ, ◌+◌, ◌-◌, ◌*◌, List, ◌++◌, codes, decimal}
use Rattle.std.specs.List.{flat_map}
use Rattle.flashbase.specs.Lists.{below}
use Rattle.jnode.specs.declared.order.Endian.{Endian}
use Rattle.jscan.specs.Counts.{extents_of_block}
use Rattle.jscan.specs.Image.{block_count}
use Rattle.jscan.specs.declared.extent.Extent.{Extent}
use Rattle.jline.specs.Words.{hex}
use Rattle.jmap.specs.ByteKinds.{byte_kind}
use Rattle.jmap.specs.NodeTexts.{what_text}
use Rattle.jmap.specs.Places.{Paths, place_text}
use Rattle.jmap.specs.declared.kind.ByteKind.{ByteKind}
use Rattle.jmap.specs.declared.kind.ByteKind.TheVariants.{Live, Superseded, Obsolete, Damaged, Free}

abbrev pub kind_word : ByteKind → List ℕ
kind_word Live = codes "live"
kind_word Superseded = codes "superseded"
kind_word Obsolete = codes "obsolete"
kind_word Damaged = codes "damaged"
kind_word Free = codes "free"

-- ---- a rectangle for each extent, with what it is

-- in a row whose unit of width is a byte
abbrev pub rect_box : ℕ → ℕ → ByteKind → List ℕ
rect_box place len kind = codes "<rect class='" ++ kind_word kind ++ codes "' x='" ++ decimal place
    ++ codes "' width='" ++ decimal len ++ codes "' height='1'>"

abbrev pub title_start : ℕ → ℕ → ByteKind → List ℕ
title_start addr len kind = codes "<title>" ++ kind_word kind ++ codes " at " ++ hex 8 addr
    ++ codes ", " ++ decimal len ++ codes " bytes: "

unfoldable pub rect_start : ℕ → ℕ → ℕ → ByteKind → List ℕ
rect_start place addr len kind = rect_box place len kind ++ title_start addr len kind

abbrev pub rect_end : List ℕ
rect_end = codes "</title></rect>\n"

-- what the extent is, and where in the tree
abbrev pub title_text : Endian → List ℕ → Paths → Extent → List ℕ
title_text e image paths s =
    what_text e image s.addr s.kind ++ place_text e image paths s.addr s.kind

unfoldable pub rect_text : Endian → List ℕ → ℕ → List ℕ → Paths → Extent → List ℕ
rect_text e image start kept paths s = rect_start (s.addr - start) s.addr s.len (byte_kind kept s)
    ++ (title_text e image paths s ++ rect_end)

-- ---- a row for each block: its address, and its rectangles

unfoldable pub svg_row_start : ℕ → ℕ → List ℕ
svg_row_start size k = codes "<text x='8' y='" ++ decimal (14 * k + 74) ++ codes "'>"
    ++ hex 8 (k * size)
    ++ codes "</text><svg x='80' y='" ++ decimal (14 * k + 64)
    ++ codes "' width='1000' height='12' viewBox='0 0 " ++ decimal size
    ++ codes " 1' preserveAspectRatio='none'>\n"

abbrev pub svg_end : List ℕ
svg_end = codes "</svg>\n"

unfoldable pub block_row : Endian → ℕ → List ℕ → List ℕ → Paths → ℕ → List ℕ
block_row e size image kept paths k = svg_row_start size k
    ++ (flat_map (rect_text e image (k * size) kept paths) (extents_of_block e size image k)
    ++ svg_end)

-- ---- the whole

abbrev pub svg_start : ℕ → List ℕ
svg_start blocks =
    codes "<svg xmlns='http://www.w3.org/2000/svg' width='1088' height='"
    ++ decimal (14 * blocks + 72) ++ codes "' font-family='monospace' font-size='11'>\n"

-- colours, and what they mean
abbrev pub svg_legend : List ℕ
svg_legend =
    codes "<title>Where the nodes of a JFFS2 image lie</title>\n"
    ++ codes "<style>.live{fill:#2b8a3e}.superseded{fill:#f59f00}.obsolete{fill:#868e96}"
    ++ codes ".damaged{fill:#e03131}.free{fill:#e9ecef}</style>\n"
    ++ codes "<rect width='100%' height='100%' fill='#ffffff'/>\n"
    ++ codes "<rect class='live' x='80' y='16' width='12' height='12'/>"
    ++ codes "<text x='98' y='26'>live</text>\n"
    ++ codes "<rect class='superseded' x='180' y='16' width='12' height='12'/>"
    ++ codes "<text x='198' y='26'>superseded</text>\n"
    ++ codes "<rect class='obsolete' x='320' y='16' width='12' height='12'/>"
    ++ codes "<text x='338' y='26'>obsolete</text>\n"
    ++ codes "<rect class='damaged' x='440' y='16' width='12' height='12'/>"
    ++ codes "<text x='458' y='26'>damaged</text>\n"
    ++ codes "<rect class='free' x='560' y='16' width='12' height='12'/>"
    ++ codes "<text x='578' y='26'>free</text>\n"

-- rule: What is printed: The picture of an image.
--   definitions: jmap.Picture.picture_text, jmap.NodeTexts.what_text, jmap.Places.place_text
--   code: jmap::picture::put_picture
--   laws: jmap::examples::entry_is_drawn
-- what `map --svg` prints of an image of which the nodes at these addresses are kept, and these are
-- the paths of its objects
unfoldable pub picture_text : Endian → ℕ → List ℕ → List ℕ → Paths → List ℕ
picture_text e size image kept paths =
    let blocks = block_count size image in
    (svg_start blocks ++ svg_legend)
    ++ (flat_map (block_row e size image kept paths) (below blocks) ++ svg_end)

-- The lines that `check --scan` prints, each as a function of what it tells of.
use Rattle.std.specs.Prelude.{ℕ, List, [], ◌++◌, codes, decimal}
use Rattle.jnode.specs.declared.node.Damage.{Damage}
use Rattle.jnode.specs.declared.node.Dirent.{Dirent}
use Rattle.jnode.specs.declared.node.Fill.{Fill}
use Rattle.jnode.specs.declared.node.Fill.TheVariants as fill
use Rattle.jnode.specs.declared.node.InodeNode.{InodeNode}
use Rattle.jnode.specs.declared.node.Seen.{Seen}
use Rattle.jnode.specs.declared.node.Seen.TheVariants as seen
use Rattle.jscan.specs.declared.extent.ExtentKind.{ExtentKind}
use Rattle.jscan.specs.declared.extent.ExtentKind.TheVariants.{Tiled, Erased, OtherOrder, Dirt}
use Rattle.jscan.specs.declared.extent.Extent.{Extent}
use Rattle.jline.specs.Damages.{damage_name}
use Rattle.jline.specs.Words.{hex, octal, escaped}

-- ---- the line forms

-- the line before those of block k
unfoldable pub block_line : ℕ → List ℕ
block_line k = codes "block " ++ decimal k ++ codes "\n"

-- Each other line begins with an address, what is there, and how many bytes it has. Then come its
-- fields.
abbrev pub line_start : ℕ → List ℕ → ℕ → List ℕ
line_start addr what n = hex 8 addr ++ codes " " ++ what ++ codes " " ++ decimal n

abbrev pub plain_line : ℕ → List ℕ → ℕ → List ℕ
plain_line addr what n = line_start addr what n ++ codes "\n"

abbrev pub typed_line : ℕ → List ℕ → ℕ → ℕ → List ℕ
typed_line addr what n nodetype =
    line_start addr what n ++ codes " type " ++ hex 4 nodetype ++ codes "\n"

abbrev pub entry_line : ℕ → ℕ → Dirent → List ℕ
entry_line addr n d = line_start addr (codes "entry") n ++ codes " pino " ++ decimal d.pino
    ++ codes " version " ++ decimal d.version ++ codes " ino " ++ decimal d.ino ++ codes " type "
    ++ decimal d.kind
    ++ codes " name " ++ escaped d.name ++ codes "\n"

abbrev pub fill_name : Fill → List ℕ
fill_name fill.Zero = codes "zero"
fill_name (fill.Data bytes) = codes "none"

-- The mode is the whole one, in octal. What is reported of the data is how many bytes they stand
-- for.
abbrev pub inode_line : ℕ → ℕ → InodeNode → List ℕ
inode_line addr n i = line_start addr (codes "inode") n ++ codes " ino " ++ decimal i.ino
    ++ codes " version " ++ decimal i.version ++ codes " mode " ++ octal i.mode ++ codes " size "
    ++ decimal i.isize
    ++ codes " offset " ++ decimal i.offset ++ codes " data " ++ decimal i.dsize ++ codes " "
    ++ fill_name i.fill ++ codes "\n"

abbrev pub compressed_line : ℕ → ℕ → ℕ → List ℕ
compressed_line addr n compr =
    line_start addr (codes "compressed") n ++ codes " compr " ++ decimal compr ++ codes "\n"

abbrev pub damaged_line : ℕ → ℕ → Damage → List ℕ
damaged_line addr n which =
    line_start addr (codes "damaged") n ++ codes " " ++ damage_name which ++ codes "\n"

-- the last line
abbrev pub total_line : ℕ → ℕ → ℕ → ℕ → List ℕ
total_line blocks entries inodes findings =
    codes "total blocks " ++ decimal blocks ++ codes " entries " ++ decimal entries
    ++ codes " inodes " ++ decimal inodes ++ codes " findings " ++ decimal findings ++ codes "\n"

-- ---- the line of each extent: a node's tile, or a run

abbrev pub seen_line : ℕ → ℕ → Seen → List ℕ
seen_line addr n (seen.Entry d) = entry_line addr n d
seen_line addr n (seen.Inode i) = inode_line addr n i
seen_line addr n seen.Marker = plain_line addr (codes "marker") n
seen_line addr n seen.Padding = plain_line addr (codes "padding") n
seen_line addr n seen.Obsolete = plain_line addr (codes "obsolete") n
seen_line addr n seen.Attribute = plain_line addr (codes "attribute") n
seen_line addr n (seen.Skippable nodetype) = typed_line addr (codes "skipped") n nodetype
seen_line addr n (seen.ReadOnly nodetype) = typed_line addr (codes "read-only") n nodetype
seen_line addr n (seen.Incompatible nodetype) = typed_line addr (codes "incompatible") n nodetype
seen_line addr n (seen.Compressed compr) = compressed_line addr n compr
seen_line addr n (seen.Damaged which) = damaged_line addr n which

abbrev pub kind_line : ℕ → ℕ → ExtentKind → List ℕ
kind_line addr n (Tiled tile) = seen_line addr n tile
kind_line addr n Erased = plain_line addr (codes "erased") n
kind_line addr n OtherOrder = plain_line addr (codes "other-order") n
kind_line addr n Dirt = plain_line addr (codes "dirt") n

unfoldable pub extent_line : Extent → List ℕ
extent_line s = kind_line s.addr s.len s.kind

-- ---- what a line holds

-- the name that an extent's line shows, if it shows one
abbrev pub shown_name : ExtentKind → List ℕ
shown_name (Tiled (seen.Entry d)) = d.name
shown_name _ = []

-- The findings of an image, as rows.
use Rattle.std.specs.Prelude.{ℕ, List, filter_map, Option, Some, None, option_map}
use Rattle.jnode.specs.Reading.{damage_number}
use Rattle.jnode.specs.declared.node.Seen.{Seen}
use Rattle.jnode.specs.declared.node.Seen.TheVariants as seen
use Rattle.jnode.specs.declared.order.Endian.{Endian}
use Rattle.jscan.specs.Scans.{image_extents}
use Rattle.jscan.specs.declared.extent.Extent.{Extent}
use Rattle.jscan.specs.declared.extent.ExtentKind.{ExtentKind}
use Rattle.jscan.specs.declared.extent.ExtentKind.TheVariants.{Tiled, Erased, OtherOrder, Dirt}
use Rattle.jcalls.specs.declared.finding_row.FindingRow.{FindingRow}

-- what a node is found as, by its number, and what there is to say of it: which check failed, its
-- type, or the number of its compression
abbrev pub node_finding : Seen → Option (ℕ × ℕ)
node_finding (seen.Damaged which) = Some (1, damage_number which)
node_finding seen.Attribute = Some (2, 0)
node_finding (seen.ReadOnly nodetype) = Some (3, nodetype)
node_finding (seen.Incompatible nodetype) = Some (6, nodetype)
node_finding (seen.Compressed compr) = Some (7, compr)
node_finding (seen.Entry entry) = None
node_finding (seen.Inode inode) = None
node_finding seen.Marker = None
node_finding seen.Padding = None
node_finding seen.Obsolete = None
node_finding (seen.Skippable nodetype) = None

abbrev pub found_kind : ExtentKind → Option (ℕ × ℕ)
found_kind (Tiled what) = node_finding what
found_kind OtherOrder = Some (4, 0)
found_kind Dirt = Some (5, 0)
found_kind Erased = None

abbrev pub finding_row : ℕ → ℕ → ℕ × ℕ → FindingRow
finding_row addr len kind =
    record { address = addr; length = len; kind = kind.0; detail = kind.1 }

-- the row of an extent that is found
abbrev pub found_row : Extent → Option FindingRow
found_row s = option_map (finding_row s.addr s.len) (found_kind s.kind)

-- of all of them, in the order of their addresses
abbrev pub finding_rows : Endian → ℕ → List ℕ → List FindingRow
finding_rows e size image = filter_map found_row (image_extents e size image)

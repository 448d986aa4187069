-- A file in units of 4096 bytes, the smallest erase block, and what each of them holds.
use Rattle.std.specs.Prelude.{ℕ, ◌+◌, ◌-◌, ◌*◌, ◌/◌, ◌==◌, ◌&&◌, Bool, true, false, nat_le, List, length, take, drop, Option, Some, None, unwrap_or, if◌then◌else◌}
use Rattle.std.specs.Int.{div_ceil}
use Rattle.std.specs.List.{list_all, list_any}
use Rattle.flashbase.specs.Lists.{each_below}
use Rattle.jnode.specs.declared.order.Endian.{Endian}
use Rattle.jnode.specs.declared.order.Endian.TheVariants.{Little, Big}
use Rattle.jscan.specs.declared.extent.Extent.{Extent}
use Rattle.jinfo.specs.Census.{is_node_tile, walk_of}
use Rattle.jinfo.specs.Infos.{info_of}
use Rattle.jregions.specs.declared.unit.UnitKind.{UnitKind}
use Rattle.jregions.specs.declared.unit.UnitKind.TheVariants.{Nodes, Erased, Foreign}

abbrev pub unit_count : List ℕ → ℕ
unit_count file = div_ceil (length file) 4096

abbrev pub unit_bytes : List ℕ → ℕ → List ℕ
unit_bytes file unit = take 4096 (drop (unit * 4096) file)

-- a node that has a byte in this unit
abbrev pub reaches_unit : ℕ → Extent → Bool
reaches_unit unit s =
    is_node_tile s.kind
    && (nat_le (s.addr / 4096) unit && nat_le unit ((s.addr + s.len - 1) / 4096))

-- a node of this order is there, as `info` counts nodes: of the whole file as one block
abbrev pub has_node : Endian → List ℕ → ℕ → Bool
has_node e file unit = list_any (reaches_unit unit) (walk_of e file)

-- the order of a unit that has nodes of the little order, or of the big one, or of both
abbrev pub order_among : Endian → Bool → Bool → Option Endian
order_among usual true true = Some usual
order_among usual true false = Some Little
order_among usual false true = Some Big
order_among usual false false = None

abbrev pub kind_by : Option Endian → List ℕ → UnitKind
kind_by (Some e) bytes = Nodes e
kind_by None bytes = if list_all (λ b. b == 0xFF) bytes then Erased else Foreign

-- the order that `info` prints of the whole file
abbrev pub usual_order : List ℕ → Endian
usual_order file = unwrap_or (info_of file).order Little

-- A unit is of the order of its nodes, and of the file's own order if it has nodes of both. Others
-- are erased, or foreign.
abbrev pub unit_kind_at : List ℕ → ℕ → UnitKind
unit_kind_at file unit = kind_by (order_among (usual_order file) (has_node Little file unit)
    (has_node Big file unit)) (unit_bytes file unit)

unfoldable pub units_of : List ℕ → List UnitKind
units_of file = each_below (unit_count file) (unit_kind_at file)

-- What each byte of an image is, if the nodes at these addresses are the ones that are kept.
use Rattle.std.specs.Prelude.{ℕ, ◌==◌, Bool, true, false, if◌then◌else◌, List, replicate, flat_map, count_by}
use Rattle.std.specs.List.{list_any}
use Rattle.jnode.specs.declared.node.Seen.{Seen}
use Rattle.jnode.specs.declared.node.Seen.TheVariants as seen
use Rattle.jscan.specs.declared.extent.ExtentKind.{ExtentKind}
use Rattle.jscan.specs.declared.extent.ExtentKind.TheVariants.{Tiled, Erased, OtherOrder, Dirt}
use Rattle.jscan.specs.declared.extent.Extent.{Extent}
use Rattle.jmap.specs.declared.kind.ByteKind.{ByteKind}
use Rattle.jmap.specs.declared.kind.ByteKind.TheVariants.{Live, Superseded, Obsolete, Damaged, Free}
use Rattle.jmap.specs.declared.tally.Tally.{Tally}

abbrev pub is_kept_address : List ℕ → ℕ → Bool
is_kept_address kept addr = list_any (λ a. a == addr) kept

-- A clean marker says that its block was erased, so it counts as free. Any other sound node is live
-- if it is kept, and superseded if not, whatever its type.
abbrev pub node_kind : List ℕ → ℕ → Seen → ByteKind
node_kind kept addr seen.Marker = Free
node_kind kept addr seen.Obsolete = Obsolete
node_kind kept addr (seen.Damaged which) = Damaged
node_kind kept addr _ = if is_kept_address kept addr then Live else Superseded

-- Words that are neither erased nor a node's are damaged.
abbrev pub kind_at : List ℕ → ℕ → ExtentKind → ByteKind
kind_at kept addr (Tiled what) = node_kind kept addr what
kind_at kept addr Erased = Free
kind_at kept addr OtherOrder = Damaged
kind_at kept addr Dirt = Damaged

abbrev pub byte_kind : List ℕ → Extent → ByteKind
byte_kind kept s = kind_at kept s.addr s.kind

-- the kinds of the bytes of some extents, byte after byte
abbrev pub byte_kinds : List ℕ → List Extent → List ByteKind
byte_kinds kept ss = flat_map (λ s. replicate s.len (byte_kind kept s)) ss

-- ---- how many bytes are of each kind

abbrev pub is_live : ByteKind → Bool
is_live Live = true
is_live _ = false

abbrev pub is_superseded : ByteKind → Bool
is_superseded Superseded = true
is_superseded _ = false

abbrev pub is_obsolete : ByteKind → Bool
is_obsolete Obsolete = true
is_obsolete _ = false

abbrev pub is_damaged_kind : ByteKind → Bool
is_damaged_kind Damaged = true
is_damaged_kind _ = false

abbrev pub is_free : ByteKind → Bool
is_free Free = true
is_free _ = false

abbrev pub tally_of : List ByteKind → Tally
tally_of kinds = record {
  live = count_by is_live kinds;
  superseded = count_by is_superseded kinds;
  obsolete = count_by is_obsolete kinds;
  damaged = count_by is_damaged_kind kinds;
  free = count_by is_free kinds;
}

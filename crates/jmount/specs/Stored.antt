-- How a mounted image keeps its file system.
use Rattle.std.specs.Prelude.{ℕ, List, ◌++◌, map, max, Some, option_map, unwrap_or}
use Rattle.std.specs.Ordering.{nat_cmp}
use Rattle.std.specs.BTreeMap.{BTreeMap, get}
use Rattle.std.specs.FinMap.{FinMap}
use Rattle.flashbase.specs.Lists.{tabled, each_below}
use Rattle.jnode.specs.declared.node.Dirent.{Dirent}
use Rattle.jfrag.specs.Overlays.{Visible, byte_at}
use Rattle.jfrag.specs.Intervals.{piece_at}
use Rattle.jfrag.specs.IntervalMap.{seen}
use Rattle.jfrag.specs.declared.frag.FragOverlay.{FragOverlay}
use Rattle.jname.specs.Live.{highest, live_names}
use Rattle.jmount.specs.Tree.{ObjectOf, State}
use Rattle.jmount.specs.declared.stored.Stored.{Stored}

-- what is at a place of an overlay
abbrev pub visible_in : FragOverlay → ℕ → Visible
visible_in overlay place = seen (piece_at overlay place) place

-- an object as it is stored
abbrev pub stored_object : Stored → ObjectOf (List ℕ)
stored_object stored = record {
  mode = stored.mode;
  uid = stored.uid;
  gid = stored.gid;
  atime = stored.atime;
  mtime = stored.mtime;
  ctime = stored.ctime;
  device = stored.device;
  body = each_below stored.size (λ place. byte_at (visible_in stored.bytes place));
}

abbrev pub ObjectsByNumber : Type 0
ObjectsByNumber = BTreeMap ℕ Stored

-- the objects that are stored
abbrev pub stored_objects : ObjectsByNumber → FinMap nat_cmp (ObjectOf (List ℕ))
stored_objects objects = tabled nat_cmp (map (λ e. e.0) objects.entries)
    (λ i. option_map stored_object (get nat_cmp objects i))

-- the greatest version of a number, over its inode nodes and the entries below it
abbrev pub stored_top : ObjectsByNumber → List Dirent → ℕ → ℕ
stored_top objects names i =
    max (unwrap_or (option_map (λ stored. stored.version) (get nat_cmp objects i)) 0)
    (unwrap_or (highest names i) 0)

abbrev pub stored_tops : ObjectsByNumber → List Dirent → FinMap nat_cmp ℕ
stored_tops objects names =
    tabled nat_cmp (map (λ e. e.0) objects.entries ++ map (λ entry. entry.pino) names)
    (λ i. Some (stored_top objects names i))

-- the file system that is stored
abbrev pub stored_state : ObjectsByNumber → List Dirent → ℕ → State
stored_state objects names next =
    record { objects = stored_objects objects; names = live_names names; next = next }

-- What is counted of the nodes of an image while they are judged.
use Rattle.std.specs.Prelude.{◌≡◌, ℕ, ◌+◌, ◌*◌, ◌%◌, ◌<◌, ◌≤◌, ◌||◌, Bool, false, nat_le, IsTrue, IfSome, List, length, cond, count_by, Option, Some, None, option_map}
use Rattle.flashbase.specs.Bytes.{pad4_of}
use Rattle.jnode.specs.declared.node.Seen.{Seen}
use Rattle.jnode.specs.declared.order.Endian.{Endian}
use Rattle.jscan.specs.Image.{sightings}
use Rattle.jscan.specs.Scans.{IsScannable, forbids_writing, is_read_only}
use Rattle.jlog.specs.Places.{place_after, end_after, end_of_all, fit, needed}
use Rattle.jexpand.specs.Expanded.{expanded_node, expanded_nodes, node_length}
use Rattle.jexpand.specs.Refused.{node_fault, nodes_fault}
use Rattle.jconvert.specs.Converting.{least_written, greatest_blocks, is_changed, expanded_forms}
use Rattle.jconvert.specs.declared.judging.Tally.{Tally}

-- an address in the greatest flash where a node may begin
abbrev pub IsCursor : ℕ → ℕ → Type 0
IsCursor size from = (from ≤ greatest_blocks size * size) × (from % 4 ≡ 0)

-- a node of so many bytes from an address on ends in the greatest flash
abbrev pub EndsWithin : ℕ → ℕ → ℕ → Type 0
EndsWithin size from len = place_after size from len + len ≤ greatest_blocks size * size

-- Where the node after one of so many bytes may begin. There is no room where the flash ends
-- before, or was full already; and blocks that are not written have none.
abbrev pub IsRoomAfter : ℕ → Option ℕ → ℕ → Option ℕ → Type 0
IsRoomAfter size None len after = after ≡ None
IsRoomAfter size (Some from) len (Some after) =
    EndsWithin size from len × (after ≡ end_after size from len) × IsCursor size after
IsRoomAfter size (Some from) len None = least_written ≤ size → EndsWithin size from len → ⊥

-- what a length counts for, where there is one
abbrev pub Lengthens : ℕ → Tally → Option ℕ → Tally → Type 0
Lengthens size old None new =
    (new.nodes ≡ old.nodes) × (new.needed ≡ old.needed) × (new.room ≡ old.room)
Lengthens size old (Some len) new =
    (new.nodes ≡ old.nodes + 1) × (new.needed ≡ old.needed + pad4_of len)
    × IsRoomAfter size old.room len new.room

-- what is counted with one tile more, whose node has this length if it gives one
pub record IsOneMore (size : ℕ) (old : Tally) (seen : Seen) (len : Option ℕ) (new : Tally) : Type
    0 where
  pub changed : new.changed ≡ old.changed + cond (is_changed seen) 1 0
  pub read_only : new.read_only ≡ (old.read_only || forbids_writing seen)
  pub longer : Lengthens size old len new

-- what is counted with the tile at an address more, of which no fault is known
pub record CountsTile (e : Endian) (size : ℕ) (image : List ℕ) (old : Tally) (addr : ℕ)
    (seen : Seen) (new : Tally) : Type 0 where
  pub none : node_fault e size image (addr, seen) ≡ None
  pub len : Option ℕ
  pub length_is : len ≡ option_map node_length (expanded_node e size image (addr, seen))
  pub more : IsOneMore size old seen len new

-- How the room stands when all these nodes are counted.
abbrev pub IsRoomOf : ℕ → List (List ℕ) → Option ℕ → Type 0
IsRoomOf size forms (Some end) =
    IsTrue (fit size (greatest_blocks size) 0 forms) × (end ≡ end_of_all size 0 forms)
IsRoomOf size forms None = least_written ≤ size → fit size (greatest_blocks size) 0 forms ≡ false

-- what is counted of an image of which no node is refused
pub record IsTallyOf (e : Endian) (size : ℕ) (image : List ℕ) (tally : Tally) : Type 0 where
  pub scannable : IsScannable size image
  pub none : nodes_fault e size image ≡ None
  pub changed : tally.changed ≡ count_by (λ s. is_changed s.1) (sightings e size image)
  pub nodes : tally.nodes ≡ length (expanded_nodes e size image)
  pub needed : tally.needed ≡ needed (expanded_forms e size image)
  pub read_only : tally.read_only ≡ is_read_only e size image
  pub room : IsRoomOf size (expanded_forms e size image) tally.room

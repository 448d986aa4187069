-- What is known before the image of nodes goes out, why none does, and what goes out.
use Rattle.std.specs.Prelude.{◌≡◌, ℕ, ◌+◌, ◌*◌, ◌%◌, ◌≤◌, true, false, nat_le, IsTrue, IsFalse, List, [], ◌∷◌, ◌++◌, length, Contains, Option, Some, None, option_map, Result, Ok, Err, ⊤, if◌then◌else◌}
use Rattle.std.specs.List.{AllByRecursion}
use Rattle.std.specs.Option.{option_or}
use Rattle.std.specs.Io.KnownBytes.{Appends}
use Rattle.flashbase.specs.Bytes.{pad4_of}
use Rattle.flashbase.specs.Device.{PutsPart, next_count}
use Rattle.flashbase.specs.Sinks.{SinkChange}
use Rattle.jnode.specs.Header.{header_len}
use Rattle.jnode.specs.Weak.{is_sound}
use Rattle.jnode.specs.declared.node.Seen.{Seen}
use Rattle.jnode.specs.declared.order.Endian.{Endian}
use Rattle.jscan.specs.Image.{is_block_size, greatest_image, sightings, nodes}
use Rattle.jmount.specs.Mount.{Mount}
use Rattle.jlog.specs.Output.{gap}
use Rattle.jlog.specs.Places.{place_after, place_within, fit, needed, free, is_writable_flash}
use Rattle.jcompact.specs.Matters.{Placed, AreWhatMatters}
use Rattle.jcollect.specs.Collecting.{addresses_of, FitBlocks}
use Rattle.jcollect.specs.Tiles.{tile_in, tiles_at, copied_image}
use Rattle.jcollect.specs.declared.collecting.Collected.{Collected}
use Rattle.jcollect.specs.declared.collecting.Plan.{Plan}
use Rattle.jcollect.specs.declared.fault.CollectFault.{CollectFault}
use Rattle.jcollect.specs.declared.fault.CollectFault.TheVariants as fault

-- a sound node, compressed or not, is sighted at the address
abbrev pub IsSoundNodeAt : Endian → ℕ → List ℕ → ℕ → Type 0
IsSoundNodeAt e size image addr =
    (s : Seen) × Contains (sightings e size image) (addr, s) × IsTrue (is_sound s)

-- ---- room

-- an address on a flash where a node may begin
abbrev pub IsWriteCursor : ℕ → ℕ → ℕ → Type 0
IsWriteCursor size blocks from = (from ≤ blocks * size) × (from % 4 ≡ 0)

-- where the node after one of so many bytes may begin, if there is room for that one
abbrev pub IsRoomBehind : ℕ → ℕ → Option ℕ → ℕ → Option ℕ → Type 0
IsRoomBehind size blocks None len after = after ≡ None
IsRoomBehind size blocks (Some from) len after =
    after ≡ option_map (λ at. at + pad4_of len) (place_within size blocks from len)

-- ---- why no image goes out

-- the first of some nodes that no block of this size holds after its marker
abbrev pub long_fault : Endian → ℕ → List ℕ → List ℕ → Option CollectFault
long_fault e size image [] = None
long_fault e size image (addr ∷ addresses) =
    if nat_le (header_len + length (tile_in e size image addr)) size then
    long_fault e size image addresses else Some (fault.TooLong addr)

-- so many blocks have no room for the nodes
abbrev pub room_fault : ℕ → ℕ → List (List ℕ) → Option CollectFault
room_fault size blocks tiles = if fit size blocks 0 tiles then None
    else Some (fault.Full (needed tiles) (free size blocks 0))

abbrev pub tiles_fault : Endian → ℕ → ℕ → List ℕ → List ℕ → Option CollectFault
tiles_fault e size blocks image addresses = option_or (long_fault e size image addresses)
    (room_fault size blocks (tiles_at e size image addresses))

-- ---- which nodes go out

-- the addresses of those of some nodes that matter, and the number of all
pub record IsFound (ns : List Placed) (addresses : List ℕ) (count : ℕ) : Type 0 where
  pub kept : List Placed
  pub matter : AreWhatMatters ns kept
  pub addresses_are : addresses ≡ addresses_of kept
  pub count_is : count ≡ length ns

-- The nodes at these addresses go out to so many blocks, in so many bytes: of a mount of these
-- nodes those that matter.
pub record ArePlanned (ns : List Placed) (e : Endian) (size blocks : ℕ) (m : Mount)
    (addresses : List ℕ) (count bytes : ℕ) : Type 0 where
  pub found : IsFound ns addresses count
  pub writable : m.read_only ≡ false
  pub flash : IsTrue (is_writable_flash size blocks)
  pub room : FitBlocks e size blocks m.image addresses
  pub length_is : bytes ≡ length (copied_image e size m.image addresses)

abbrev pub IsPlan : List Placed → Endian → ℕ → ℕ → Mount → Plan → Type 0
IsPlan ns e size blocks m plan =
    ArePlanned ns e size blocks m plan.addresses.items plan.nodes plan.bytes

-- or they are refused
pub record AreRefused (ns : List Placed) (e : Endian) (size blocks : ℕ) (m : Mount)
    (f : CollectFault) : Type 0 where
  pub addresses : List ℕ
  pub count : ℕ
  pub found : IsFound ns addresses count
  pub writable : m.read_only ≡ false
  pub flash : IsTrue (is_writable_flash size blocks)
  pub refused : tiles_fault e size blocks m.image addresses ≡ Some f

-- Why no image of the nodes of a mounted one that matter goes out to so many blocks.
abbrev pub IsNoPlan : List Placed → Endian → ℕ → ℕ → Mount → CollectFault → Type 0
IsNoPlan ns e size blocks m fault.ReadOnly = m.read_only ≡ true
IsNoPlan ns e size blocks m fault.Geometry =
    (m.read_only ≡ false) × IsFalse (is_writable_flash size blocks)
IsNoPlan ns e size blocks m (fault.TooLong addr) =
    AreRefused ns e size blocks m (fault.TooLong addr)
IsNoPlan ns e size blocks m (fault.Full needed free) =
    AreRefused ns e size blocks m (fault.Full needed free)
IsNoPlan ns e size blocks m fault.Sink = ⊥
IsNoPlan ns e size blocks m fault.OutOfMemory = ⊤

-- so of an image that is mounted as it is
abbrev pub IsPlanOf : Endian → ℕ → ℕ → Mount → Plan → Type 0
IsPlanOf e size blocks m plan = IsPlan (nodes e size m.image) e size blocks m plan

abbrev pub IsUnplanned : Endian → ℕ → ℕ → Mount → CollectFault → Type 0
IsUnplanned e size blocks m f = IsNoPlan (nodes e size m.image) e size blocks m f

-- ---- what goes out

-- Nodes at these addresses, for which some flash has room.
pub record MayPut (e : Endian) (size : ℕ) (image addresses : List ℕ) : Type 0 where
  pub readable : IsTrue (is_block_size size)
  pub nodes : AllByRecursion (IsSoundNodeAt e size image) addresses
  pub blocks : ℕ
  pub small : blocks * size ≤ greatest_image
  pub room : FitBlocks e size blocks image addresses

-- what goes out for one of them, from an address on
abbrev pub tile_piece : Endian → ℕ → ℕ → List ℕ → List ℕ
tile_piece e size from tile = gap e size from (place_after size from (length tile)) ++ tile

-- nothing went out
abbrev pub IsSinkUntouched : SinkChange → Type 0
IsSinkUntouched sink = (sink.new ≡ sink.old) × (sink.now ≡ sink.before)

-- What compacting a mounted image into a sink answers, of its nodes: the image of those that matter
-- goes out, with what is told of it; or a beginning, where the sink failed once; or it is refused
-- before a byte is put.
abbrev pub CompactsNodes : List Placed → Endian → ℕ → ℕ → Mount → SinkChange
    → Result Collected CollectFault → Type 0
CompactsNodes ns e size blocks m sink (Ok told) =
    (addresses : List ℕ) × ArePlanned ns e size blocks m addresses told.nodes told.bytes
    × (told.kept ≡ length addresses)
    × Appends sink.old sink.new (copied_image e size m.image addresses)
    × (sink.now ≡ sink.before)
CompactsNodes ns e size blocks m sink (Err fault.Sink) =
    (addresses : List ℕ) × (count : ℕ) × (bytes : ℕ)
    × ArePlanned ns e size blocks m addresses count bytes
    × PutsPart sink.old sink.new (copied_image e size m.image addresses)
    × (sink.now ≡ next_count sink.before)
CompactsNodes ns e size blocks m sink (Err fault.ReadOnly) =
    IsNoPlan ns e size blocks m fault.ReadOnly × IsSinkUntouched sink
CompactsNodes ns e size blocks m sink (Err fault.Geometry) =
    IsNoPlan ns e size blocks m fault.Geometry × IsSinkUntouched sink
CompactsNodes ns e size blocks m sink (Err (fault.TooLong addr)) =
    IsNoPlan ns e size blocks m (fault.TooLong addr) × IsSinkUntouched sink
CompactsNodes ns e size blocks m sink (Err (fault.Full needed free)) =
    IsNoPlan ns e size blocks m (fault.Full needed free) × IsSinkUntouched sink
CompactsNodes ns e size blocks m sink (Err fault.OutOfMemory) = IsSinkUntouched sink

-- so of an image that is mounted as it is
abbrev pub Compacts : Endian → ℕ → ℕ → Mount → SinkChange → Result Collected CollectFault → Type 0
Compacts e size blocks m sink answer =
    CompactsNodes (nodes e size m.image) e size blocks m sink answer

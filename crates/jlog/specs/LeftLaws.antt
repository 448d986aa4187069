-- Laws of what a write that stopped leaves: its nodes, and what refuses it. Each is a statement: it
-- holds since a public function's contract names it.
use Rattle.std.specs.Prelude.{◌≡◌, ℕ, ◌+◌, ◌-◌, ◌*◌, ◌<◌, ◌≤◌, Bool, true, false, IsTrue, None, List, [], ◌∷◌, ◌++◌, length, map, filter, take, Contains}
use Rattle.std.specs.List.{AllByRecursion}
use Rattle.std.specs.Option.{is_some}
use Rattle.jnode.specs.Header.{header_len}
use Rattle.jnode.specs.Laws.{IsPlain}
use Rattle.jnode.specs.Weak.{torn, IsLeastWeak}
use Rattle.jnode.specs.Writing.{canonical, clean_marker, Fits, is_writable}
use Rattle.jnode.specs.declared.node.NodeRef.{NodeRef}
use Rattle.jnode.specs.declared.node.NodeRef.TheVariants as node
use Rattle.jnode.specs.declared.node.Seen.{Seen}
use Rattle.jnode.specs.declared.node.Seen.TheVariants as seen
use Rattle.jnode.specs.declared.order.Endian.{Endian}
use Rattle.jscan.specs.Image.{is_block_size, block_of, block_count, sightings, nodes}
use Rattle.jscan.specs.Blank.{AreBlankFrom}
use Rattle.jscan.specs.Scans.{first_refused, is_read_only, refusal_by}
use Rattle.jlog.specs.Places.{IsPlace, place_after, end_after, places, fit}
use Rattle.jlog.specs.Output.{output}
use Rattle.jlog.specs.Left.{flash_byte, IsLeft, front_of, intact}

-- ---- the bytes that are left

-- The base's blocks stay where they end by the address from which on was written,
abbrev pub BaseStays : Type 0
BaseStays =
    (e : Endian) (size blocks from k b : ℕ) (base out image : List ℕ) → b * size + size ≤ from
    → IsLeft e size blocks base from out k image → block_of size image b ≡ block_of size base b

-- and what is left has no more blocks than the flash.
abbrev pub LeftIsWithin : Type 0
LeftIsWithin = (e : Endian) (size blocks from k : ℕ) (base out image : List ℕ) → 0 < size
    → IsLeft e size blocks base from out k image
    → block_count size image ≤ blocks

-- At a place there is left what a cut leaves of the bytes that were to be written there, so that a
-- node stands whole exactly where what is left shows it whole.
abbrev pub PlacesAreLeft : Type 0
PlacesAreLeft = (e : Endian) (size blocks from k len at i : ℕ) (base out image : List ℕ) → 0 < size
    → IsPlace size from len at → at + len ≤ blocks * size → i < len
    → IsLeft e size blocks base from out k image
    → flash_byte image (at + i) ≡ flash_byte (torn out k) (at - from + i)

-- What went out after the base's front may always be left,
abbrev pub WrittenIsLeft : Type 0
WrittenIsLeft =
    (e : Endian) (size blocks from k : ℕ) (base out : List ℕ) → from + length out ≤ blocks * size
    → IsLeft e size blocks base from out k (front_of base from ++ take k out)

-- and where no more than the marker of a block did, more of that marker.
abbrev pub MarkerIsLeft : Type 0
MarkerIsLeft = (e : Endian) (size blocks b k j : ℕ) (base out : List ℕ) → header_len ≤ size
    → b < blocks → k ≤ j → j ≤ header_len
    → IsLeft e size blocks base (b * size) out k
    (front_of base (b * size) ++ take j (clean_marker e))

-- ---- new nodes

-- what blocks of this size hold, each after its marker
pub record IsStorable (e : Endian) (size : ℕ) (node : NodeRef) : Type 0 where
  pub fits : Fits node
  pub writable : IsTrue (is_writable node)
  pub room : header_len + length (canonical e node) ≤ size

-- what is written to a log with blocks of this size
pub record IsLoggable (e : Endian) (size : ℕ) (node : NodeRef) : Type 0 where
  pub fits : Fits node
  pub writable : IsTrue (is_writable node)
  pub plain : IsPlain (length (canonical e node))
  pub room : header_len + length (canonical e node) ≤ size

-- New nodes on a base, from a block on from which all are blank: each may be written, and there is
-- room for all.
pub record AreLogged (e : Endian) (size blocks : ℕ) (base : List ℕ) (block : ℕ)
    (new : List NodeRef) : Type 0 where
  pub size_is : IsTrue (is_block_size size)
  pub no_longer : length base ≤ blocks * size
  pub blank : AreBlankFrom e size base blocks block
  pub nodes : AllByRecursion (IsLoggable e size) new
  pub room : IsTrue (fit size blocks (block * size) (map (canonical e) new))

-- The same of nodes of any length, of which no cut is to be seen.
pub record AreStored (e : Endian) (size blocks : ℕ) (base : List ℕ) (block : ℕ)
    (new : List NodeRef) : Type 0 where
  pub size_is : IsTrue (is_block_size size)
  pub no_longer : length base ≤ blocks * size
  pub blank : AreBlankFrom e size base blocks block
  pub nodes : AllByRecursion (IsStorable e size) new
  pub room : IsTrue (fit size blocks (block * size) (map (canonical e) new))

-- no cut of a node goes unseen by its checks
abbrev pub NoneWeak : Endian → List NodeRef → Type 0
NoneWeak e new = AllByRecursion (λ x. IsLeastWeak e (canonical e x) None) new

-- each node with its address
abbrev pub placed : Endian → ℕ → ℕ → List NodeRef → List (ℕ × NodeRef)
placed e size from [] = []
placed e size from (x ∷ xs) =
    (place_after size from (length (canonical e x)), x)
    ∷ placed e size (end_after size from (length (canonical e x))) xs

-- The addresses are those of the places, and the nodes those that were given.
pub record IsPlaced (e : Endian) (size from : ℕ) (new : List NodeRef) : Type 0 where
  pub places : map (λ n. (n.0, length (canonical e n.1))) (placed e size from new)
      ≡ places size from (map (canonical e) new)
  pub nodes : map (λ n. n.1) (placed e size from new) ≡ new

abbrev pub PlacedAreNew : Type 0
PlacedAreNew = (e : Endian) (size from : ℕ) (new : List NodeRef) → IsPlaced e size from new

-- A stop after k bytes may leave this image of the base, where new nodes were being written from
-- the start of a block on.
abbrev pub IsLeftOf : Endian → ℕ → ℕ → List ℕ → ℕ → List NodeRef → ℕ → List ℕ → Type 0
IsLeftOf e size blocks base block new k image = IsLeft e size blocks base (block * size)
    (output e size (block * size) (map (canonical e) new)) k image

-- those of them that are kept then, each with its address
abbrev pub intact_of : Endian → ℕ → ℕ → List NodeRef → ℕ → List (ℕ × NodeRef)
intact_of e size block new k =
    take (intact size (block * size) k (map (canonical e) new)) (placed e size (block * size) new)

-- no byte of them is missing
abbrev pub IsUncut : Endian → ℕ → ℕ → List NodeRef → ℕ → Type 0
IsUncut e size block new k = length (output e size (block * size) (map (canonical e) new)) ≤ k

-- ---- what is sighted in what is left

-- all sightings but those of clean markers and of damaged nodes
abbrev pub tells : ℕ × Seen → Bool
tells (addr, seen.Marker) = false
tells (addr, seen.Damaged which) = false
tells _ = true

-- what a node is seen as at its address
abbrev pub sighting_of : ℕ × NodeRef → ℕ × Seen
sighting_of (addr, node.Entry entry) = (addr, seen.Entry entry)
sighting_of (addr, node.Inode inode) = (addr, seen.Inode inode)

-- After a cut there stands what was in the base, and of the new nodes those that are kept, but for
-- markers and damage.
abbrev pub LeftSightings : Type 0
LeftSightings = (e : Endian) (size blocks block k : ℕ) (base image : List ℕ) (new : List NodeRef)
    → AreLogged e size blocks base block new → NoneWeak e new
    → IsLeftOf e size blocks base block new k image
    → filter tells (sightings e size image)
    ≡ filter tells (sightings e size base) ++ map sighting_of (intact_of e size block new k)

-- So the nodes are the base's, and the new ones that are kept,
abbrev pub LeftNodes : Type 0
LeftNodes = (e : Endian) (size blocks block k : ℕ) (base image : List ℕ) (new : List NodeRef)
    → AreLogged e size blocks base block new → NoneWeak e new
    → IsLeftOf e size blocks base block new k image
    → nodes e size image ≡ nodes e size base ++ intact_of e size block new k

-- and what refuses a scan of it, or forbids to write after it, is what does so in the base.
pub record RefusesAs (e : Endian) (size : ℕ) (base image : List ℕ) : Type 0 where
  pub first : first_refused e size image ≡ first_refused e size base
  pub each : (s : ℕ × Seen) → is_some (refusal_by s) ≡ true → Contains (sightings e size image) s
      → Contains (sightings e size base) s
  pub read_only : is_read_only e size image ≡ is_read_only e size base

abbrev pub LeftRefuses : Type 0
LeftRefuses = (e : Endian) (size blocks block k : ℕ) (base image : List ℕ) (new : List NodeRef)
    → AreLogged e size blocks base block new → NoneWeak e new
    → IsLeftOf e size blocks base block new k image → RefusesAs e size base image

-- ---- without a cut

-- Then the nodes are the base's and all new ones, of any length, and whether a cut of them would be
-- seen or not,
abbrev pub WholeNodes : Type 0
WholeNodes = (e : Endian) (size blocks block k : ℕ) (base image : List ℕ) (new : List NodeRef)
    → AreStored e size blocks base block new
    → IsUncut e size block new k → IsLeftOf e size blocks base block new k image
    → nodes e size image ≡ nodes e size base ++ placed e size (block * size) new

-- and the same refuses it.
abbrev pub WholeRefuses : Type 0
WholeRefuses = (e : Endian) (size blocks block k : ℕ) (base image : List ℕ) (new : List NodeRef)
    → AreStored e size blocks base block new
    → IsUncut e size block new k → IsLeftOf e size blocks base block new k image
    → RefusesAs e size base image

-- ---- an image of nodes alone

-- Nodes of any length, for which an erased flash has room.
pub record AreStorable (e : Endian) (size blocks : ℕ) (new : List NodeRef) : Type 0 where
  pub size_is : IsTrue (is_block_size size)
  pub nodes : AllByRecursion (IsStorable e size) new
  pub room : IsTrue (fit size blocks 0 (map (canonical e) new))

-- The image ends within the flash, has these nodes in order at their places, and nothing in it
-- refuses a scan or forbids to write after it.
pub record IsImageOfNodes (e : Endian) (size blocks : ℕ) (new : List NodeRef)
    (image : List ℕ) : Type 0 where
  pub within : length image ≤ blocks * size
  pub has : nodes e size image ≡ placed e size 0 new
  pub none_refused : first_refused e size image ≡ None
  pub writable : is_read_only e size image ≡ false

-- What goes out for such nodes from the start of the flash on is an image of them.
abbrev pub OutputIsImage : Type 0
OutputIsImage = (e : Endian) (size blocks : ℕ) (new : List NodeRef) → AreStorable e size blocks new
    → IsImageOfNodes e size blocks new (output e size 0 (map (canonical e) new))

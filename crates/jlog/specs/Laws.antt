-- Laws of places, of what goes out and of whole nodes. Each is a statement: it holds since a public
-- function's contract names it.
use Rattle.std.specs.Prelude.{◌≡◌, ◌≢◌, ℕ, ◌+◌, ◌*◌, ◌%◌, ◌<◌, ◌≤◌, ◌&&◌, IsTrue, IsFalse, Option, Some, None, List, [], ◌∷◌, ◌++◌, length, filter, take, slice_index}
use Rattle.std.specs.List.{AllByRecursion}
use Rattle.jnode.specs.Header.{header_len}
use Rattle.jnode.specs.Writing.{filled}
use Rattle.jnode.specs.declared.order.Endian.{Endian}
use Rattle.jscan.specs.Image.{greatest_image}
use Rattle.jlog.specs.Places.{IsLeastPlace, ArePlaces, place_after, end_after, places, end_of_all, fit, least_blocks}
use Rattle.jlog.specs.Output.{gap, output}
use Rattle.jlog.specs.Left.{is_whole, count_whole, intact}

-- ---- places and bytes

-- A node that a block holds after its marker goes to its least place.
abbrev pub PlaceIsLeast : Type 0
PlaceIsLeast = (size from len : ℕ) → size % 4 ≡ 0 → 0 < len → header_len + len ≤ size
    → IsLeastPlace size from len (place_after size from len)

-- A node's bytes are not none, do not begin as erased ones do, and a block holds them after its
-- marker.
pub record FitsBlock (size : ℕ) (node : List ℕ) : Type 0 where
  pub some : 0 < length node
  pub written : slice_index node 0 ≢ 0xFF
  pub within : header_len + length node ≤ size

-- So the places are the least ones, each after the one before it.
abbrev pub PlacesAreLeast : Type 0
PlacesAreLeast = (size from : ℕ) (nodes : List (List ℕ)) → size % 4 ≡ 0
    → AllByRecursion (FitsBlock size) nodes → ArePlaces size from nodes (places size from nodes)

-- What goes out runs from the address where it begins to the last node's end,
abbrev pub OutputIsLong : Type 0
OutputIsLong = (e : Endian) (size from : ℕ) (nodes : List (List ℕ)) → size % 4 ≡ 0
    → AllByRecursion (FitsBlock size) nodes
    → from + length (output e size from nodes) ≡ end_of_all size from nodes

-- and more nodes go on there.
pub record OutputIsJoined (e : Endian) (size from : ℕ) (xs ys : List (List ℕ)) : Type 0 where
  pub output : output e size from (xs ++ ys)
      ≡ output e size from xs ++ output e size (end_of_all size from xs) ys
  pub places : places size from (xs ++ ys)
      ≡ places size from xs ++ places size (end_of_all size from xs) ys
  pub end : end_of_all size from (xs ++ ys) ≡ end_of_all size (end_of_all size from xs) ys

abbrev pub OutputGoesOn : Type 0
OutputGoesOn =
    (e : Endian) (size from : ℕ) (xs ys : List (List ℕ)) → OutputIsJoined e size from xs ys

-- One more node goes out after them at its place, with what goes before it.
pub record AddsNode (e : Endian) (size from : ℕ) (nodes : List (List ℕ)) (node : List ℕ)
    (cursor : ℕ) : Type 0 where
  pub output : output e size from (nodes ++ node ∷ [])
      ≡ output e size from nodes
      ++ (gap e size cursor (place_after size cursor (length node)) ++ filled node)
  pub places : places size from (nodes ++ node ∷ [])
      ≡ places size from nodes ++ (place_after size cursor (length node), length node) ∷ []
  pub end : end_of_all size from (nodes ++ node ∷ []) ≡ end_after size cursor (length node)

abbrev pub OneMoreGoesOut : Type 0
OneMoreGoesOut = (e : Endian) (size from : ℕ) (nodes : List (List ℕ)) (node : List ℕ)
    → AddsNode e size from nodes node (end_of_all size from nodes)

-- So there is room for both where there is room for the first, and for the others after them.
abbrev pub RoomGoesOn : Type 0
RoomGoesOn = (size blocks from : ℕ) (xs ys : List (List ℕ))
    → fit size blocks from (xs ++ ys)
    ≡ (fit size blocks from xs && fit size blocks (end_of_all size from xs) ys)

-- Where all fit, writing goes on within the flash, at a word.
abbrev pub EndIsWithin : Type 0
EndIsWithin = (size blocks from : ℕ) (nodes : List (List ℕ)) → size % 4 ≡ 0
    → AllByRecursion (FitsBlock size) nodes → from % 4 ≡ 0 → from ≤ blocks * size
    → IsTrue (fit size blocks from nodes) → (end_of_all size from nodes ≤ blocks * size)
    × (end_of_all size from nodes % 4 ≡ 0)

-- So many blocks hold the nodes, and no fewer do; or no flash of the greatest size holds them.
abbrev pub IsLeastBlocks : ℕ → ℕ → List (List ℕ) → Option ℕ → Type 0
IsLeastBlocks size from nodes (Some blocks) =
    (blocks * size ≤ greatest_image) × IsTrue (fit size blocks from nodes)
    × ((fewer : ℕ) → IsTrue (fit size fewer from nodes) → blocks ≤ fewer)
IsLeastBlocks size from nodes None =
    (blocks : ℕ) → blocks * size ≤ greatest_image → IsFalse (fit size blocks from nodes)

abbrev pub BlocksAreLeast : Type 0
BlocksAreLeast = (size from : ℕ) (nodes : List (List ℕ)) → 0 < size
    → IsLeastBlocks size from nodes (least_blocks size from nodes)

-- ---- whole nodes

-- As many nodes stand whole as are kept,
abbrev pub IntactIsCounted : Type 0
IntactIsCounted = (e : Endian) (size from k : ℕ) (nodes : List (List ℕ)) → size % 4 ≡ 0
    → AllByRecursion (FitsBlock size) nodes
    → count_whole from (output e size from nodes) k (places size from nodes)
    ≡ intact size from k nodes

-- they are the first ones,
abbrev pub WholeIsBeginning : Type 0
WholeIsBeginning = (e : Endian) (size from k : ℕ) (nodes : List (List ℕ)) → size % 4 ≡ 0
    → AllByRecursion (FitsBlock size) nodes
    → filter (is_whole from (output e size from nodes) k) (places size from nodes)
    ≡ take (intact size from k nodes) (places size from nodes)

-- and without a cut all of them.
abbrev pub AllIsIntact : Type 0
AllIsIntact = (e : Endian) (size from k : ℕ) (nodes : List (List ℕ)) → size % 4 ≡ 0
    → AllByRecursion (FitsBlock size) nodes
    → length (output e size from nodes) ≤ k → intact size from k nodes ≡ length nodes

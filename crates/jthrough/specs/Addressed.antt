-- The nodes of an image through its compression, with their addresses.
use Rattle.std.specs.Prelude.{◌≡◌, ℕ, ◌<◌, List}
use Rattle.std.specs.List.{AllPairs}
use Rattle.jnode.specs.declared.node.NodeRef.{NodeRef}
use Rattle.jnode.specs.declared.order.Endian.{Endian}
use Rattle.jscan.specs.Image.{sightings}
use Rattle.jscan.specs.Scans.{IsScannable}
use Rattle.jexpand.specs.Expanded.{expanded_nodes, unpacked_bytes}
use Rattle.jmount.specs.Collected.{without_addresses}
use Rattle.jmount.specs.MountsNodes.{AreMountable}
use Rattle.jview.specs.Through.{IsSoundThrough}
use Rattle.jthrough.specs.View.{BeginWith, IsViewOf, placed_nodes}
use Rattle.jthrough.specs.declared.view.View.{View}

-- rule: Compressed data: The nodes of an image through its compression, each with the address of
--   its tile.
--   definitions: jthrough.Addressed.addressed_nodes
--   code: jthrough::addressing::nodes_through
--   laws: jthrough::laws::addressed_are_expanded, jthrough::laws::view_holds_contents
abbrev pub addressed_nodes : Endian → ℕ → List ℕ → List (ℕ × NodeRef)
addressed_nodes e size image = placed_nodes e size image (sightings e size image)

-- Without their addresses they are the expanded nodes,
abbrev pub AddressedAreExpanded : Type 0
AddressedAreExpanded = (e : Endian) (size : ℕ) (image : List ℕ)
    → without_addresses (addressed_nodes e size image) ≡ expanded_nodes e size image

-- they stand in the order of their addresses,
abbrev pub AddressedAreByAddress : Type 0
AddressedAreByAddress = (e : Endian) (size : ℕ) (image : List ℕ)
    → AllPairs (λ m n. m.0 < n.0) (addressed_nodes e size image)

-- and they are as a mount wants them.
abbrev pub AddressedAreMountable : Type 0
AddressedAreMountable = (e : Endian) (size : ℕ) (image : List ℕ)
    → IsScannable size image → AreMountable (addressed_nodes e size image)

-- The contents that a view of a sound image leaves begin with those of all its compressed nodes.
abbrev pub ViewHoldsContents : Type 0
ViewHoldsContents = (e : Endian) (size : ℕ) (image contents : List ℕ) (view : View)
    → IsViewOf e size image contents view → IsSoundThrough e size image
    → BeginWith (unpacked_bytes e size image) contents

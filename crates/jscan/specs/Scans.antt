-- What a scan of an image answers.
use Rattle.std.specs.Prelude.{◌≡◌, ℕ, ◌<◌, ◌≤◌, Bool, true, false, IsTrue, IsFalse, List, [], ◌∷◌, length, filter_map, Option, None, Some, Result, Ok, Err, ⊤}
use Rattle.std.specs.List.{list_any, before_first}
use Rattle.std.specs.Option.{is_some, option_or}
use Rattle.jnode.specs.declared.order.Endian.{Endian}
use Rattle.jnode.specs.declared.node.NodeRef.{NodeRef}
use Rattle.jnode.specs.declared.node.Seen.{Seen}
use Rattle.jnode.specs.declared.node.Seen.TheVariants as seen
use Rattle.jscan.specs.Image.{is_block_size, greatest_image, block_count, node_sighted, sightings, nodes}
use Rattle.jscan.specs.Counts.{extents_below}
use Rattle.jscan.specs.Findings.{finding_of, refused_node}
use Rattle.jscan.specs.declared.answer.Scan.{Scan}
use Rattle.jscan.specs.declared.finding.Finding.{Finding}
use Rattle.jscan.specs.declared.geometry.ScanFault.{ScanFault}
use Rattle.jscan.specs.declared.geometry.ScanFault.TheVariants as fault
use Rattle.jscan.specs.declared.extent.Extent.{Extent}

-- an image that can be scanned at all
abbrev pub IsScannable : ℕ → List ℕ → Type 0
IsScannable size image = IsTrue (is_block_size size) × (length image ≤ greatest_image)

-- the extents of all blocks of an image
abbrev pub image_extents : Endian → ℕ → List ℕ → List Extent
image_extents e size image = extents_below e size image (block_count size image)

-- the findings of an image, in the order of their addresses
abbrev pub findings : Endian → ℕ → List ℕ → List Finding
findings e size image = filter_map finding_of (image_extents e size image)

-- a node after which nothing may be written
abbrev pub forbids_writing : Seen → Bool
forbids_writing (seen.ReadOnly nodetype) = true
forbids_writing _ = false

abbrev pub is_read_only : Endian → ℕ → List ℕ → Bool
is_read_only e size image = list_any (λ s. forbids_writing s.1) (sightings e size image)

-- ---- refusals

-- why no image may have this node here, if that is so
abbrev pub refusal_by : ℕ × Seen → Option ScanFault
refusal_by s = refused_node s.0 s.1

-- the refusal by the first of these nodes that no image may have
abbrev pub refusal_among : List (ℕ × Seen) → Option ScanFault
refusal_among [] = None
refusal_among (s ∷ ss) = option_or (refusal_by s) (refusal_among ss)

-- those in front of that one, or all where there is none
abbrev pub before_refusal : List (ℕ × Seen) → List (ℕ × Seen)
before_refusal ss = before_first (λ s. is_some (refusal_by s)) ss

-- the refusal of an image: that of least address
abbrev pub first_refused : Endian → ℕ → List ℕ → Option ScanFault
first_refused e size image = refusal_among (sightings e size image)

-- the nodes in front of it, in order
abbrev pub nodes_before_refusal : Endian → ℕ → List ℕ → List (ℕ × NodeRef)
nodes_before_refusal e size image =
    filter_map node_sighted (before_refusal (sightings e size image))

-- ---- answers

-- the faults that come before any byte is read
abbrev pub IsUnread : ScanFault → Type 0
IsUnread fault.BlockSize = ⊤
IsUnread fault.TooLarge = ⊤
IsUnread fault.OutOfMemory = ⊥
IsUnread (fault.Incompatible addr nodetype) = ⊥
IsUnread (fault.Compressed addr compr) = ⊥

-- the faults that are no node's
abbrev pub IsNoNode : ScanFault → Type 0
IsNoNode fault.BlockSize = ⊤
IsNoNode fault.TooLarge = ⊤
IsNoNode fault.OutOfMemory = ⊤
IsNoNode (fault.Incompatible addr nodetype) = ⊥
IsNoNode (fault.Compressed addr compr) = ⊥

-- the answer of a scan of an image
abbrev pub Scans : Endian → ℕ → List ℕ → Result Scan ScanFault → Type 0
Scans e size image (Ok scan) =
    IsScannable size image × (first_refused e size image ≡ None)
    × (scan.nodes.items ≡ nodes e size image)
    × (scan.findings.items ≡ findings e size image) × (scan.read_only ≡ is_read_only e size image)
Scans e size image (Err fault.BlockSize) = IsFalse (is_block_size size)
Scans e size image (Err fault.TooLarge) =
    IsTrue (is_block_size size) × (greatest_image < length image)
Scans e size image (Err (fault.Incompatible addr nodetype)) =
    IsScannable size image × (first_refused e size image ≡ Some (fault.Incompatible addr nodetype))
Scans e size image (Err (fault.Compressed addr compr)) =
    IsScannable size image × (first_refused e size image ≡ Some (fault.Compressed addr compr))
Scans e size image (Err fault.OutOfMemory) = IsScannable size image

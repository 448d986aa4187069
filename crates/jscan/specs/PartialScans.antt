-- What a partial scan has.
use Rattle.std.specs.Prelude.{◌≡◌, ℕ, Bool, false, None, List, [], ◌++◌, ◌||◌, filter_map, option_map, option_to_list}
use Rattle.std.specs.List.{list_any}
use Rattle.jnode.specs.declared.order.Endian.{Endian}
use Rattle.jnode.specs.Reading.{node_in}
use Rattle.jnode.specs.declared.node.NodeRef.{NodeRef}
use Rattle.jscan.specs.Findings.{finding_of}
use Rattle.jscan.specs.Extents.{sighted}
use Rattle.jscan.specs.Image.{node_sighted}
use Rattle.jscan.specs.Scans.{IsScannable, forbids_writing, refusal_among, before_refusal, first_refused, nodes_before_refusal, findings, is_read_only}
use Rattle.jscan.specs.declared.answer.PartialScan.{PartialScan}
use Rattle.jscan.specs.declared.extent.ExtentKind.{ExtentKind}
use Rattle.jscan.specs.declared.extent.ExtentKind.TheVariants.{Tiled}
use Rattle.jscan.specs.declared.extent.Extent.{Extent}

-- It has scanned these extents in order: all of them, or up to the first that no image may have.
pub record HasScanned (ss : List Extent) (partial : PartialScan) : Type 0 where
  pub refused : partial.refused ≡ refusal_among (filter_map sighted ss)
  pub nodes : partial.nodes.items ≡ filter_map node_sighted (before_refusal (filter_map sighted ss))
  pub findings : partial.refused ≡ None → partial.findings.items ≡ filter_map finding_of ss
  pub read_only : partial.refused ≡ None
      → partial.read_only ≡ list_any (λ s. forbids_writing s.1) (filter_map sighted ss)

-- it is the scan of an image
pub record IsScanOf (e : Endian) (size : ℕ) (image : List ℕ) (partial : PartialScan) : Type 0 where
  pub scannable : IsScannable size image
  pub refused : partial.refused ≡ first_refused e size image
  pub nodes : partial.nodes.items ≡ nodes_before_refusal e size image
  pub findings : partial.refused ≡ None → partial.findings.items ≡ findings e size image
  pub read_only : partial.refused ≡ None → partial.read_only ≡ is_read_only e size image

-- ---- one extent more

-- the node at an address, if one is there
abbrev pub node_at : ℕ → ExtentKind → List (ℕ × NodeRef)
node_at addr (Tiled what) = option_to_list (option_map (λ node. (addr, node)) (node_in what))
node_at addr _ = []

abbrev pub is_forbidding : ExtentKind → Bool
is_forbidding (Tiled what) = forbids_writing what
is_forbidding _ = false

pub record Adds (old new : PartialScan) (s : Extent) : Type 0 where
  pub nodes : new.nodes.items ≡ old.nodes.items ++ node_at s.addr s.kind
  pub findings : new.findings.items ≡ old.findings.items ++ option_to_list (finding_of s)
  pub read_only : new.read_only ≡ (old.read_only || is_forbidding s.kind)
  pub refused : new.refused ≡ old.refused

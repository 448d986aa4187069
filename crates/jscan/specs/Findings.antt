-- What a scan finds beside the nodes, and what it refuses.
use Rattle.std.specs.Prelude.{ℕ, Option, Some, None, option_map}
use Rattle.jnode.specs.declared.node.Seen.{Seen}
use Rattle.jnode.specs.declared.node.Seen.TheVariants as seen
use Rattle.jscan.specs.declared.finding.Finding.{Finding}
use Rattle.jscan.specs.declared.finding.FindingKind.{FindingKind}
use Rattle.jscan.specs.declared.finding.FindingKind.TheVariants as kind
use Rattle.jscan.specs.declared.geometry.ScanFault.{ScanFault}
use Rattle.jscan.specs.declared.geometry.ScanFault.TheVariants as fault
use Rattle.jscan.specs.declared.extent.ExtentKind.{ExtentKind}
use Rattle.jscan.specs.declared.extent.ExtentKind.TheVariants.{Tiled, Erased, OtherOrder, Dirt}
use Rattle.jscan.specs.declared.extent.Extent.{Extent}

-- a node that does not read as one, or that is not of the file system itself
abbrev pub found_node : Seen → Option FindingKind
found_node (seen.Damaged which) = Some (kind.Damaged which)
found_node seen.Attribute = Some kind.Attribute
found_node (seen.ReadOnly nodetype) = Some (kind.ReadOnly nodetype)
found_node _ = None

abbrev pub found : ExtentKind → Option FindingKind
found (Tiled what) = found_node what
found Erased = None
found OtherOrder = Some kind.OtherOrder
found Dirt = Some kind.Dirt

-- rule: Blocks and images: Findings.
--   definitions: jscan.Findings.finding_of
--   code: jscan::finding::finding
--   laws: jscan::examples::no_length_is_dirt
-- what of an extent is a finding
abbrev pub finding_of : Extent → Option Finding
finding_of s = option_map (λ what. record { addr = s.addr; kind = what }) (found s.kind)

-- a node that no image may have here: one that may not be skipped, or a sound one whose data are
-- compressed
abbrev pub refused_node : ℕ → Seen → Option ScanFault
refused_node addr (seen.Incompatible nodetype) = Some (fault.Incompatible addr nodetype)
refused_node addr (seen.Compressed compr) = Some (fault.Compressed addr compr)
refused_node addr _ = None

abbrev pub refused : ℕ → ExtentKind → Option ScanFault
refused addr (Tiled what) = refused_node addr what
refused addr _ = None

-- rule: Blocks and images: What refuses a scan, by the least address.
--   definitions: jscan.Findings.refusal_of, jscan.Scans.first_refused
--   code: jscan::finding::refusal, jscan::scanning::scan
--   laws: jscan::laws::refusal_is_first
-- why no image may have this extent
abbrev pub refusal_of : Extent → Option ScanFault
refusal_of s = refused s.addr s.kind

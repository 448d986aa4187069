-- What putting the bytes of a revision answers.
use Rattle.std.specs.Prelude.{◌≡◌, ◌<◌, ℕ, IsTrue, IsFalse, List, length, Option, Some, None, Result, Ok, Err}
use Rattle.std.specs.Io.KnownBytes.{Appends}
use Rattle.std.specs.Option.{is_some}
use Rattle.flashbase.specs.Device.{PutsPart, next_count}
use Rattle.flashbase.specs.Sinks.{SinkChange}
use Rattle.jnode.specs.declared.node.NodeRef.{NodeRef}
use Rattle.jnode.specs.declared.order.Endian.{Endian}
use Rattle.jscan.specs.Image.{is_block_size, greatest_image}
use Rattle.jscan.specs.Scans.{IsScannable}
use Rattle.jexpand.specs.Expanded.{expanded_nodes}
use Rattle.jmount.specs.Clash.{NoneClash}
use Rattle.jmount.specs.Collected.{FirstClash}
use Rattle.jmount.specs.Mount.{Mount}
use Rattle.jmount.specs.StateOf.{state_of}
use Rattle.jmount.specs.Tree.{ObjectOf, is_directory}
use Rattle.jthrough.specs.View.{placed_nodes}
use Rattle.jthrough.specs.declared.fault.ViewFault.{ViewFault}
use Rattle.jthrough.specs.declared.fault.ViewFault.TheVariants as view
use Rattle.jversions.specs.Revisions.{content_if, nodes_upto, object_upto}
use Rattle.jversions.specs.Taking.{IsFirstRefused}
use Rattle.jversions.specs.Tiles.{AreTilesHeld, tiles_upto}
use Rattle.jversions.specs.declared.fault.RevisionFault.{RevisionFault}
use Rattle.jversions.specs.declared.fault.RevisionFault.TheVariants as fault
use Rattle.jversions.specs.declared.revision.Revision.{Revision}

-- ---- the nodes of a revision of an image

-- the image's nodes, decompressed, that are of the revision
abbrev pub image_upto : Revision → Endian → ℕ → List ℕ → List NodeRef
image_upto r e size image = nodes_upto r (expanded_nodes e size image)

-- The image is read, no data of these nodes are refused, and no two of the nodes clash.
pub record AreNodesSound (r : Revision) (e : Endian) (size : ℕ) (image : List ℕ) : Type 0 where
  pub scannable : IsScannable size image
  pub held : AreTilesHeld e size image (tiles_upto r e size image)
  pub apart : NoneClash (image_upto r e size image)

-- And by them the root is a directory: so they mount.
pub record IsRevision (r : Revision) (e : Endian) (size : ℕ) (image : List ℕ) : Type 0 where
  pub sound : AreNodesSound r e size image
  pub root : IsTrue (is_directory (state_of (image_upto r e size image)) 1)

-- why they do not mount
abbrev pub IsNoRevision : Revision → Endian → ℕ → List ℕ → ViewFault → Type 0
IsNoRevision r e size image view.BlockSize = IsFalse (is_block_size size)
IsNoRevision r e size image view.TooLarge =
    IsTrue (is_block_size size) × (greatest_image < length image)
IsNoRevision r e size image (view.Compressed addr compr) = IsScannable size image
    × IsFirstRefused e size image (tiles_upto r e size image) (view.Compressed addr compr)
IsNoRevision r e size image (view.Data addr) = IsScannable size image
    × IsFirstRefused e size image (tiles_upto r e size image) (view.Data addr)
IsNoRevision r e size image (view.TooLong addr) = IsScannable size image
    × IsFirstRefused e size image (tiles_upto r e size image) (view.TooLong addr)
IsNoRevision r e size image (view.Clash addr) = IsScannable size image
    × AreTilesHeld e size image (tiles_upto r e size image)
    × FirstClash (placed_nodes e size image (tiles_upto r e size image)) addr
IsNoRevision r e size image view.RootKind = AreNodesSound r e size image
    × IsFalse (is_directory (state_of (image_upto r e size image)) 1)
IsNoRevision r e size image view.OutOfMemory = IsScannable size image
IsNoRevision r e size image (view.Incompatible addr nodetype) = ⊥

-- the answer of a mount of these nodes alone
abbrev pub AnswersRevision : Revision → Endian → ℕ → List ℕ → Result Mount ViewFault → Type 0
AnswersRevision r e size image (Ok mount) =
    IsRevision r e size image × (mount.state ≡ state_of (image_upto r e size image))
AnswersRevision r e size image (Err why) = IsNoRevision r e size image why

-- ---- bytes that are put

-- of an object, if it is there and has bytes
abbrev pub PutsObject : {T : Type 0} → Option (ObjectOf (List ℕ)) → SinkChange
    → Result T RevisionFault → Type 0
PutsObject o sink (Ok _) =
    (bytes : List ℕ) × (content_if o ≡ Some bytes) × Appends sink.old sink.new bytes
    × (sink.now ≡ sink.before)
PutsObject o sink (Err fault.Output) =
    (bytes : List ℕ) × (content_if o ≡ Some bytes) × PutsPart sink.old sink.new bytes
    × (sink.now ≡ next_count sink.before)
PutsObject o sink (Err fault.NoNode) =
    (o ≡ None) × (sink.new ≡ sink.old) × (sink.now ≡ sink.before)
PutsObject o sink (Err fault.NoContent) =
    IsTrue (is_some o) × (content_if o ≡ None) × (sink.new ≡ sink.old)
    × (sink.now ≡ sink.before)
PutsObject o sink (Err (fault.Refused why)) = ⊥

-- the nodes of a revision mount, and the bytes of its object are put
abbrev pub PutsShown : {T : Type 0} → Revision → Endian → ℕ → List ℕ → SinkChange
    → Result T RevisionFault → Type 0
PutsShown r e size image sink answer = IsRevision r e size image
    × PutsObject (object_upto r (expanded_nodes e size image)) sink answer

-- of a revision of an image; if its nodes do not mount, nothing is put
abbrev pub PutsRevision : {T : Type 0} → Revision → Endian → ℕ → List ℕ → SinkChange
    → Result T RevisionFault → Type 0
PutsRevision r e size image sink (Ok done) = PutsShown r e size image sink (Ok done)
PutsRevision {T} r e size image sink (Err fault.Output) =
    PutsShown {T = T} r e size image sink (Err fault.Output)
PutsRevision {T} r e size image sink (Err fault.NoNode) =
    PutsShown {T = T} r e size image sink (Err fault.NoNode)
PutsRevision {T} r e size image sink (Err fault.NoContent) =
    PutsShown {T = T} r e size image sink (Err fault.NoContent)
PutsRevision r e size image sink (Err (fault.Refused why)) =
    IsNoRevision r e size image why × (sink.new ≡ sink.old) × (sink.now ≡ sink.before)
